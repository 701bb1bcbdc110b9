use Prim.Native.Nat.{ℕ, ◌≤◌, ◌-◌, ◌+◌, ◌*◌, min}
use mathlib.Core.Path.{◌≡◌}
use mathlib.Core.Bool.{cond}
use mathlib.Core.List.{List}
use Rattle.definition.specs.Model.{Component, is_atomic}
use Rattle.definition.specs.Lists.{up_from}
use Rattle.definition.specs.Limits.{port_count}
use Rattle.law_base.proofs.Sums.{sum_of}
use Rattle.law_routes.specs.Nodes.{port_nodes}
use Rattle.law_routes.specs.Ways.{ways_cap, four, table_routes}
use Rattle.model_records.specs.Values.{components_in}
use Rattle.accept_routes.proofs.route_total.Given as goal

-- what the atomic c adds
abbrev pub own : List Component → List ℕ → ℕ → ℕ
own cs ways c = cond (is_atomic cs c) (four ways (port_nodes * c + port_count)) 0

abbrev pub invariant-loop-c : goal.invariant-loop-c
invariant-loop-c l = (l.total ≤ ways_cap) × (min ways_cap (l.total + sum_of (own (components_in l.components) l.ways) (up_from l.c (l.c-end - l.c))) ≡ min ways_cap (table_routes (components_in l.components) l.ways))
