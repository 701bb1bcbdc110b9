use Prim.Native.Nat.{◌≤◌, ◌-◌}
use mathlib.Core.Path.{◌≡◌}
use Rattle.model_records.specs.Values.{components_in}
use Rattle.table_components.specs.Columns.{numbered}
use Rattle.table_components.proofs.put_numbers.Given as goal

-- the components left, from the table and position as they stand, give the whole
abbrev pub invariant-loop-c : goal.invariant-loop-c
invariant-loop-c l = (l.i ≤ l.c) × (numbered (components_in l.components) (l.n - l.c) l.c (l.t, l.i) ≡ numbered (components_in l.components) l.n 0 (l.initial.t, 0))
