use Prim.Native.Nat.{◌-◌, ◌*◌}
use mathlib.Core.Path.{◌≡◌}
use Rattle.model_records.specs.Values.{components_in}
use Rattle.spec_step.specs.Tables.{port_nodes}
use Rattle.table_words.specs.Writes.{column}
use Rattle.table_couplings.specs.Links.{flag_at}
use Rattle.table_couplings.proofs.mark_ports.Given as goal

-- the flags left to write, over what stands now, make the whole column
abbrev pub invariant-loop-c : goal.invariant-loop-c
invariant-loop-c l = let f = flag_at l.sources (components_in l.components) in
    column l.at f (port_nodes * l.n - port_nodes * l.c) (port_nodes * l.c) l.t ≡ column l.at f (port_nodes * l.n) 0 l.initial.t
