use Prim.Native.Nat.{ℕ, ◌-◌, ◌+◌, ◌*◌}
use mathlib.Core.Path.{◌≡◌}
use lib.ListN.{get_or}
use Rattle.definition.specs.Limits.{max_components}
use Rattle.spec_step.specs.Tables.{port_nodes, live_at}
use Rattle.table_words.proofs.Columns.{Within}
use Rattle.table_couplings.specs.Links.{source_in, spread_up}
use Rattle.table_couplings.proofs.spread_up.Given as goal

-- only flags have changed, and the links left, over the table as it stands, give the whole
abbrev pub invariant-loop-j : goal.invariant-loop-j
invariant-loop-j l = let src = source_in l.initial.t in
    let tgt = λ (k : ℕ). get_or l.targets k 0 in
    Within live_at (live_at + port_nodes * max_components) l.initial.t l.t × (spread_up src tgt (l.j - 1) l.t ≡ spread_up src tgt l.n l.initial.t)
