use Prim.Native.Nat.{ℕ, ◌-◌, ◌+◌, ◌*◌}
use mathlib.Core.Path.{◌≡◌}
use lib.ListN.{get_or}
use Rattle.definition.specs.Limits.{max_components}
use Rattle.spec_step.specs.Tables.{port_nodes, live_at}
use Rattle.table_words.proofs.Columns.{Within}
use Rattle.table_couplings.specs.Links.{source_in, spread_down}
use Rattle.table_couplings.proofs.spread_down.Given as goal

-- only flags have changed, and the links left, over the table as it stands, give the whole
abbrev pub invariant-loop-j : goal.invariant-loop-j
invariant-loop-j l = let src = source_in l.initial.t in
    let tgt = λ (k : ℕ). get_or l.targets k 0 in
    Within live_at (live_at + port_nodes * max_components) l.initial.t l.t × (spread_down src tgt (l.n + 1 - l.j) l.j l.t ≡ spread_down src tgt l.n 1 l.initial.t)
