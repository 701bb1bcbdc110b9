use Prim.Native.Nat.{ℕ, ◌-◌}
use mathlib.Core.Path.{◌≡◌}
use lib.ListN.{get_or}
use Rattle.table_couplings.specs.Links.{source_in}
use Rattle.accept_ways.specs.Words.{ways_down}
use Rattle.accept_ways.proofs.ways_down.Given as goal

-- the links left, over the table as it stands, give the whole
abbrev pub invariant-loop-j : goal.invariant-loop-j
invariant-loop-j l = let src = source_in l.tables in
    let tgt = λ (k : ℕ). get_or l.targets k 0 in
    ways_down src tgt (l.j - 1) l.ways ≡ ways_down src tgt l.n l.initial.ways
