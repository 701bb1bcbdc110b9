use Prim.Native.Nat.{ℕ, ◌+◌, ◌-◌}
use mathlib.Core.Path.{◌≡◌}
use lib.ListN.{get_or}
use Rattle.table_couplings.specs.Links.{source_in}
use Rattle.accept_ways.specs.Words.{ways_up}
use Rattle.accept_ways.proofs.ways_up.Given as goal

-- the links left, over the table as it stands, give the whole
abbrev pub invariant-loop-j : goal.invariant-loop-j
invariant-loop-j l = let src = source_in l.tables in
    let tgt = λ (k : ℕ). get_or l.targets k 0 in
    ways_up src tgt (l.n + 1 - l.j) l.j l.ways ≡ ways_up src tgt l.n 1 l.initial.ways
