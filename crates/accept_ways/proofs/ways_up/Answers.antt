-- One turn takes one link more (up_more); at the end none is left. Assumes nothing.
use native.Mathlib.Omega.{arith}
use Prim.Native.Nat.{ℕ, ◌+◌, ◌-◌}
use mathlib.Core.Path.{◌≡◌, sym, ap, ◌∙◌}
use lib.ListN.{get_or}
use Rattle.table_couplings.specs.Links.{source_in}
use Rattle.accept_ways.specs.Words.{ways_up}
use Rattle.accept_ways.proofs.Loops.{up_more, up_none}
use Rattle.accept_ways.proofs.ways_up.Goals as goal

pub loop-j-init : goal.loop-j-init
loop-j-init c = let z : c.args.n + 1 - 1 ≡ c.args.n = omega arith in rw z

pub take_side-requires : goal.take_side-requires
take_side-requires c =
    let w = c.requires.1 c.loop-j.j (omega arith) (omega arith) in
    (omega arith, w.0, w.1)

pub loop-j-preserved : goal.loop-j-preserved
loop-j-preserved c =
    let a = c.args in
    let l = c.loop-j in
    let src = source_in a.tables.now in
    let tgt : ℕ → ℕ = λ j. get_or a.targets.now j 0 in
    let z : a.n + 1 - (l.j + 1) ≡ a.n - l.j = omega arith in
    rw z (ap (ways_up src tgt (a.n - l.j) (l.j + 1)) c.take_side.ensures ∙ up_more src tgt a.n l.j l.ways c.loop-j-test.true ∙ l.invariant)

pub returns : goal.returns
returns c =
    let a = c.args in
    let l = c.loop-j in
    sym (up_none (source_in a.tables.now) (λ j. get_or a.targets.now j 0) a.n l.j l.ways (omega arith)) ∙ l.invariant
