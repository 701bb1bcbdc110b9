-- The root is tested for; every other component's rank is its position and 1, as the definition has it.
use native.Mathlib.Omega.{arith}
use Rattle.flat_ranks.specs.Ranks.{rank_of}
use borrow.Author.Tests.{eq-eqb, ne_eqb}
use lib.ListN.{get_or}
use Prim.Native.Nat.{suc, ◌+◌}
use mathlib.Core.Path.{◌≡◌}
use Rattle.flat_ranks.proofs.rank_of.Goals as goal

pub returns-then-c-eq0 : goal.returns-then-c-eq0
unfolding rank_of
returns-then-c-eq0 c = let a = c.args in rw (eq-eqb a.c 0 c.if-c-eq0.true)

pub returns : goal.returns
unfolding rank_of
returns c =
    let a = c.args in let e : get_or a.tables.now (64 + a.c) 0 + 1 ≡ suc (get_or a.tables.now (64 + a.c) 0) = omega arith in
    rw (ne_eqb a.c 0 c.if-c-eq0.false, c.word_at.ensures) e
