-- The two stores are those of the definition, in its order; a key that has no row changes nothing. Assumes nothing.
use native.Mathlib.Omega.{arith}
use Rattle.table_words.specs.Writes.{link_at}
use lib.ListN.{length-set}
use borrow.Author.Tests.{lt-ltb, le-ltb}
use Rattle.table_words.proofs.link.Goals as goal

pub returns-then-k-size : goal.returns-then-k-size
unfolding link_at
returns-then-k-size c = rw (lt-ltb _ _ c.if-k-size.true)

pub bounds-t-first-then-k-size : goal.bounds-t-first-then-k-size
bounds-t-first-then-k-size c = simp length-set (omega arith)

pub returns-else-k-size : goal.returns-else-k-size
unfolding link_at
returns-else-k-size c = (rw (le-ltb _ _ c.if-k-size.false))
