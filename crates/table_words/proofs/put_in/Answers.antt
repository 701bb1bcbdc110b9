-- One store where the region has the row, none otherwise: the two sides of the definition's test. Assumes nothing.
use borrow.Author.Rules.{rules}
use Rattle.table_words.specs.Writes.{put_in}
use borrow.Author.Tests.{lt-ltb, le-ltb}
use Rattle.table_words.proofs.put_in.Goals as goal

pub returns-then-k-size : goal.returns-then-k-size
unfolding put_in
returns-then-k-size c = (rw (lt-ltb _ _ c.if-k-size.true))

pub returns-else-k-size : goal.returns-else-k-size
unfolding put_in
returns-else-k-size c = (rw (le-ltb _ _ c.if-k-size.false))
