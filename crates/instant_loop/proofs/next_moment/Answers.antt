-- The two cases of the test.
use borrow.Author.Tests.{lt-ltb, le-ltb}
use Rattle.instant_loop.proofs.next_moment.Goals as goal

pub returns-then-due-t : goal.returns-then-due-t
returns-then-due-t c = rw (lt-ltb _ _ c.if-due-t.true)

pub returns-else-due-t : goal.returns-else-due-t
returns-else-due-t c = rw (le-ltb _ _ c.if-due-t.false)
