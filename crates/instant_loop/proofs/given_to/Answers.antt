-- The two cases of the test.
use borrow.Author.Tests.{lt-ltb, le-ltb}
use Rattle.instant_loop.proofs.given_to.Goals as goal

pub returns-then-at-t : goal.returns-then-at-t
returns-then-at-t c = rw (lt-ltb c.args.at.0 c.args.t.0 c.if-at-t.true)

pub returns-else-at-t : goal.returns-else-at-t
returns-else-at-t c = rw (le-ltb c.args.at.0 c.args.t.0 c.if-at-t.false)
