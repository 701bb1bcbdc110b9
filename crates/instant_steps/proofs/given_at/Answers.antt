-- The first step has all of the bag, and the others have its first 0 bytes.
use borrow.Author.Tests.{eq-eqb, ne_eqb}
use Rattle.instant_steps.proofs.given_at.Goals as goal

pub returns-then-step-eq0 : goal.returns-then-step-eq0
returns-then-step-eq0 c = rw (eq-eqb c.args.step 0 c.if-step-eq0.true)

pub returns-else-step-eq0 : goal.returns-else-step-eq0
returns-else-step-eq0 c = rw (ne_eqb c.args.step 0 c.if-step-eq0.false)
