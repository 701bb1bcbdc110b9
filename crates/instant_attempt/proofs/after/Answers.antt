-- The two cases of the definition, by the number of steps; the sums fit by what is asked.
use borrow.Author.Tests.{eq-eqb, ne_eqb}
use Rattle.instant_attempt.specs.Pass.{after_of}
use Rattle.instant_attempt.proofs.after.Goals as goal

pub returns-then-steps-eq0 : goal.returns-then-steps-eq0
unfolding after_of
returns-then-steps-eq0 c = rw (eq-eqb c.args.steps 0 c.if-steps-eq0.true)

pub returns : goal.returns
unfolding after_of
returns c = rw (ne_eqb c.args.steps 0 c.if-steps-eq0.false)
