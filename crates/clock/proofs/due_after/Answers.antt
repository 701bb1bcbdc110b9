-- The two cases of the advance field; the sum is `Moment.plus`.
use Rattle.definition.specs.Devs.{finite}
use Rattle.clock.specs.After.{due_after}
use mathlib.Core.Path.{ap}
use borrow.Author.Tests.{eq-eqb, ne_eqb}
use Rattle.clock.proofs.due_after.Goals as goal

pub returns-then-advance-eq-NEVER_FIELD : goal.returns-then-advance-eq-NEVER_FIELD
unfolding due_after
returns-then-advance-eq-NEVER_FIELD c = rw (eq-eqb _ _ c.if-advance-eq-NEVER_FIELD.true)

pub returns : goal.returns
unfolding due_after
returns c = rw (ne_eqb _ _ c.if-advance-eq-NEVER_FIELD.false) (ap finite c.plus.ensures)
