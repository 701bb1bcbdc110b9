-- The two cases of a due moment.
use Rattle.definition.specs.Engine.{due_number}
use Rattle.clock.proofs.due_number.Goals as goal

pub returns-in-Some : goal.returns-in-Some
unfolding due_number
returns-in-Some c = rw c.in-Some.is

pub returns-in-None : goal.returns-in-None
unfolding due_number
returns-in-None c = rw c.in-None.is
