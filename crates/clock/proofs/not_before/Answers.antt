-- The two cases of a due moment.
use Rattle.definition.specs.SavedRun.{not_before}
use Rattle.clock.proofs.not_before.Goals as goal

pub returns-in_default : goal.returns-in_default
unfolding not_before
returns-in_default c = rw c.in_default.is

pub returns : goal.returns
unfolding not_before
returns c = rw c.in-Some.is
