-- The root's due moment is the whole model's.
use Rattle.spec_step.specs.Carried.{next_end}
use Rattle.step_due.proofs.next_end.Goals as goal

pub returns : goal.returns
unfolding next_end
returns c = c.end_below.ensures
