-- The first phase record of the component and the phase.
use Rattle.spec_step.specs.TableStep.{record_of}
use Rattle.step_due.proofs.record_of.Goals as goal

pub returns : goal.returns
unfolding record_of
returns c = rw c.row_in.ensures
