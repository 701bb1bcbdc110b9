-- The record with that number.
use Rattle.spec_step.specs.TableStep.{record_of, phase_in}
use Rattle.step_due.proofs.phase_in.Goals as goal

pub returns : goal.returns
unfolding phase_in record_of
returns c = rw c.record_of.ensures at c.phase_at.ensures
