-- The number of the phase record, and 1.
use native.Mathlib.Numerals.{add-one}
use Rattle.spec_step.specs.TableStep.{record_of}
use Rattle.step_marks.proofs.mark_for.Goals as goal

pub returns : goal.returns
unfolding record_of
returns c = rw c.row_in.ensures (add-one _)
