-- The advance of the phase's record, after the moment.
use mathlib.Core.Path.{◌∙◌, ap}
use Rattle.definition.specs.Engine.{due_number}
use Rattle.spec_step.specs.TableStep.{due_in}
use Rattle.clock.specs.After.{due_after}
use Rattle.step_due.proofs.end_since.Goals as goal

pub returns : goal.returns
unfolding due_in due_after
returns c = c.due_number.ensures ∙ ap due_number (rw (ap (λ k. k.advance) c.phase_in-own.ensures) at c.due_after.ensures)
