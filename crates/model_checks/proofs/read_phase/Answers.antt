-- `model_checks::read_phase` meets its contract. The record where its tests pass (keeps), 6 where one does not (breaks). Assumes nothing.
use mathlib.Core.Path.{sym, ◌∙◌}
use Rattle.model_checks.proofs.Laws.{keeps, breaks}
use Rattle.model_checks.proofs.Slots.{numbers-break, slots-break, phase-keeps}
use Rattle.model_checks.proofs.read_phase.Goals as goal
use Rattle.model_checks.proofs.read_phase.Goals.{else-phase_numbers-via-then-phase_numbers+else-slots_fit, else-phase_numbers-via-else-phase_numbers}

pub returns-then-slots_fit : goal.returns-then-slots_fit
returns-then-slots_fit c =
    rw (← c.phase_in-phase.ensures) (sym (keeps _ 6 _ (phase-keeps _ _ (sym c.phase_numbers.ensures ∙ c.if-phase_numbers.true) (sym c.slots_fit.ensures ∙ c.if-slots_fit.true))))

pub returns-else-phase_numbers : goal.returns-else-phase_numbers
returns-else-phase_numbers c =
    elim c.else-phase_numbers.branch [
      | else-phase_numbers-via-then-phase_numbers+else-slots_fit w ↦ rw (← c.phase_in-phase.ensures) (sym (breaks _ 6 _ (slots-break _ _ (sym w.slots_fit.ensures ∙ w.if-slots_fit.false))))
      | else-phase_numbers-via-else-phase_numbers w ↦ rw (← c.phase_in-phase.ensures) (sym (breaks _ 6 _ (numbers-break _ _ (sym c.phase_numbers.ensures ∙ w.if-phase_numbers.false))))
    ]
