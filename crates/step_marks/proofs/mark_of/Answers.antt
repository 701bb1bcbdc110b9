-- The mark where the due moment has come, 0 otherwise.
use Rattle.spec_step.specs.Carried.{end_mark}
use Rattle.spec_step.specs.TableStep.{record_of}
use borrow.Author.Tests.{eq-eqb, ne_eqb}
use Rattle.run_state.specs.Held.{ends_in}
use lib.ListN.{get_or}
use Rattle.step_marks.proofs.mark_of.Goals as goal

pub returns-then-end_at-at : goal.returns-then-end_at-at
unfolding end_mark record_of
returns-then-end_at-at c =
    let a = c.args in
    rw (eq-eqb (get_or (ends_in a.state.now) a.i 0) a.at.0 (rw c.end_at.ensures at c.if-end_at-at.true))
    (rw c.phase_at.ensures at c.mark_for.ensures)

pub returns-else-end_at-at : goal.returns-else-end_at-at
unfolding end_mark
returns-else-end_at-at c =
    let a = c.args in
    rw (ne_eqb (get_or (ends_in a.state.now) a.i 0) a.at.0 (rw c.end_at.ensures at c.if-end_at-at.false))
