-- The atomics so far and those that are left are all; one atomic more is one store more.
use Rattle.step_marks.proofs.Laws.{marked_more, marked-none}
use Rattle.spec_step.specs.Flags.{marks_in}
use Rattle.run_state.specs.Held.{held_in, ends_in}
use mathlib.Core.Path.{◌∙◌}
use native.Mathlib.Omega.{arith}
use Rattle.step_marks.proofs.mark_atomics.Goals as goal

pub loop-i-preserved : goal.loop-i-preserved
loop-i-preserved c =
    let a = c.args in
    let l = c.loop-i in
    let put = c.put_mark.ensures in
    let more = marked_more a.tables.now a.at.0 (held_in a.state.now).phase (ends_in a.state.now) a.n l.i (marks_in l.flags) (omega arith) in
    (rw (put.marks, c.mark_of-mark.ensures, c.row_in-c.ensures) (more ∙ l.invariant.0), put.others ∙ l.invariant.1)

pub returns : goal.returns
returns c =
    let a = c.args in
    let l = c.loop-i in
    let none = marked-none a.tables.now a.at.0 (held_in a.state.now).phase (ends_in a.state.now) a.n l.i (marks_in l.flags) (omega arith) in
    record { marks = none ∙ l.invariant.0; others = l.invariant.1 }
