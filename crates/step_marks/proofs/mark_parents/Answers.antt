-- From the last component down to the first: the components that are left, over the marks so far, are all. The loop's variable is the one
-- above the next component.
use native.Mathlib.Omega.{arith}
use Prim.Native.Nat.{◌-◌}
use mathlib.Core.Path.{◌∙◌}
use Rattle.spec_step.specs.Flags.{marks_in}
use Rattle.step_marks.proofs.Laws.{raised-more, raised-none}
use Rattle.step_marks.proofs.mark_parents.Goals as goal

pub loop-c-preserved : goal.loop-c-preserved
loop-c-preserved c =
    let a = c.args in
    let l = c.loop-c in
    let put = c.mark_parent.ensures in
    (rw put.marks (raised-more a.tables.now (l.c - 1) (marks_in l.flags) (omega arith)) ∙ l.invariant.0, put.others ∙ l.invariant.1)

pub returns : goal.returns
returns c =
    let a = c.args in
    let l = c.loop-c in
    record { marks = raised-none a.tables.now (l.c - 1) (marks_in l.flags) (omega arith) ∙ l.invariant.0; others = l.invariant.1 }
