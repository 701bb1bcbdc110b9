-- The parent is marked where the component's mark is up.
use lib.ListN.{get_or}
use borrow.Author.Tests.{eq-eqb, ne_eqb}
use mathlib.Core.Path.{◌≡◌, ◌∙◌, refl, sym}
use Rattle.spec_step.specs.TableStep.{is_up}
use Rattle.spec_step.specs.Flags.{marks_in}
use Rattle.step_marks.proofs.mark_parent.Goals as goal

pub returns-then-mark_at-ne0 : goal.returns-then-mark_at-ne0
unfolding is_up
returns-then-mark_at-ne0 c =
    let a = c.args in
    let k : c.mark_at.result ≡ get_or (marks_in a.flags.now) a.c 0 = c.mark_at.ensures in
    let put = c.put_mark.ensures in
    let up = ne_eqb (get_or (marks_in a.flags.now) a.c 0) 0 (λ q. c.if-mark_at-ne0.true (k ∙ q)) in
    record { marks = rw up (rw c.row_in.ensures at put.marks); others = put.others }

pub returns-else-mark_at-ne0 : goal.returns-else-mark_at-ne0
unfolding is_up
returns-else-mark_at-ne0 c =
    let a = c.args in
    let k : c.mark_at.result ≡ get_or (marks_in a.flags.now) a.c 0 = c.mark_at.ensures in
    let down = eq-eqb (get_or (marks_in a.flags.now) a.c 0) 0 (sym k ∙ c.if-mark_at-ne0.false) in
    record { marks = rw down; others = refl }
