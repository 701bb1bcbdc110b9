-- The components so far and those that are left are all; one component more is one store more.
use native.Mathlib.Omega.{arith}
use mathlib.Core.Path.{◌∙◌}
use Rattle.spec_step.specs.Flags.{marks_in, reached_in}
use Rattle.step_marks.proofs.Laws.{truth, flags-more, flags-none}
use Rattle.step_marks.proofs.flag_components.Goals as goal

pub loop-c-preserved : goal.loop-c-preserved
loop-c-preserved c =
    let a = c.args in
    let l = c.loop-c in
    let put = c.put_reach.ensures in
    let more = flags-more a.tables.now (marks_in a.flags.now) (reached_in l.flags) c.word_in-count.result l.c (omega arith) in
    (l.invariant.0, put.others ∙ l.invariant.1, rw (put.reached, c.from-up.ensures, truth c.may_reach.result, c.may_reach.ensures, l.invariant.1) more ∙ l.invariant.2)

pub returns : goal.returns
returns c =
    let a = c.args in
    let l = c.loop-c in
    let none = flags-none a.tables.now (marks_in a.flags.now) (reached_in l.flags) c.word_in-count.result l.c (omega arith) in
    record { reached = none ∙ l.invariant.2; others = l.invariant.1 }
