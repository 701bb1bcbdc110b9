-- A store in the front part of the flags sets its mark (`take-set-lt`), and leaves the other part (`drop-set-lt`).
use lib.Seq.{take-set-lt, drop-set-lt}
use Rattle.definition.specs.Limits.{max_components}
use Rattle.spec_step.specs.Flags.{marks_in, reached_in}
use Rattle.step_marks.proofs.put_mark.Goals as goal

pub returns : goal.returns
unfolding marks_in reached_in
returns c =
    let a = c.args in
    record {
      marks = take-set-lt max_components a.flags.now a.c a.mark c.requires;
      others = drop-set-lt max_components a.flags.now a.c a.mark c.requires;
    }
