-- A store behind the marks sets what may be reached (`drop-set-add`), and leaves them (`take-set-le`).
use native.Mathlib.Omega.{arith}
use lib.Seq.{take-set-le, drop-set-add}
use Prim.Native.Nat.{◌+◌}
use Rattle.definition.specs.Limits.{max_components}
use Rattle.spec_step.specs.Flags.{marks_in, reached_in}
use Rattle.step_marks.proofs.put_reach.Goals as goal

pub returns : goal.returns
unfolding marks_in reached_in
returns c =
    let a = c.args in
    record {
      reached = drop-set-add max_components a.flags.now a.c a.up;
      others = take-set-le max_components a.flags.now (max_components + a.c) a.up (omega arith);
    }
