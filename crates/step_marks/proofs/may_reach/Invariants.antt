use Prim.Native.Nat.{◌-◌}
use mathlib.Core.Path.{◌≡◌}
use Rattle.spec_step.specs.TableStep.{may_reach}
use Rattle.spec_step.specs.Flags.{marks_in, reached_in}
use Rattle.step_marks.proofs.may_reach.Given as goal

abbrev pub invariant-loop-q : goal.invariant-loop-q
invariant-loop-q l = may_reach l.tables (marks_in l.flags) (reached_in l.flags) l.c (4 - l.q) l.q ≡ may_reach l.tables (marks_in l.flags) (reached_in l.flags) l.c 4 0
