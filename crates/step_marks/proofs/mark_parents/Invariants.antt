use Prim.Native.Nat.{◌-◌}
use mathlib.Core.Path.{◌≡◌}
use lib.ListN.{get_or}
use Rattle.spec_step.specs.TableStep.{raised}
use Rattle.spec_step.specs.Tables.{count_at}
use Rattle.spec_step.specs.Flags.{marks_in, reached_in}
use Rattle.step_marks.proofs.mark_parents.Given as goal

abbrev pub invariant-loop-c : goal.invariant-loop-c
invariant-loop-c l = (raised l.tables (l.c - 1) (marks_in l.flags) ≡ raised l.tables (get_or l.tables count_at 0 - 1) (marks_in l.initial.flags)) ×
    (reached_in l.flags ≡ reached_in l.initial.flags)
