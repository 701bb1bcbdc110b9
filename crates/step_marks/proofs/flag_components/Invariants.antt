use Prim.Native.Nat.{◌-◌}
use mathlib.Core.Path.{◌≡◌}
use lib.ListN.{get_or}
use Rattle.spec_step.specs.TableStep.{reached_from}
use Rattle.spec_step.specs.Tables.{count_at}
use Rattle.spec_step.specs.Flags.{marks_in, reached_in}
use Rattle.step_marks.proofs.flag_components.Given as goal

abbrev pub invariant-loop-c : goal.invariant-loop-c
invariant-loop-c l = (l.count ≡ get_or l.tables count_at 0) × (marks_in l.flags ≡ marks_in l.initial.flags) ×
    (reached_from l.tables (marks_in l.initial.flags) (l.count - l.c) l.c (reached_in l.flags)
    ≡ reached_from l.tables (marks_in l.initial.flags) (get_or l.tables count_at 0 - 1) 1 (reached_in l.initial.flags))
