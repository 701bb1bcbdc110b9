use Rattle.spec_step.specs.Carried.{end_marked}
use Rattle.spec_step.specs.Flags.{marks_in, reached_in}
use Rattle.run_state.specs.Held.{held_in, ends_in}
use mathlib.Core.Path.{◌≡◌}
use Prim.Native.Nat.{◌-◌}
use Rattle.step_marks.proofs.mark_atomics.Given as goal

abbrev pub invariant-loop-i : goal.invariant-loop-i
invariant-loop-i l = (end_marked l.tables l.at.0 (held_in l.state).phase (ends_in l.state) (l.n - l.i) l.i (marks_in l.flags) ≡ end_marked l.tables l.at.0 (held_in l.state).phase (ends_in l.state) l.n 0 (marks_in l.initial.flags)) ×
    (reached_in l.flags ≡ reached_in l.initial.flags)
