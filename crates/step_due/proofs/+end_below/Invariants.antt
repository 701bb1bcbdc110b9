-- The lesser of the least so far and the least of the children that are left is the least of all. The measure is how many component
-- numbers are left above: a child is numbered above its parent.
use Prim.Native.Nat.{◌<◌, ◌≤◌, ◌-◌, min}
use mathlib.Core.Path.{◌≡◌}
use Rattle.definition.specs.Limits.{max_components, never_moment}
use Rattle.run_state.specs.Held.{ends_in}
use Rattle.spec_step.specs.Carried.{least_end, end_below}
use Rattle.step_due.proofs.Laws.{levels_left, children_from}
use Rattle.step_due.proofs.+end_below.Given as goal

abbrev pub decreases-end_below : goal.decreases-end_below
decreases-end_below l = max_components - l.c

abbrev pub invariant-loop : goal.invariant-loop
invariant-loop l =
    (l.d < max_components) × (0 < l.d → l.c < l.d) × (l.least ≤ never_moment) ×
    (min l.least (least_end (end_below l.tables (ends_in l.state) levels_left) (children_from l.tables (max_components - l.counter) l.d))
    ≡ end_below l.tables (ends_in l.state) max_components l.c)
