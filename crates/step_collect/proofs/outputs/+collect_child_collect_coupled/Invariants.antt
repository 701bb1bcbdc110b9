-- What is put so far and what the rest of the chain gives is all that leaves the component. The measures are twice the depth, and one
-- more for the child.
use Prim.Native.Nat.{◌+◌, ◌-◌, ◌*◌}
use Rattle.spec_step.specs.Put.{puts}
use Rattle.step_collect.specs.Collected.{leaving, leaving_child}
use Rattle.step_collect.proofs.Laws.{Turn}
use Rattle.step_collect.proofs.outputs.+collect_child_collect_coupled.Given as goal

abbrev pub decreases-collect_child : goal.decreases-collect_child
decreases-collect_child l = 2 * l.depth + 1

abbrev pub decreases-collect_coupled : goal.decreases-collect_coupled
decreases-collect_coupled l = 2 * l.depth

abbrev pub invariant-collect_coupled-loop : goal.invariant-collect_coupled-loop
invariant-collect_coupled-loop l =
    Turn (leaving_child l.phases l.tables l.flags (l.depth - 1)) l.tables l.port l.initial.buf
    (puts l.port (leaving l.phases l.tables l.flags l.depth l.target) (l.initial.buf, l.end)) l.buf l.next l.counter l.link
