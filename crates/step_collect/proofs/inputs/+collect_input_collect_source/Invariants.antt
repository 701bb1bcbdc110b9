-- What is put so far and what the rest of the chain gives is all that arrives at the input. The measures are twice the depth, and one
-- more for the source.
use Prim.Native.Nat.{◌+◌, ◌-◌, ◌*◌}
use Rattle.spec_step.specs.Put.{puts}
use Rattle.step_collect.specs.Collected.{arriving, arriving_from}
use Rattle.step_collect.proofs.Laws.{Turn}
use Rattle.step_collect.proofs.inputs.+collect_input_collect_source.Given as goal

abbrev pub decreases-collect_input : goal.decreases-collect_input
decreases-collect_input l = 2 * l.depth

abbrev pub decreases-collect_source : goal.decreases-collect_source
decreases-collect_source l = 2 * l.depth + 1

abbrev pub invariant-collect_input-loop : goal.invariant-collect_input-loop
invariant-collect_input-loop l =
    Turn (arriving_from l.phases l.tables l.flags l.given (l.depth - 1)) l.tables l.port l.initial.buf
    (puts l.port (arriving l.phases l.tables l.flags l.given l.depth l.target) (l.initial.buf, l.end)) l.buf l.next l.counter l.link
