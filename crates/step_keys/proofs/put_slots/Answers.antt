-- The slots put so far and the used ones from j on are all that the record uses; one slot more is one call more.
use native.Mathlib.Omega.{arith}
use Rattle.step_keys.proofs.Laws.{turn-first, turn_more, turn_end, length-outputs, output-at}
use Rattle.step_keys.proofs.put_slots.Goals as goal

pub loop-j-init : goal.loop-j-init
loop-j-init c = turn-first c.used_slots-n.ensures (omega (arith, c.used_slots-n.ensures, length-outputs c.args.phase.now))

pub loop-j-preserved : goal.loop-j-preserved
loop-j-preserved c =
    let m = c.put_wanted-next in
    turn_more c.loop-j.invariant (omega arith) (output-at c.args.phase.now c.loop-j.j) m.auto.buf
    c.byte_at-port.ensures c.u16_at-value.ensures m.ensures

pub returns : goal.returns
returns c = turn_end c.loop-j.invariant (omega arith)
