-- The messages put so far and those of the rest of the given bag are all of them; one message more is one call more.
use native.Mathlib.Omega.{arith}
use mathlib.Core.Path.{sym}
use Rattle.law_model.proofs.Codec.{bag-length}
use Rattle.step_keys.proofs.Laws.{turn-first, turn_more, turn_end, given-at}
use Rattle.step_keys.proofs.put_given.Goals as goal

pub loop-i-init : goal.loop-i-init
loop-i-init c = turn-first (sym (bag-length c.args.given.now)) (omega arith)

pub loop-i-preserved : goal.loop-i-preserved
loop-i-preserved c =
    let m = c.put_wanted-next in
    turn_more c.loop-i.invariant (omega arith) (given-at c.args.given.now c.loop-i.i) m.auto.buf
    c.byte_at-port.ensures c.u16_at-value.ensures m.ensures

pub returns : goal.returns
returns c = turn_end c.loop-i.invariant (omega arith)
