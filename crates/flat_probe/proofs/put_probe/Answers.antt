-- Advance, next phase, count and four slots, one after the other, are the record (`probe-puts`).
use Rattle.flat_probe.proofs.Stored.{probe-puts}
use Rattle.flat_probe.proofs.put_probe.Goals as goal

pub returns : goal.returns
returns c = let a = c.args in rw (c.put_slot-4.ensures, c.put_slot-3.ensures, c.put_slot-2.ensures, c.put_slot.ensures, c.put_number-2.ensures, c.put_number.ensures) (probe-puts a.c a.at a.out.now)
