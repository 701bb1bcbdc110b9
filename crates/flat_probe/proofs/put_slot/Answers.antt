-- Port and number, one after the other, are the bytes of the message (`slot-puts`).
use Rattle.flat_probe.proofs.Stored.{slot-puts}
use Rattle.flat_probe.proofs.put_slot.Goals as goal

pub returns : goal.returns
returns c =
    let a = c.args in
    rw (
      c.put_number-2.ensures,
      c.put_number.ensures,
    ) (slot-puts a.c a.q a.at a.out.now)
