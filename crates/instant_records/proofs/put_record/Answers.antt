-- Three fields and the messages, each stored where the one before it ends, are the bytes of the record (`record-puts`).
use mathlib.Core.Path.{◌∙◌}
use lib.ListN.{take}
use lib.Seq.{length-take-le}
use Rattle.instant_records.proofs.Records.{record-puts}
use Rattle.instant_records.proofs.put_record.Goals as goal

pub shape_of-out : goal.shape_of-out
shape_of-out c = c.put_messages.auto.out ∙ c.put_number-3.auto.out ∙ c.put_number-2.auto.out ∙ c.put_number.auto.out

pub returns : goal.returns
returns c =
    let a = c.args in
    rw (c.put_messages.ensures, c.put_number-3.ensures, c.put_number-2.ensures, c.put_number.ensures)
    (record-puts a.moment.0 a.step a.count a.at (take a.count a.keys.now) a.out.now
    (length-take-le a.count a.keys.now c.requires.0))
