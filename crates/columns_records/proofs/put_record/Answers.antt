-- The head and the messages, of which there are as many as the count says (`length-messages`).
use mathlib.Core.Path.{◌∙◌}
use Rattle.definition.specs.Bytes.{number_at}
use Rattle.columns_records.specs.Places.{record_at, record_put}
use Rattle.columns_records.proofs.Laws.{length-messages}
use Rattle.columns_records.proofs.put_record.Goals as goal

pub returns : goal.returns
unfolding record_put record_at
returns c =
    let a = c.args in
    let s = a.s.now in
    let n = c.u16_within-count.ensures in
    let m = length-messages a.apart a.at.ports a.at.values (number_at 2 a.at.count s) s in
    c.put_messages.ensures ∙ rw (c.put_head.ensures, n, m)
