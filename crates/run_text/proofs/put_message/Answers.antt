-- Four fields, put one after the other, are the line: the law `message-line`.
use Rattle.run_text.proofs.Laws.{message-line}
use mathlib.Core.Path.{sym}
use Rattle.run_text.proofs.put_message.Goals as goal

pub returns : goal.returns
returns c =
    let a = c.args in
    rw (
      c.put_field.ensures,
      c.u16_at.ensures,
      c.put_field-c.ensures,
      c.byte_at.ensures,
      c.put_field-b.ensures,
      c.put_field-a.ensures,
    )
    (sym (message-line a.moment a.step a.row.now (a.out.now, a.at)))
