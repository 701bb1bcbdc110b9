-- Two words and two fields, put one after the other, are the line: the law `end_line_lem`.
use Rattle.run_text.proofs.Laws.{end_line_lem}
use mathlib.Core.Path.{sym}
use Rattle.run_text.proofs.put_end.Goals as goal

pub returns : goal.returns
returns c =
    let a = c.args in
    rw (c.put_field.ensures, c.put_text-c.ensures, c.put_field-b.ensures, c.put_text-a.ensures)
    (sym (end_line_lem a.opening a.steps (a.out.now, a.at)))
