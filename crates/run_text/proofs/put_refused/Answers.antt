-- A word and a field, put one after the other, are the line: the law `refused-line`.
use Rattle.run_text.proofs.Laws.{refused-line}
use mathlib.Core.Path.{sym}
use Rattle.run_text.proofs.put_refused.Goals as goal

pub returns : goal.returns
returns c =
    let a = c.args in
    rw (c.put_field.ensures, c.put_text-next.ensures) (sym (refused-line a.refusal (a.out.now, a.at)))
