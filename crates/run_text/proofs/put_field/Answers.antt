-- The digits, then the byte after them: the law `put-snoc`.
use Rattle.run_text.proofs.Laws.{put-snoc}
use Rattle.run_text.specs.Text.{field, decimal_in, max_digits}
use Rattle.run_text.specs.Put.{put1}
use mathlib.Core.Path.{sym, ◌∙◌, ap}
use Rattle.run_text.proofs.put_field.Goals as goal

pub returns : goal.returns
unfolding field
returns c =
    let a = c.args in
    c.put_byte.ensures ∙ ap (put1 a.after) c.put_decimal-next.ensures
    ∙ sym (put-snoc (decimal_in max_digits a.n) a.after (a.out.now, a.at))
