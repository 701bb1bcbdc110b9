-- What is left of the text, put on the page as it stands, is the whole text put on the first page; nothing is left at the end.
use native.Mathlib.Omega.{arith}
use Rattle.run_text.proofs.Laws.{text-more, text-none}
use mathlib.Core.Path.{sym, ◌∙◌}
use Rattle.run_text.proofs.put_text.Goals as goal

pub loop-k-preserved : goal.loop-k-preserved
loop-k-preserved c =
    let a = c.args in let l = c.loop-k in
    (c.put_byte-to.auto.out ∙ l.invariant.0, rw c.put_byte-to.ensures (text-more a.text.now l.k (l.out, l.to) (omega arith) ∙ l.invariant.1))

pub returns : goal.returns
returns c =
    let a = c.args in let l = c.loop-k in
    sym (text-none a.text.now l.k (l.out, l.to) (omega arith)) ∙ l.invariant.1
