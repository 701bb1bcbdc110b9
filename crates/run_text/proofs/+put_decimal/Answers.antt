-- The digits before the last one are put by the call itself with one digit less to go, then the last one: the law `decimal-more`.
use native.Mathlib.Omega.{arith}
use Prim.Native.Nat.{◌%◌}
use mathlib.Core.Path.{sym, ◌∙◌, ap}
use Rattle.run_text.specs.Put.{Page, put1}
use Rattle.run_text.specs.Text.{digit}
use Rattle.run_text.proofs.Laws.{decimal-none, decimal-one, decimal-more}
use Rattle.run_text.proofs.+put_decimal.Goals as goal

pub returns-then-k-eq0 : goal.returns-then-k-eq0
returns-then-k-eq0 t c = let a = c.args in sym (decimal-none a.k a.n (a.out.now, a.at) c.if-k-eq0.true)

pub returns-then-n-lt10 : goal.returns-then-n-lt10
returns-then-n-lt10 t c =
    let a = c.args in
    let page : Page = (a.out.now, a.at) in
    c.put_byte.ensures ∙ ap (λ b. put1 b page) c.digit.ensures ∙ sym (decimal-one a.k a.n page (omega arith) c.if-n-lt10.true)

pub returns : goal.returns
returns t c =
    let a = c.args in
    let page : Page = (a.out.now, a.at) in
    let p = c.put_decimal-next in
    c.put_byte-2.ensures ∙ ap (λ b. put1 b (p.new.out, p.result)) c.digit-2.ensures ∙ ap (put1 (digit (a.n % 10))) p.ensures
    ∙ sym (decimal-more a.k a.n page (omega arith) (omega arith))
