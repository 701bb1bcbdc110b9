-- Each way out is one of the tests in turn.
use Rattle.std.proofs.Common.{◌≡◌, ◌+◌, ◌*◌, ◌≤◌, None, sym, ap, ap₂, ◌∙◌, length, arith}
use Rattle.definition.specs.Bytes.{ok}
use Rattle.columns_forms.specs.Forms.{columns_from, counts_by, columns_fit, found_of}
use Rattle.columns_check.proofs.Laws.{count_in, total_in, fit_in, columns-short, columns-other, columns-unfit, columns-ok}
use Rattle.columns_check.proofs.scan_columns.Goals as goal
use Rattle.columns_check.proofs.scan_columns.Goals.{After-count_messages-k, After-columns_fit}

pub returns-then-s-heads : goal.returns-then-s-heads
unfolding found_of
returns-then-s-heads c = sym (columns-short c.args.s.now (omega (arith, c.u32_at-count.ensures, c.if-s-heads.true)))

-- The columns have room for their heads, and the messages are counted.
room : (c : After-count_messages-k) → let s = c.args.s.now in 4 + 12 * count_in s ≤ length s
room c = omega (arith, c.u32_at-count.ensures, c.if-s-heads.false)

total-is : (c : After-count_messages-k) → c.count_messages-k.result ≡ total_in c.args.s.now
total-is c = c.count_messages-k.ensures.0 ∙ ap (λ n. counts_by n (4 + 10 * n) c.args.s.now) c.u32_at-count.ensures

pub returns-then-s-heads-2 : goal.returns-then-s-heads-2
unfolding found_of
returns-then-s-heads-2 c =
    let at = (goal.at.returns-then-s-heads-2 c).After-count_messages-k in
    sym (columns-other c.args.s.now (room at) (λ e. c.if-s-heads-2.true (e ∙ omega (arith, c.u32_at-count.ensures, total-is at))))

-- The columns are as long as they say, and the test is the law's.
exact : (c : After-columns_fit) → c.count_messages-k.result ≡ total_in c.args.s.now → let s = c.args.s.now in length s ≡ 4 + 12 * count_in s + 3 * total_in s
exact c k = omega (arith, c.if-s-heads-2.false, c.u32_at-count.ensures, k)

fit-is : (c : After-columns_fit) → c.count_messages-k.result ≡ total_in c.args.s.now → c.columns_fit.result ≡ fit_in c.args.s.now
fit-is c k = c.columns_fit.ensures ∙ ap₂ (λ n k. columns_fit n None (columns_from n k) c.args.s.now) c.u32_at-count.ensures k

pub returns-then-not-columns_fit : goal.returns-then-not-columns_fit
unfolding found_of
returns-then-not-columns_fit c =
    let at = (goal.at.returns-then-not-columns_fit c).After-count_messages-k in
    let past = (goal.at.returns-then-not-columns_fit c).After-columns_fit in
    sym (columns-unfit c.args.s.now (room at) (exact past (total-is at)) (sym (fit-is past (total-is at)) ∙ c.if-not-columns_fit.true))

pub returns : goal.returns
unfolding found_of
returns c =
    let at = (goal.at.returns c).After-count_messages-k in
    let past = (goal.at.returns c).After-columns_fit in
    ap₂ (λ n k. ok (n, k)) c.u32_at-count.ensures (total-is at) ∙ sym (columns-ok c.args.s.now (room at) (exact past (total-is at)) (sym (fit-is past (total-is at)) ∙ c.if-not-columns_fit.false))
