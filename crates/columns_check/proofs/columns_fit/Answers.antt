-- The records that are left pass from the pair before on exactly where all of them pass (`fit-more`).
use Rattle.std.proofs.Common.{◌+◌, ◌*◌, ◌-◌, refl, sym, ap, ◌∙◌, length, arith}
use Rattle.std.proofs.Math.Nat.{sub-zero}
use Rattle.definition.specs.Bytes.{number_at}
use Rattle.columns_records.specs.Places.{fits_after, RecordWithin}
use Rattle.columns_forms.specs.Forms.{in_columns, columns_from, next_column, counts_by, ColumnsWithin}
use Rattle.columns_forms.proofs.Turns.{counts-more, fit-more, fit-no, fit_none, columns-start, columns-here, columns-next}
use Rattle.columns_check.proofs.columns_fit.Goals as goal
use Rattle.columns_check.proofs.columns_fit.Goals.{In-loop}

pub loop-init : goal.loop-init
unfolding columns_from
loop-init c =
    let a = c.args in let s = a.s.now in
    rw (c.columns_from-at.ensures, sub-zero a.n)
    (record { within = columns-start (length s) a.n a.k (counts_by a.n (4 + 10 * a.n) s) c.requires.0 c.requires.1; same = refl })

-- The record lies within the columns, and so do those after it.
here : (c : In-loop) → let l = c.loop in let s = c.args.s.now in RecordWithin (length s) in_columns l.at (number_at 2 l.at.count s)
here c =
    let l = c.loop in
    columns-here _ _ _ _ _ _ _ l.invariant.within c.loop-test.true (counts-more c.args.n l.counter l.at.count c.args.s.now c.loop-test.true)

after : (c : In-loop) → let l = c.loop in let s = c.args.s.now in ColumnsWithin (length s) (c.args.n - (l.counter + 1)) (next_column l.at (number_at 2 l.at.count s)) (counts_by (c.args.n - (l.counter + 1)) (l.at.count + 2) s)
after c =
    let l = c.loop in
    columns-next _ _ _ _ _ _ _ l.invariant.within c.loop-test.true (counts-more c.args.n l.counter l.at.count c.args.s.now c.loop-test.true)

pub record_fits-requires : goal.record_fits-requires
record_fits-requires c = rw c.in_columns.ensures ((omega arith, omega arith), here (goal.at.record_fits-requires c).In-loop)

pub returns-then-not-record_fits : goal.returns-then-not-record_fits
returns-then-not-record_fits c =
    let l = c.loop in let s = c.args.s.now in
    let no = sym (c.record_fits.ensures ∙ ap (λ a. fits_after l.last a l.at s) c.in_columns.ensures) ∙ c.if-not-record_fits.true in
    sym (sym l.invariant.same ∙ fit-no l.last l.at s c.args.n l.counter c.loop-test.true no)

pub loop-preserved : goal.loop-preserved
unfolding next_column
loop-preserved c =
    let l = c.loop in let s = c.args.s.now in
    let yes = sym (c.record_fits.ensures ∙ ap (λ a. fits_after l.last a l.at s) c.in_columns.ensures) ∙ c.if-not-record_fits.false in
    let next = c.next_column-at.ensures ∙ ap (next_column l.at) c.u16_within.ensures in
    rw (next, c.pair_at.ensures)
    (record { within = after (goal.at.loop-preserved c).In-loop; same = fit-more l.last l.at s c.args.n l.counter c.loop-test.true yes ∙ l.invariant.same })

pub returns : goal.returns
returns c =
    let l = c.loop in
    sym (sym l.invariant.same ∙ fit_none l.last l.at c.args.s.now c.args.n l.counter c.loop-test.false)
