-- The rest from the position on, with what is carried, is the whole trace (`scan-more`).
use native.Mathlib.Omega.{arith}
use mathlib.Core.Path.{◌≡◌, refl, sym, ap, ◌∙◌}
use mathlib.Core.Bool.{true, ◌&&◌}
use Prim.Native.Nat.{◌+◌, ◌*◌, ◌≤◌}
use lib.ListN.{length}
use Rattle.definition.specs.Bytes.{number_at}
use Rattle.law_base.proofs.Tests.{and_left}
use Rattle.law_columns.specs.ByPosition.{none_yet}
use Rattle.columns_records.specs.Places.{fits_after}
use Rattle.columns_forms.specs.Forms.{in_row, row_places, pair_of, found_of}
use Rattle.columns_forms.proofs.InRow.{within-row}
use Rattle.columns_scan.specs.Scans.{whole_at}
use Rattle.columns_scan.proofs.Laws.{whole-fits, carried, scan-more, scan-no, scan-end, scanned-no, scanned-many, scanned-ok}
use Rattle.columns_scan.proofs.scan_trace.Goals.{Else-not-row_fits}
use Rattle.columns_scan.proofs.scan_trace.Goals as goal

pub loop-at-init : goal.loop-at-init
unfolding none_yet
loop-at-init c = (omega arith, omega arith, omega arith, refl)

pub returns-then-not-row_fits : goal.returns-then-not-row_fits
unfolding found_of
returns-then-not-row_fits c =
    let l = c.loop-at in
    let s = c.args.s.now in
    let no = sym c.row_fits.ensures ∙ c.if-not-row_fits.true in
    sym (scanned-no s (sym l.invariant.3 ∙ scan-no s l.at l.last l.records l.messages c.loop-at-test.true no))

-- The record passes, so it lies within the trace.
passes : (c : Else-not-row_fits) → let l = c.loop-at in let s = c.args.s.now in (whole_at l.at s && fits_after l.last in_row (row_places l.at) s) ≡ true
passes c = sym c.row_fits.ensures ∙ c.if-not-row_fits.false

reaches : (c : Else-not-row_fits) → let l = c.loop-at in let s = c.args.s.now in l.at + 12 + 3 * number_at 2 (l.at + 10) s ≤ length s
reaches c =
    let l = c.loop-at in
    let s = c.args.s.now in
    whole-fits l.at s (and_left (whole_at l.at s) _ (passes c)) l.invariant.0

pub u16_within-count-requires : goal.u16_within-count-requires
u16_within-count-requires c = omega (arith, reaches (goal.at.u16_within-count-requires c).Else-not-row_fits)

pub pair_at-requires : goal.pair_at-requires
pair_at-requires c = rw c.row_places.ensures (within-row _ _ _ (reaches (goal.at.pair_at-requires c).Else-not-row_fits)).0

pub loop-at-preserved : goal.loop-at-preserved
loop-at-preserved c =
    let past = (goal.at.loop-at-preserved c).Else-not-row_fits in
    let l = c.loop-at in
    let s = c.args.s.now in
    let n = c.u16_within-count.ensures in
    let pair = c.pair_at.ensures ∙ ap (λ p. pair_of p s) c.row_places.ensures in (
      omega (arith, reaches past, n),
      omega (arith, l.invariant.1),
      omega (arith, l.invariant.2),
      rw (pair, n) (scan-more s l.at l.last l.records l.messages c.loop-at-test.true (passes past) ∙ l.invariant.3),
    )

pub returns-then-records-gt-MAX_RECORDS : goal.returns-then-records-gt-MAX_RECORDS
unfolding found_of
returns-then-records-gt-MAX_RECORDS c =
    let l = c.loop-at in
    let s = c.args.s.now in
    let all = carried l.last l.records l.messages in
    sym (scanned-many s all (sym l.invariant.3 ∙ scan-end s l.at all c.loop-at-test.false) c.if-records-gt-MAX_RECORDS.true)

pub returns : goal.returns
unfolding found_of
returns c =
    let l = c.loop-at in
    let s = c.args.s.now in
    let all = carried l.last l.records l.messages in
    sym (scanned-ok s all (sym l.invariant.3 ∙ scan-end s l.at all c.loop-at-test.false) c.if-records-gt-MAX_RECORDS.false)
