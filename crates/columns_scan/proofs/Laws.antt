-- The rest of a trace as the loop over it meets it: one more record, one that does not pass, none left. Assumes nothing.
use mathlib.Core.Path.{◌≡◌, refl, sym, ap, ◌∙◌}
use Prim.Native.Nat.{ℕ, zero, suc, ◌+◌, ◌*◌, ◌-◌, ◌≤◌, ◌<◌}
use Rattle.std.specs.Prelude.{Option, Some, None}
use mathlib.Core.Bool.{Bool, true, false, ◌&&◌, not, cond}
use native.Mathlib.Omega.{arith}
use lib.Dec.{ltb}
use lib.ListN.{length}
use borrow.Author.Tests.{leb-true, lt-ltb, le-ltb, lt-leb}
use Rattle.definition.specs.Bytes.{Bytes, Result, ok, refused, ◌>>=◌, refuse_if, number_at}
use Rattle.definition.specs.Limits.{message_size, record_head, max_records}
use Rattle.law_columns.specs.ByPosition.{Scan, none_yet, scan_next, record_next, scan_from, scanned}
use Rattle.columns_records.specs.declared.Pair.{Pair}
use Rattle.columns_records.specs.Places.{fits_after}
use Rattle.columns_forms.specs.Forms.{in_row, row_places, pair_of}
use Rattle.columns_forms.proofs.InRow.{last_of, fits-row}
use Rattle.columns_scan.specs.Scans.{whole_at, sizes_of}

-- ---- a record that is not cut

pub whole-fits : (at : ℕ) (s : Bytes) → whole_at at s ≡ true → at ≤ length s → at + 12 + 3 * number_at 2 (at + 10) s ≤ length s
unfolding whole_at
whole-fits at s h l = omega (arith, leb-true (record_head + number_at 2 (at + 10) s * message_size) (length s - at) h)

pub whole-cut : (at : ℕ) (s : Bytes) → length s - at < 12 + 3 * number_at 2 (at + 10) s → whole_at at s ≡ false
unfolding whole_at
whole-cut at s l = lt-leb (record_head + number_at 2 (at + 10) s * message_size) (length s - at) (omega arith)

-- ---- the rest of the trace

-- What the loop carries, as the law has it.
abbrev pub came : Option Pair → Bool
came None = false
came (Some p) = true

abbrev pub moment_in : Option Pair → ℕ
moment_in None = 0
moment_in (Some p) = p.moment

abbrev pub step_in : Option Pair → ℕ
step_in None = 0
step_in (Some p) = p.step

abbrev pub carried : Option Pair → ℕ → ℕ → Scan
carried l n k = record { some = came l; moment = moment_in l; step = step_in l; records = n; messages = k }

last-carried : (l : Option Pair) (n k : ℕ) → last_of (carried l n k) ≡ l
last-carried None n k = refl
last-carried (Some p) n k = refl

-- More turns than there are bytes left change nothing.
scan-turns : (s : Bytes) (n m at : ℕ) (c : Scan) → length s ≤ at + n → length s ≤ at + m → scan_from n at c s ≡ scan_from m at c s
unfolding scan_from
scan-turns s zero zero at c h k = refl
scan-turns s zero (suc m) at c h k = rw (le-ltb at (length s) (omega arith))
scan-turns s (suc n) zero at c h k = rw (le-ltb at (length s) (omega arith))
scan-turns s (suc n) (suc m) at c h k =
    let after = record_head + number_at 2 (at + 10) s * message_size in
    ap (λ (x : Result Scan). cond (ltb at (length s)) (refuse_if (not (record_next c at s)) 17 >>= λ _. x) (ok c))
    (scan-turns s n m (at + after) (scan_next c (number_at 8 at s) (number_at 2 (at + 8) s) (number_at 2 (at + 10) s)) (omega arith) (omega arith))

-- The records from a position on, with what came before.
unfoldable pub scan_rest : Bytes → ℕ → Scan → Result Scan
scan_rest s at c = scan_from (length s - at) at c s

module _ (s : Bytes) (at : ℕ) (l : Option Pair) (n k : ℕ) where
  abbrev count : ℕ
  count = number_at 2 (at + 10) s

  abbrev onward : Scan
  onward = carried (Some (pair_of (row_places at) s)) (n + 1) (k + count)

  abbrev passes : Bool
  passes = whole_at at s && fits_after l in_row (row_places at) s

  passes-is : record_next (carried l n k) at s ≡ passes
  unfolding whole_at
  passes-is = fits-row (carried l n k) at s ∙ ap (λ x. whole_at at s && fits_after x in_row (row_places at) s) (last-carried l n k)

  -- What is carried behind the record.
  onward-is : scan_next (carried l n k) (number_at 8 at s) (number_at 2 (at + 8) s) count ≡ onward
  unfolding scan_next pair_of row_places
  onward-is = let e : suc n ≡ n + 1 = omega arith in ap (λ z. carried (Some (pair_of (row_places at) s)) z (k + count)) e

  one_turn : (m : ℕ) → length s - at ≡ suc m → at < length s
      → scan_rest s at (carried l n k) ≡ (refuse_if (not passes) 17 >>= λ _. scan_from m (at + (12 + 3 * count)) onward s)
  unfolding scan_rest scan_from
  one_turn m e h =
      let after : at + (record_head + count * message_size) ≡ at + (12 + 3 * count) = omega arith in
      rw (e, lt-ltb at (length s) h, passes-is, onward-is, after)

  left : ℕ
  left = length s - at - 1

  pub scan-more : at < length s → passes ≡ true → scan_rest s (at + (12 + 3 * count)) onward ≡ scan_rest s at (carried l n k)
  unfolding scan_rest left
  scan-more h p =
      sym (one_turn left (let e : length s - at ≡ suc (length s - at - 1) = omega arith in e) h
      ∙ rw p (scan-turns s left (length s - (at + (12 + 3 * count))) (at + (12 + 3 * count)) onward (omega arith) (omega arith)))

  pub scan-no : at < length s → passes ≡ false → scan_rest s at (carried l n k) ≡ refused 17
  scan-no h p = one_turn (length s - at - 1) (let e : length s - at ≡ suc (length s - at - 1) = omega arith in e) h ∙ rw p

pub scan-end : (s : Bytes) (at : ℕ) (c : Scan) → length s ≤ at → scan_rest s at c ≡ ok c
unfolding scan_rest scan_from
scan-end s at c l = let e : length s - at ≡ 0 = omega arith in rw (e, le-ltb at (length s) l)

-- ---- the whole trace

module _ (s : Bytes) where
  scan-start : scan_rest s 0 none_yet ≡ scan_from (length s) 0 none_yet s
  unfolding scan_rest
  scan-start = ap (λ n. scan_from n 0 none_yet s) (let e : length s - 0 ≡ length s = omega arith in e)

  pub scanned-no : scan_rest s 0 none_yet ≡ refused 17 → sizes_of (scanned s) ≡ refused 17
  unfolding scanned sizes_of
  scanned-no e = rw (sym scan-start ∙ e)

  pub scanned-many : (c : Scan) → scan_rest s 0 none_yet ≡ ok c → max_records < c.records → sizes_of (scanned s) ≡ refused 17
  unfolding scanned sizes_of
  scanned-many c e l = rw (sym scan-start ∙ e, lt-ltb max_records c.records l)

  pub scanned-ok : (c : Scan) → scan_rest s 0 none_yet ≡ ok c → c.records ≤ max_records → sizes_of (scanned s) ≡ ok (c.records, c.messages)
  unfolding scanned sizes_of
  scanned-ok c e l = rw (sym scan-start ∙ e, le-ltb max_records c.records l)
