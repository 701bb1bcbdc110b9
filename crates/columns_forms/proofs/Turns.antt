-- What is left of a row or of columns after i of n turns, as a loop meets it: one more record, or none. Assumes nothing.
use mathlib.Core.Path.{◌≡◌}
use Prim.Native.Nat.{ℕ, suc, ◌+◌, ◌*◌, ◌-◌, ◌≤◌, ◌<◌}
use mathlib.Core.Bool.{true, false}
use native.Mathlib.Omega.{arith}
use Rattle.std.specs.Prelude.{Option, Some}
use Rattle.definition.specs.Bytes.{Bytes, number_at}
use Rattle.columns_records.specs.declared.Places.{Places}
use Rattle.columns_records.specs.declared.Pair.{Pair}
use Rattle.columns_records.specs.Places.{record_at, fits_after, record_put, RecordWithin}
use Rattle.columns_forms.specs.Forms.{in_row, in_columns, row_places, columns_from, next_column, pair_of, row_messages, counts_by, columns_fit, into_columns, into_row, ColumnsWithin}
use Rattle.columns_forms.proofs.InColumns.{within-columns}

turn : (n i : ℕ) → i < n → n - i ≡ suc (n - (i + 1))
turn n i l = omega arith

over : (n i : ℕ) → n ≤ i → n - i ≡ 0
over n i l = omega arith

-- ---- messages

pub row_more : (n i at : ℕ) (s : Bytes) → i < n
    → row_messages (n - i) at s ≡ number_at 2 (at + 10) s + row_messages (n - (i + 1)) (at + 12 + 3 * number_at 2 (at + 10) s) s
unfolding row_messages
row_more n i at s l = rw (turn n i l)

pub counts-more : (n i at : ℕ) (s : Bytes) → i < n → counts_by (n - i) at s ≡ number_at 2 at s + counts_by (n - (i + 1)) (at + 2) s
unfolding counts_by
counts-more n i at s l = rw (turn n i l)

pub counts-none : (n i at : ℕ) (s : Bytes) → n ≤ i → counts_by (n - i) at s ≡ 0
unfolding counts_by
counts-none n i at s l = rw (over n i l)

-- ---- columns judged

module _ (last : Option Pair) (at : Places) (s : Bytes) (n i : ℕ) where
  abbrev onward : Places
  onward = next_column at (number_at 2 at.count s)

  pub fit-more : i < n → fits_after last in_columns at s ≡ true → columns_fit (n - (i + 1)) (Some (pair_of at s)) onward s ≡ columns_fit (n - i) last at s
  unfolding columns_fit
  fit-more l e = rw (turn n i l, e)

  pub fit-no : i < n → fits_after last in_columns at s ≡ false → columns_fit (n - i) last at s ≡ false
  unfolding columns_fit
  fit-no l e = rw (turn n i l, e)

  pub fit_none : n ≤ i → columns_fit (n - i) last at s ≡ true
  unfolding columns_fit
  fit_none l = rw (over n i l)

-- ---- columns within

pub columns-start : (size n k m : ℕ) → 4 + 12 * n + 3 * k ≤ size → m ≤ k → ColumnsWithin size n (columns_from n k) m
unfolding columns_from
columns-start size n k m l h = record { moments = omega arith; steps = omega arith; counts = omega arith; ports = omega arith; values = omega arith }

module _ (size n i : ℕ) (at : Places) (m rest total : ℕ) (w : ColumnsWithin size (n - i) at total) (l : i < n) (e : total ≡ m + rest) where
  pub columns-here : RecordWithin size in_columns at m
  columns-here =
      within-columns size at m (omega (arith, w.moments)) (omega (arith, w.steps)) (omega (arith, w.counts)) (omega (arith, w.ports)) (omega (arith, w.values))

  pub columns-next : ColumnsWithin size (n - (i + 1)) (next_column at m) rest
  unfolding next_column
  columns-next = record {
    moments = omega (arith, w.moments);
    steps = omega (arith, w.steps);
    counts = omega (arith, w.counts);
    ports = omega (arith, w.ports);
    values = omega (arith, w.values);
  }

-- ---- one form put into the other

pub columns-more : (n i at : ℕ) (to : Places) (s out : Bytes) → i < n
    → into_columns (n - (i + 1)) (at + 12 + 3 * number_at 2 (at + 10) s) (next_column to (number_at 2 (at + 10) s)) s (record_put in_columns to (record_at in_row (row_places at) s) out)
    ≡ into_columns (n - i) at to s out
unfolding into_columns
columns-more n i at to s out l = rw (turn n i l)

pub columns-none : (n i at : ℕ) (to : Places) (s out : Bytes) → n ≤ i → into_columns (n - i) at to s out ≡ out
unfolding into_columns
columns-none n i at to s out l = rw (over n i l)

pub rows_more : (n i : ℕ) (at : Places) (to : ℕ) (s out : Bytes) → i < n
    → into_row (n - (i + 1)) (next_column at (number_at 2 at.count s)) (to + 12 + 3 * number_at 2 at.count s) s (record_put in_row (row_places to) (record_at in_columns at s) out)
    ≡ into_row (n - i) at to s out
unfolding into_row
rows_more n i at to s out l = rw (turn n i l)

pub rows_none : (n i : ℕ) (at : Places) (to : ℕ) (s out : Bytes) → n ≤ i → into_row (n - i) at to s out ≡ out
unfolding into_row
rows_none n i at to s out l = rw (over n i l)
