-- Where a record's numbers lie in a row and in columns, and what a loop over records meets. Nothing here has to be believed. Assumes nothing.
use Rattle.std.specs.Prelude.{ℕ, zero, suc, ◌+◌, ◌*◌, ◌≤◌, Bool, true, ◌&&◌, Option, Some, None}
use Rattle.definition.specs.Bytes.{Bytes, Result, ok, refused, number_at}
use Rattle.columns_records.specs.declared.Places.{Places}
use Rattle.columns_records.specs.declared.Apart.{Apart}
use Rattle.columns_records.specs.declared.Pair.{Pair}
use Rattle.columns_records.specs.Places.{record_at, fits_after, record_put}
use Rattle.columns_forms.specs.declared.Sizes.{Sizes}

-- The greatest number of 64 bits.
abbrev pub word_max : ℕ
word_max = 18446744073709551615

abbrev pub in_row : Apart
in_row = record { ports = 3; values = 3 }

abbrev pub in_columns : Apart
in_columns = record { ports = 1; values = 2 }

unfoldable pub row_places : ℕ → Places
row_places at = record { moment = at; step = at + 8; count = at + 10; ports = at + 12; values = at + 13 }

-- Record i of n, whose messages begin with message j of k.
unfoldable pub columns_at : ℕ → ℕ → ℕ → ℕ → Places
columns_at n k i j = record { moment = 4 + 8 * i; step = 4 + 8 * n + 2 * i; count = 4 + 10 * n + 2 * i; ports = 4 + 12 * n + j; values = 4 + 12 * n + k + 2 * j }

unfoldable pub columns_from : ℕ → ℕ → Places
columns_from n k = record { moment = 4; step = 4 + 8 * n; count = 4 + 10 * n; ports = 4 + 12 * n; values = 4 + 12 * n + k }

unfoldable pub next_column : Places → ℕ → Places
next_column at m = record { moment = at.moment + 8; step = at.step + 2; count = at.count + 2; ports = at.ports + m; values = at.values + 2 * m }

unfoldable pub pair_of : Places → Bytes → Pair
pair_of at s = record { moment = number_at 8 at.moment s; step = number_at 2 at.step s }

-- ---- n records from a place on

-- In a row: how many messages they have.
unfoldable pub row_messages : ℕ → ℕ → Bytes → ℕ
row_messages zero at s = 0
row_messages (suc n) at s = number_at 2 (at + 10) s + row_messages n (at + 12 + 3 * number_at 2 (at + 10) s) s

-- In columns: the same, by the places of their counts.
unfoldable pub counts_by : ℕ → ℕ → Bytes → ℕ
counts_by zero at s = 0
counts_by (suc n) at s = number_at 2 at s + counts_by n (at + 2) s

-- Each record of columns lies above the one before, and passes.
unfoldable pub columns_fit : ℕ → Option Pair → Places → Bytes → Bool
columns_fit zero l at s = true
columns_fit (suc n) l at s = fits_after l in_columns at s && columns_fit n (Some (pair_of at s)) (next_column at (number_at 2 at.count s)) s

-- So many records of columns lie within so many bytes, and so do their messages.
pub record ColumnsWithin (size left : ℕ) (at : Places) (messages : ℕ) : Type 0 where
  pub moments : at.moment + 8 * left ≤ size
  pub steps : at.step + 2 * left ≤ size
  pub counts : at.count + 2 * left ≤ size
  pub ports : at.ports + messages ≤ size
  pub values : at.values + 2 * messages ≤ size

-- A row put into columns whose next places are `to`.
unfoldable pub into_columns : ℕ → ℕ → Places → Bytes → Bytes → Bytes
into_columns zero at to s out = out
into_columns (suc n) at to s out =
    let m = number_at 2 (at + 10) s in
    into_columns n (at + 12 + 3 * m) (next_column to m) s (record_put in_columns to (record_at in_row (row_places at) s) out)

-- Columns put into a row from `to` on.
unfoldable pub into_row : ℕ → Places → ℕ → Bytes → Bytes → Bytes
into_row zero at to s out = out
into_row (suc n) at to s out =
    let m = number_at 2 at.count s in
    into_row n (next_column at m) (to + 12 + 3 * m) s (record_put in_row (row_places to) (record_at in_columns at s) out)

-- ---- what is found

-- The number of a refusal, or how many records and messages there are.
unfoldable pub found_of : ℕ → Option Sizes → Result (ℕ × ℕ)
found_of n None = refused n
found_of n (Some z) = ok (z.records, z.messages)
