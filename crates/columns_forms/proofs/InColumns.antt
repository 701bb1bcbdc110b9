-- A record in columns at its places is the record by its number: read, judged and put. Assumes nothing.
use mathlib.Core.Path.{◌≡◌, refl, sym, ap, ap₂, ◌∙◌}
use Prim.Native.Nat.{ℕ, zero, suc, ◌+◌, ◌*◌, ◌≤◌}
use mathlib.Core.List.{[], ◌∷◌, map}
use mathlib.Core.Bool.{◌&&◌, not}
use native.Mathlib.Omega.{arith}
use lib.Dec.{eqb}
use Rattle.std.specs.Prelude.{Some}
use Rattle.definition.specs.Lists.{up_from}
use Rattle.definition.specs.Bytes.{Bytes, number_at}
use Rattle.definition.specs.Model.{Bag}
use Rattle.definition.specs.Instant.{TraceRecord}
use Rattle.law_columns.specs.ByPosition.{Scan, keys_rise, scan_next, message_in, record_in, column_next, columns_good, counts_from, put_pairs, put_record}
use Rattle.law_columns.proofs.Filling.{pairs-put}
use Rattle.columns_records.specs.declared.Places.{Places}
use Rattle.columns_records.specs.Places.{messages_at, record_at, fits_after, messages_put, head_put, record_put, MessagesWithin, RecordWithin}
use Rattle.columns_forms.specs.Forms.{in_columns, columns_at, columns_from, next_column, pair_of, counts_by, columns_fit}
use Rattle.columns_forms.proofs.InRow.{last_of, pair-last}

-- ---- places

pub from_start : (n k : ℕ) → columns_from n k ≡ columns_at n k 0 0
unfolding columns_from columns_at
from_start n k =
    let b : 4 + 8 * n ≡ 4 + 8 * n + 2 * 0 = omega arith in
    let c : 4 + 10 * n ≡ 4 + 10 * n + 2 * 0 = omega arith in
    let d : 4 + 12 * n ≡ 4 + 12 * n + 0 = omega arith in
    let e : 4 + 12 * n + k ≡ 4 + 12 * n + k + 2 * 0 = omega arith in
    λ i. record { moment = 4; step = b i; count = c i; ports = d i; values = e i }

pub next-at : (n k i j m : ℕ) → next_column (columns_at n k i j) m ≡ columns_at n k (suc i) (j + m)
unfolding next_column columns_at
next-at n k i j m =
    let a : 4 + 8 * i + 8 ≡ 4 + 8 * suc i = omega arith in
    let b : 4 + 8 * n + 2 * i + 2 ≡ 4 + 8 * n + 2 * suc i = omega arith in
    let c : 4 + 10 * n + 2 * i + 2 ≡ 4 + 10 * n + 2 * suc i = omega arith in
    let d : 4 + 12 * n + j + m ≡ 4 + 12 * n + (j + m) = omega arith in
    let e : 4 + 12 * n + k + 2 * j + 2 * m ≡ 4 + 12 * n + k + 2 * (j + m) = omega arith in
    λ x. record { moment = a x; step = b x; count = c x; ports = d x; values = e x }

-- ---- read

pub messages-column : (n k j m p v : ℕ) (s : Bytes) → p ≡ 4 + 12 * n + j → v ≡ 4 + 12 * n + k + 2 * j
    → messages_at in_columns p v m s ≡ map (message_in n k s) (up_from j m)
unfolding messages_at up_from message_in
messages-column n k j zero p v s e f = refl
messages-column n k j (suc m) p v s e f =
    ap₂ ◌∷◌ (ap₂ (λ a b. record { port = number_at 1 a s; value = number_at 2 b s }) e f)
    (messages-column n k (suc j) m (p + 1) (v + 2) s (omega arith) (omega arith))

module _ (n k i j : ℕ) (s : Bytes) where
  abbrev count : ℕ
  count = number_at 2 (4 + 10 * n + 2 * i) s

  bag-in : messages_at in_columns (4 + 12 * n + j) (4 + 12 * n + k + 2 * j) count s ≡ map (message_in n k s) (up_from j count)
  bag-in = messages-column n k j count (4 + 12 * n + j) (4 + 12 * n + k + 2 * j) s refl refl

  pub record-column : record_at in_columns (columns_at n k i j) s ≡ record_in n k s i j
  unfolding record_at columns_at record_in
  record-column = λ x. record { moment = number_at 8 (4 + 8 * i) s; step = number_at 2 (4 + 8 * n + 2 * i) s; messages = bag-in x }

  -- ---- judged

  pub fits-column : (c : Scan) → column_next n k s i j c ≡ fits_after (last_of c) in_columns (columns_at n k i j) s
  unfolding column_next fits_after columns_at
  fits-column c =
      ap₂ (λ b xs. not (eqb count 0) && b && keys_rise 0 xs) (pair-last c (number_at 8 (4 + 8 * i) s) (number_at 2 (4 + 8 * n + 2 * i) s)) (sym bag-in)

next-fit : (n k i j : ℕ) (s : Bytes) (left : ℕ) (c : Scan)
    → columns_fit left (last_of (scan_next c (number_at 8 (4 + 8 * i) s) (number_at 2 (4 + 8 * n + 2 * i) s) (count n k i j s))) (columns_at n k (suc i) (j + count n k i j s)) s
    ≡ columns_fit left (Some (pair_of (columns_at n k i j) s)) (next_column (columns_at n k i j) (number_at 2 (columns_at n k i j).count s)) s
unfolding scan_next pair_of columns_at
next-fit n k i j s left c = ap (λ at. columns_fit left (Some (pair_of (columns_at n k i j) s)) at s) (sym (next-at n k i j (count n k i j s)))

pub columns-fit : (n k : ℕ) (s : Bytes) (left i j : ℕ) (c : Scan) → columns_good n k s left i j c ≡ columns_fit left (last_of c) (columns_at n k i j) s
unfolding columns_good columns_fit
columns-fit n k s zero i j c = refl
columns-fit n k s (suc left) i j c =
    let m = count n k i j s in
    ap₂ ◌&&◌ (fits-column n k i j s c) (columns-fit n k s left (suc i) (j + m) (scan_next c (number_at 8 (4 + 8 * i) s) (number_at 2 (4 + 8 * n + 2 * i) s) m)
    ∙ next-fit n k i j s left c)

pub counts-by : (n : ℕ) (s : Bytes) (left i p : ℕ) → p ≡ 4 + 10 * n + 2 * i → counts_from n s left i ≡ counts_by left p s
unfolding counts_from counts_by
counts-by n s zero i p e = refl
counts-by n s (suc left) i p e = ap₂ ◌+◌ (ap (λ k. number_at 2 k s) (sym e)) (counts-by n s left (suc i) (p + 2) (omega arith))

-- ---- within

columns-within : (size p v m : ℕ) → p + m ≤ size → v + 2 * m ≤ size → MessagesWithin size in_columns p v m
columns-within size p v zero a b = tt
columns-within size p v (suc m) a b = (omega arith, omega arith, columns-within size (p + 1) (v + 2) m (omega arith) (omega arith))

pub within-columns : (size : ℕ) (at : Places) (m : ℕ) → at.moment + 8 ≤ size → at.step + 2 ≤ size → at.count + 2 ≤ size → at.ports + m ≤ size
    → at.values + 2 * m ≤ size → RecordWithin size in_columns at m
within-columns size at m a b c d e = (record { moment = a; step = b; count = c }, columns-within size at.ports at.values m d e)

-- ---- put

pairs-column : (xs : Bag) (p v : ℕ) (out : Bytes) → messages_put in_columns p v xs out ≡ put_pairs p v xs out
unfolding messages_put put_pairs
pairs-column [] p v out = refl
pairs-column (x ∷ xs) p v out = pairs-column xs (p + 1) (v + 2) _

pub put-column : (n k i j : ℕ) (r : TraceRecord) (out : Bytes) → record_put in_columns (columns_at n k i j) r out ≡ put_record n k i j r out
unfolding record_put head_put columns_at put_record
put-column n k i j r out = pairs-column r.messages (4 + 12 * n + j) (4 + 12 * n + k + 2 * j) _ ∙ sym (pairs-put n k j r.messages _)
