-- Records put one after the other from one form into the other: what the laws of columns say of them. Assumes nothing.
use mathlib.Core.Path.{◌≡◌, refl, sym, ap, ap₂, ◌∙◌}
use Prim.Native.Nat.{ℕ, zero, suc, ◌+◌, ◌*◌}
use native.Mathlib.Omega.{arith}
use lib.ListN.{length, length-append}
use lib.Seq.{sets}
use Rattle.definition.specs.Lists.{concat}
use Rattle.definition.specs.Bytes.{Bytes, number_at}
use Rattle.definition.specs.Limits.{message_size, record_head}
use Rattle.definition.specs.Instant.{record_bytes}
use Rattle.definition.specs.Columns.{messages_of}
use Rattle.law_text.proofs.Records.{record_length_lem}
use Rattle.law_columns.specs.ByPosition.{record_from, records_by, record_in, records_at, put_record, put_records, put_trace}
use Rattle.law_columns.proofs.RecordTests.{count_at}
use Rattle.columns_records.specs.Places.{record_at, record_put}
use Rattle.columns_records.proofs.Laws.{length-messages}
use Rattle.columns_forms.specs.Forms.{in_row, in_columns, row_places, columns_at, next_column, row_messages, into_columns, into_row}
use Rattle.columns_forms.proofs.InRow.{record-row, put-row}
use Rattle.columns_forms.proofs.InColumns.{next-at, record-column, put-column}

-- The position after a record in a row.
after-row : (at : ℕ) (s : Bytes) → at + 12 + 3 * number_at 2 (at + 10) s ≡ at + (record_head + number_at 2 (at + 10) s * message_size)
after-row at s = omega arith

count-from : (at : ℕ) (s : Bytes) → length (record_from at s).messages ≡ number_at 2 (at + 10) s
unfolding record_from
count-from at s = count_at at s

-- How many messages n records in a row have.
pub row-messages : (n at : ℕ) (s : Bytes) → row_messages n at s ≡ length (messages_of (records_by n at s))
unfolding row_messages messages_of records_by concat
row-messages zero at s = refl
row-messages (suc n) at s =
    let rest = row-messages n (at + 12 + 3 * number_at 2 (at + 10) s) s ∙ ap (λ p. length (messages_of (records_by n p s))) (after-row at s) in
    omega (arith, length-append (record_from at s).messages (messages_of (records_by n (at + (record_head + number_at 2 (at + 10) s * message_size)) s)), count-from at s, rest)

-- A row into columns.
pub into-columns : (n k left at i j : ℕ) (s out : Bytes) → into_columns left at (columns_at n k i j) s out ≡ put_records n k i j (records_by left at s) out
unfolding into_columns records_by put_records
into-columns n k zero at i j s out = refl
into-columns n k (suc left) at i j s out =
    let m = number_at 2 (at + 10) s in
    let one : record_put in_columns (columns_at n k i j) (record_at in_row (row_places at) s) out ≡ put_record n k i j (record_from at s) out
    = ap (λ r. record_put in_columns (columns_at n k i j) r out) (record-row at s) ∙ put-column n k i j (record_from at s) out in
    ap₂ (λ to b. into_columns left (at + 12 + 3 * m) to s b) (next-at n k i j m) one
    ∙ into-columns n k left (at + 12 + 3 * m) (suc i) (j + m) s (put_record n k i j (record_from at s) out)
    ∙ ap₂ (λ q p. put_records n k (suc i) (j + q) (records_by left p s) (put_record n k i j (record_from at s) out)) (sym (count-from at s)) (after-row at s)

-- The count and the length of a record in columns.
count-in : (n k i j : ℕ) (s : Bytes) → length (record_in n k s i j).messages ≡ number_at 2 (4 + 10 * n + 2 * i) s
unfolding record_at columns_at
count-in n k i j s =
    ap (λ r. length r.messages) (sym (record-column n k i j s))
    ∙ length-messages in_columns (4 + 12 * n + j) (4 + 12 * n + k + 2 * j) (number_at 2 (4 + 10 * n + 2 * i) s) s

after-column : (n k i j to : ℕ) (s : Bytes) → to + 12 + 3 * number_at 2 (columns_at n k i j).count s ≡ to + length (record_bytes (record_in n k s i j))
unfolding columns_at
after-column n k i j to s = omega (arith, record_length_lem (record_in n k s i j), count-in n k i j s)

next-in : (n k i j : ℕ) (s : Bytes) → next_column (columns_at n k i j) (number_at 2 (columns_at n k i j).count s) ≡ columns_at n k (suc i) (j + number_at 2 (4 + 10 * n + 2 * i) s)
unfolding columns_at
next-in n k i j s = next-at n k i j (number_at 2 (4 + 10 * n + 2 * i) s)

-- Columns into a row.
pub into-row : (n k left to i j : ℕ) (s out : Bytes) → into_row left (columns_at n k i j) to s out ≡ put_trace to (records_at n k s left i j) out
unfolding into_row records_at put_trace
into-row n k zero to i j s out = refl
into-row n k (suc left) to i j s out =
    let r = record_in n k s i j in
    let one : record_put in_row (row_places to) (record_at in_columns (columns_at n k i j) s) out ≡ sets out to (record_bytes r)
    = ap (λ z. record_put in_row (row_places to) z out) (record-column n k i j s) ∙ put-row to r out in
    ap₂ (λ at b. into_row left at (to + 12 + 3 * number_at 2 (columns_at n k i j).count s) s b) (next-in n k i j s) one
    ∙ into-row n k left (to + 12 + 3 * number_at 2 (columns_at n k i j).count s) (suc i) (j + number_at 2 (4 + 10 * n + 2 * i) s) s (sets out to (record_bytes r))
    ∙ ap (λ p. put_trace p (records_at n k s left (suc i) (j + number_at 2 (4 + 10 * n + 2 * i) s)) (sets out to (record_bytes r))) (after-column n k i j to s)
