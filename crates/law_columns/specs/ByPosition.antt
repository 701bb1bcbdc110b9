-- A trace and its columns as code goes over them, by positions in the lent bytes: what it tests, and what it carries. Nothing here has to be believed.
-- Assumes nothing.
use Rattle.std.specs.Prelude.{ℕ, zero, suc, ◌+◌, ◌*◌, ◌-◌, List, [], ◌∷◌, map, Bool, true, false, ◌&&◌, ◌||◌, not, cond, leb, ltb, eqb, length, drop}
use Rattle.std.proofs.lemmas.List.Edits.{sets}
use Rattle.definition.specs.Lists.{up_from}
use Rattle.definition.specs.Bytes.{Bytes, Result, ok, ◌>>=◌, refuse_if, number_at, bytes_of, chunks}
use Rattle.definition.specs.Limits.{message_size, record_head, port_count, max_records}
use Rattle.definition.specs.Model.{Message, Bag}
use Rattle.definition.specs.Records.{message_at}
use Rattle.definition.specs.Instant.{TraceRecord, record_bytes}
use Rattle.law_base.specs.Keys.{key_of}
use Rattle.definition.specs.Pinned.TraceReader.{record_count}

-- Messages on ports that there are, whose keys do not fall, from a key on.
unfoldable pub keys_rise : ℕ → Bag → Bool
keys_rise low [] = true
keys_rise low (x ∷ xs) = ltb x.port port_count && leb low (key_of x.port x.value) && keys_rise (key_of x.port x.value) xs

-- What a scan carries: whether a record came before, its moment and step, and how many records and messages there were.
pub record Scan : Type 0 where
  pub some : Bool
  pub moment : ℕ
  pub step : ℕ
  pub records : ℕ
  pub messages : ℕ

unfoldable pub none_yet : Scan
none_yet = record { some = false; moment = 0; step = 0; records = 0; messages = 0 }

-- The next record's pair lies above the last one's.
unfoldable pub pair_next : Scan → ℕ → ℕ → Bool
pair_next c t k = not c.some || (ltb c.moment t || (eqb c.moment t && ltb c.step k))

unfoldable pub scan_next : Scan → ℕ → ℕ → ℕ → Scan
scan_next c t k n = record { some = true; moment = t; step = k; records = suc c.records; messages = c.messages + n }

-- The messages of the record at a position.
unfoldable pub bag_from : ℕ → Bytes → Bag
bag_from at s = map (message_at 0) (chunks (number_at 2 (at + 10) s) message_size (drop (at + record_head) s))

-- The record at a position, and n records from there on.
unfoldable pub record_from : ℕ → Bytes → TraceRecord
record_from at s = record { moment = number_at 8 at s; step = number_at 2 (at + 8) s; messages = bag_from at s }

unfoldable pub records_by : ℕ → ℕ → Bytes → List TraceRecord
records_by zero at s = []
records_by (suc n) at s = record_from at s ∷ records_by n (at + (record_head + number_at 2 (at + 10) s * message_size)) s

-- The record at a position is whole, not empty, above the one before it, and its messages rise.
unfoldable pub record_next : Scan → ℕ → Bytes → Bool
record_next c at s =
    leb (record_head + number_at 2 (at + 10) s * message_size) (length s - at) && not (eqb (number_at 2 (at + 10) s) 0) && pair_next c (number_at 8 at s) (number_at 2 (at + 8) s)
    && keys_rise 0 (bag_from at s)

-- The records from a position on.
unfoldable pub scan_from : ℕ → ℕ → Scan → Bytes → Result Scan
scan_from zero at c s = do
  _ ← refuse_if (ltb at (length s)) 17
  ok c
scan_from (suc turns) at c s =
    let on = (do
      _ ← refuse_if (not (record_next c at s)) 17
      scan_from turns (at + (record_head + number_at 2 (at + 10) s * message_size)) (scan_next c (number_at 8 at s) (number_at 2 (at + 8) s) (number_at 2 (at + 10) s)) s) in
    cond (ltb at (length s)) on (ok c)

-- The whole trace: how many records and messages it has, or 17.
unfoldable pub scanned : Bytes → Result Scan
scanned s = do
  c ← scan_from (length s) 0 none_yet s
  _ ← refuse_if (ltb max_records c.records) 17
  ok c

-- ---- columns by position

-- Message q, where there are n records and k messages.
unfoldable pub message_in : ℕ → ℕ → Bytes → ℕ → Message
message_in n k s q = record { port = number_at 1 (4 + 12 * n + q) s; value = number_at 2 (4 + 12 * n + k + 2 * q) s }

-- Record i, whose messages begin with message j.
unfoldable pub record_in : ℕ → ℕ → Bytes → ℕ → ℕ → TraceRecord
record_in n k s i j = record {
  moment = number_at 8 (4 + 8 * i) s;
  step = number_at 2 (4 + 8 * n + 2 * i) s;
  messages = map (message_in n k s) (up_from j (number_at 2 (4 + 10 * n + 2 * i) s));
}

-- `left` records from record i and message j on.
unfoldable pub records_at : ℕ → ℕ → Bytes → ℕ → ℕ → ℕ → List TraceRecord
records_at n k s zero i j = []
records_at n k s (suc left) i j = record_in n k s i j ∷ records_at n k s left (suc i) (j + number_at 2 (4 + 10 * n + 2 * i) s)

-- The message counts from record i on, added up.
unfoldable pub counts_from : ℕ → Bytes → ℕ → ℕ → ℕ
counts_from n s zero i = 0
counts_from n s (suc left) i = number_at 2 (4 + 10 * n + 2 * i) s + counts_from n s left (suc i)

-- Record i is not empty, lies above the one before it, and its messages, from message j on, rise.
unfoldable pub column_next : ℕ → ℕ → Bytes → ℕ → ℕ → Scan → Bool
column_next n k s i j c =
    not (eqb (number_at 2 (4 + 10 * n + 2 * i) s) 0) && pair_next c (number_at 8 (4 + 8 * i) s) (number_at 2 (4 + 8 * n + 2 * i) s)
    && keys_rise 0 (map (message_in n k s) (up_from j (number_at 2 (4 + 10 * n + 2 * i) s)))

-- So do `left` records from record i and message j on.
unfoldable pub columns_good : ℕ → ℕ → Bytes → ℕ → ℕ → ℕ → Scan → Bool
columns_good n k s zero i j c = true
columns_good n k s (suc left) i j c =
    let m = number_at 2 (4 + 10 * n + 2 * i) s in
    column_next n k s i j c && columns_good n k s left (suc i) (j + m) (scan_next c (number_at 8 (4 + 8 * i) s) (number_at 2 (4 + 8 * n + 2 * i) s) m)

-- 18, or the numbers of records and messages.
unfoldable pub columns_scanned : Bytes → Result (ℕ × ℕ)
columns_scanned s = do
  _ ← refuse_if (ltb (length s) (4 + 12 * record_count s)) 18
  _ ← refuse_if (not (eqb (length s) (4 + 12 * record_count s + 3 * counts_from (record_count s) s (record_count s) 0))) 18
  _ ← refuse_if (not (columns_good (record_count s) (counts_from (record_count s) s (record_count s) 0) s (record_count s) 0 0 none_yet)) 18
  ok (record_count s, counts_from (record_count s) s (record_count s) 0)

-- ---- what is written

-- Messages from message j on, each into two columns; n records, k messages in all.
unfoldable pub put_messages : ℕ → ℕ → ℕ → Bag → Bytes → Bytes
put_messages n k j [] out = out
put_messages n k j (x ∷ xs) out =
    put_messages n k (suc j) xs (sets (sets out (4 + 12 * n + j) (bytes_of 1 x.port)) (4 + 12 * n + k + 2 * j) (bytes_of 2 x.value))

-- Record i, whose messages begin with message j, into five columns.
unfoldable pub put_record : ℕ → ℕ → ℕ → ℕ → TraceRecord → Bytes → Bytes
put_record n k i j r out =
    put_messages n k j r.messages
    (sets (sets (sets out (4 + 8 * i) (bytes_of 8 r.moment)) (4 + 8 * n + 2 * i) (bytes_of 2 r.step)) (4 + 10 * n + 2 * i) (bytes_of 2 (length r.messages)))

unfoldable pub put_records : ℕ → ℕ → ℕ → ℕ → List TraceRecord → Bytes → Bytes
put_records n k i j [] out = out
put_records n k i j (r ∷ rs) out = put_records n k (suc i) (j + length r.messages) rs (put_record n k i j r out)

-- Records in a row from a position on.
unfoldable pub put_trace : ℕ → List TraceRecord → Bytes → Bytes
put_trace at [] out = out
put_trace at (r ∷ rs) out = put_trace (at + length (record_bytes r)) rs (sets out at (record_bytes r))

-- Messages into two columns whose next places are p and v.
unfoldable pub put_pairs : ℕ → ℕ → Bag → Bytes → Bytes
put_pairs p v [] out = out
put_pairs p v (x ∷ xs) out = put_pairs (p + 1) (v + 2) xs (sets (sets out p (bytes_of 1 x.port)) v (bytes_of 2 x.value))
