-- Traces and columns read, and the two calls that rearrange them, as they compute. What they answer is pinned by demand 1: the one makes of
-- a trace its columns and refuses everything else by 17, the other makes of columns their trace and refuses everything else by 18.
-- Assumes nothing.
use Rattle.std.specs.Prelude.{ℕ, zero, suc, ◌+◌, ◌*◌, List, [], ◌∷◌, map, Bool, ◌&&◌, not, leb, ltb, eqb, length, take, drop}
use Rattle.definition.specs.Lists.{sum, all, rises}
use Rattle.definition.specs.Bytes.{Bytes, Result, ok, refused, ◌>>=◌, refuse_if, number_at, chunks}
use Rattle.definition.specs.Limits.{message_size, record_head, max_records}
use Rattle.definition.specs.Model.{Bag}
use Rattle.definition.specs.Records.{message_at}
use Rattle.definition.specs.Instant.{TraceRecord, trace_bytes}
use Rattle.definition.specs.Engine.{Wrote, wrote}
use Rattle.definition.specs.Columns.{pair_below, record_fits, column_bytes}

-- ---- records

unfoldable pub is_in_order : List TraceRecord → Bool
is_in_order rs = all record_fits rs && rises pair_below rs

unfoldable pub is_trace : List TraceRecord → Bool
is_trace rs = is_in_order rs && leb (length rs) max_records

-- The record at the front of some bytes, and how many bytes it takes. Bytes past the end count as 0.
unfoldable pub to_record : Bytes → TraceRecord
to_record s = record {
  moment = number_at 8 0 s;
  step = number_at 2 8 s;
  messages = map (message_at 0) (chunks (number_at 2 10 s) message_size (drop record_head s));
}

unfoldable pub record_length : Bytes → ℕ
record_length s = record_head + number_at 2 10 s * message_size

-- The records in a row, at most `turns` of them; 17 where they are cut.
unfoldable pub trace_records : ℕ → Bytes → Result (List TraceRecord)
trace_records zero [] = ok []
trace_records zero (b ∷ s) = refused 17
trace_records (suc turns) [] = ok []
trace_records (suc turns) (b ∷ s) = do
  _ ← refuse_if (ltb (length (b ∷ s)) (record_length (b ∷ s))) 17
  rs ← trace_records turns (drop (record_length (b ∷ s)) (b ∷ s))
  ok (to_record (b ∷ s) ∷ rs)

-- Each record takes bytes, so that there are no more records than bytes.
unfoldable pub trace_of : Bytes → Result (List TraceRecord)
trace_of s = do
  rs ← trace_records (length s) s
  _ ← refuse_if (not (is_trace rs)) 17
  ok rs

-- ---- columns

-- n numbers in a column that begins at a position.
unfoldable pub numbers_at : ℕ → ℕ → ℕ → Bytes → List ℕ
numbers_at width n at s = map (number_at width 0) (chunks n width (drop at s))

unfoldable pub messages_from : List ℕ → List ℕ → Bag
messages_from (p ∷ ps) (v ∷ vs) = record { port = p; value = v } ∷ messages_from ps vs
messages_from (p ∷ ps) [] = []
messages_from [] (v ∷ vs) = []
messages_from [] [] = []

-- Moments, steps and counts beside each other; each record takes its messages off the rest.
unfoldable pub dealt : List ℕ → List ℕ → List ℕ → Bag → List TraceRecord
dealt (t ∷ ts) (k ∷ ks) (n ∷ ns) xs = record { moment = t; step = k; messages = take n xs } ∷ dealt ts ks ns (drop n xs)
dealt (t ∷ ts) (k ∷ ks) [] xs = []
dealt (t ∷ ts) [] ns xs = []
dealt [] ks ns xs = []

unfoldable pub record_count : Bytes → ℕ
record_count s = number_at 4 0 s

unfoldable pub counts_in : Bytes → List ℕ
counts_in s = numbers_at 2 (record_count s) (4 + 10 * record_count s) s

unfoldable pub messages_in : Bytes → ℕ
messages_in s = sum (counts_in s)

unfoldable pub column_records : Bytes → List TraceRecord
column_records s =
    let n = record_count s in
    let k = messages_in s in
    dealt (numbers_at 8 n 4 s) (numbers_at 2 n (4 + 8 * n) s) (counts_in s) (messages_from (numbers_at 1 k (4 + 12 * n) s) (numbers_at 2 k (4 + 12 * n + k) s))

-- 18 where they are cut, longer than they say, or those of no trace.
unfoldable pub columns_of : Bytes → Result (List TraceRecord)
columns_of s = do
  _ ← refuse_if (ltb (length s) (4 + 12 * record_count s)) 18
  _ ← refuse_if (not (eqb (length s) (4 + 12 * record_count s + 3 * messages_in s))) 18
  _ ← refuse_if (not (is_trace (column_records s))) 18
  ok (column_records s)

-- ---- the calls

unfoldable pub rearranged : Bytes → Result Bytes
rearranged s = do
  rs ← trace_of s
  ok (column_bytes rs)

unfoldable pub restored : Bytes → Result Bytes
restored s = do
  rs ← columns_of s
  ok (trace_bytes rs)

unfoldable pub trace_to_columns : Bytes → Bytes → Wrote
trace_to_columns trace buffer = wrote buffer (rearranged trace)

unfoldable pub columns_to_trace : Bytes → Bytes → Wrote
columns_to_trace columns buffer = wrote buffer (restored columns)
