-- What a trace is, its columns, and the two calls that rearrange: request (iii) of document 02. Assumes nothing.
use Rattle.std.specs.Prelude.{◌≡◌, ℕ, ◌≤◌, List, [], ◌∷◌, ◌++◌, map, Bool, true, ◌&&◌, ◌||◌, not, ltb, eqb, length}
use Rattle.definition.specs.Lists.{concat, all, is_empty, rises}
use Rattle.definition.specs.Bytes.{Bytes, bytes_of}
use Rattle.definition.specs.Limits.{max_records}
use Rattle.definition.specs.Model.{Bag, message_le}
use Rattle.definition.specs.Records.{message_layout, port_fits}
use Rattle.definition.specs.Sound.{Held, Every}
use Rattle.definition.specs.Instant.{TraceRecord, trace_bytes}

-- ---- what a trace is

-- "A trace's pairs of moment and step rise strictly, moment first"
unfoldable pub pair_below : TraceRecord → TraceRecord → Bool
pair_below r q = ltb r.moment q.moment || (eqb r.moment q.moment && ltb r.step q.step)

-- No "empty record", no "messages falling", no "port above 3".
unfoldable pub record_fits : TraceRecord → Bool
record_fits r = not (is_empty r.messages) && rises message_le r.messages && all port_fits r.messages

-- "moment (8), step in the instant from 0 (2), message count (2), messages of 3 bytes": each number is one that its bytes hold.
abbrev pub RecordHeld : TraceRecord → Type 0
RecordHeld r = Held ((8, r.moment) ∷ (2, r.step) ∷ (2, length r.messages) ∷ []) × Every (λ x. Held (message_layout x)) r.messages

-- The bytes are these records in a row, and nothing is "cut"; however many there are.
pub record Recorded (s : Bytes) (rs : List TraceRecord) : Type 0 where
  pub whole : s ≡ trace_bytes rs
  pub held : Every RecordHeld rs
  pub records : all record_fits rs ≡ true
  pub pairs : rises pair_below rs ≡ true

-- .. and not "over 4,294,967,295 records".
pub record IsTrace (s : Bytes) (rs : List TraceRecord) : Type 0 where
  pub recorded : Recorded s rs
  pub few : length rs ≤ max_records

-- ---- its columns

-- A number of each, one after the other.
unfoldable pub column : {A : Type 0} → ℕ → (A → ℕ) → List A → Bytes
column width f xs = concat (map (λ x. bytes_of width (f x)) xs)

unfoldable pub messages_of : List TraceRecord → Bag
messages_of rs = concat (map (λ r. r.messages) rs)

-- "the record count (4 bytes), all moments, all steps, all message counts, all ports, all values"
unfoldable pub column_bytes : List TraceRecord → Bytes
column_bytes rs =
    bytes_of 4 (length rs) ++ column 8 (λ r. r.moment) rs ++ column 2 (λ r. r.step) rs ++ column 2 (λ r. length r.messages) rs
    ++ column 1 (λ x. x.port) (messages_of rs) ++ column 2 (λ x. x.value) (messages_of rs)

-- "Rearrange a trace into columns": these bytes are a trace, and those its columns.
pub record Rearranges (trace columns : Bytes) : Type 0 where
  pub records : List TraceRecord
  pub is_trace_lem : IsTrace trace records
  pub its_columns : columns ≡ column_bytes records
