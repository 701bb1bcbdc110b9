-- A record whose numbers lie at given places, read, judged and put: the same for records in a row and for columns. Nothing here has to be
-- believed. Assumes nothing.
use Rattle.std.specs.Prelude.{ℕ, zero, suc, ◌+◌, ◌≤◌, ◌<◌, [], ◌∷◌, Bool, true, ◌&&◌, ◌||◌, not, Option, Some, None, ltb, eqb, length}
use Rattle.std.proofs.lemmas.List.Edits.{sets}
use Rattle.definition.specs.Bytes.{Bytes, number_at, bytes_of}
use Rattle.definition.specs.Model.{Bag}
use Rattle.definition.specs.Instant.{TraceRecord}
use Rattle.law_columns.specs.ByPosition.{keys_rise}
use Rattle.columns_records.specs.declared.Places.{Places}
use Rattle.columns_records.specs.declared.Apart.{Apart}
use Rattle.columns_records.specs.declared.Pair.{Pair}

-- ---- what is read

-- So many messages, the first one's port at p and its value at v.
unfoldable pub messages_at : Apart → ℕ → ℕ → ℕ → Bytes → Bag
messages_at a p v zero s = []
messages_at a p v (suc n) s = record { port = number_at 1 p s; value = number_at 2 v s } ∷ messages_at a (p + a.ports) (v + a.values) n s

-- How many messages the record has.
abbrev pub count_at : Places → Bytes → ℕ
count_at at s = number_at 2 at.count s

unfoldable pub record_at : Apart → Places → Bytes → TraceRecord
record_at a at s = record {
  moment = number_at 8 at.moment s;
  step = number_at 2 at.step s;
  messages = messages_at a at.ports at.values (count_at at s) s;
}

-- A pair of moment and step lies above that of the record before, if there was one.
unfoldable pub pair_above : Option Pair → ℕ → ℕ → Bool
pair_above None t k = true
pair_above (Some l) t k = ltb l.moment t || (eqb l.moment t && ltb l.step k)

-- The record is not empty, lies above the one before, and its messages rise.
unfoldable pub fits_after : Option Pair → Apart → Places → Bytes → Bool
fits_after l a at s =
    not (eqb (count_at at s) 0) && pair_above l (number_at 8 at.moment s) (number_at 2 at.step s)
    && keys_rise 0 (messages_at a at.ports at.values (count_at at s) s)

-- ---- what is put

unfoldable pub messages_put : Apart → ℕ → ℕ → Bag → Bytes → Bytes
messages_put a p v [] out = out
messages_put a p v (x ∷ xs) out = messages_put a (p + a.ports) (v + a.values) xs (sets (sets out p (bytes_of 1 x.port)) v (bytes_of 2 x.value))

unfoldable pub head_put : Places → (moment step count : ℕ) → Bytes → Bytes
head_put at t k n out = sets (sets (sets out at.moment (bytes_of 8 t)) at.step (bytes_of 2 k)) at.count (bytes_of 2 n)

unfoldable pub record_put : Apart → Places → TraceRecord → Bytes → Bytes
record_put a at r out = messages_put a at.ports at.values r.messages (head_put at r.moment r.step (length r.messages) out)

-- ---- what lies within so many bytes

-- Messages lie at most 3 bytes apart, so that no place past the last one is out of a number's range.
abbrev pub Near : Apart → Type 0
Near a = (a.ports ≤ 3) × (a.values ≤ 3)

abbrev pub MessagesWithin : ℕ → Apart → ℕ → ℕ → ℕ → Type 0
MessagesWithin size a p v zero = Unit {0}
MessagesWithin size a p v (suc n) = (p < size) × (v + 2 ≤ size) × MessagesWithin size a (p + a.ports) (v + a.values) n

pub record HeadWithin (size : ℕ) (at : Places) : Type 0 where
  pub moment : at.moment + 8 ≤ size
  pub step : at.step + 2 ≤ size
  pub count : at.count + 2 ≤ size

-- A record of so many messages.
abbrev pub RecordWithin : ℕ → Apart → Places → ℕ → Type 0
RecordWithin size a at n = HeadWithin size at × MessagesWithin size a at.ports at.values n
