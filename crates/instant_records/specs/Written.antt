-- The record of a step whose messages stand as keys in a buffer, its size, and a buffer with it. Assumes nothing.
use Rattle.std.specs.Prelude.{ℕ, zero, suc, ◌+◌, ◌*◌, List, [], ◌∷◌, map, cond, leb, length, take}
use Rattle.std.proofs.lemmas.List.Edits.{sets}
use Rattle.definition.specs.Bytes.{Bytes}
use Rattle.definition.specs.Limits.{message_size}
use Rattle.definition.specs.Instant.{TraceRecord, record_bytes}
use Rattle.law_base.specs.Keys.{message_of}

-- "moment (8), step in the instant from 0 (2), message count (2)"
abbrev pub record_head : ℕ
record_head = 12

-- The greatest number of 64 bits.
abbrev pub word_max : ℕ
word_max = 18446744073709551615

-- The record of messages that stand in order already.
unfoldable pub record_of : ℕ → ℕ → List ℕ → TraceRecord
record_of now k keys = record { moment = now; step = k; messages = map message_of keys }

-- "A trace record stands for each step with output at the root": the bytes of a step.
unfoldable pub step_bytes : ℕ → ℕ → List ℕ → Bytes
step_bytes now k [] = []
step_bytes now k (x ∷ keys) = record_bytes (record_of now k (x ∷ keys))

-- How many bytes a step with so many messages has.
unfoldable pub step_size : ℕ → ℕ
step_size zero = 0
step_size (suc n) = record_head + message_size * suc n

-- A buffer after a step: the step's bytes stand at `used` where they fit.
unfoldable pub step_put : ℕ → ℕ → List ℕ → ℕ → ℕ → Bytes → Bytes
step_put now k keys count used out = cond (leb (used + step_size count) (length out)) (sets out used (step_bytes now k (take count keys))) out
