-- What going over a trace tests and answers, as the law of a scan has it. Nothing here has to be believed. Assumes nothing.
use Rattle.std.specs.Prelude.{ℕ, ◌+◌, ◌*◌, ◌-◌, Bool, leb, length}
use Rattle.definition.specs.Bytes.{Bytes, Result, ok, ◌>>=◌, number_at}
use Rattle.definition.specs.Limits.{message_size, record_head}
use Rattle.law_columns.specs.ByPosition.{Scan}

-- The record at a position is not cut.
unfoldable pub whole_at : ℕ → Bytes → Bool
whole_at at s = leb (record_head + number_at 2 (at + 10) s * message_size) (length s - at)

-- How many records and messages were counted.
unfoldable pub sizes_of : Result Scan → Result (ℕ × ℕ)
sizes_of r = r >>= λ c. ok (c.records, c.messages)
