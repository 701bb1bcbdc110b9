-- Rows; a section's records as a slice of their own: what it holds, where it stands in the file, and what follows it. Assumes nothing.
use Rattle.std.specs.Prelude.{ℕ, ◌+◌, ◌*◌, ◌/◌, List, map, length, take, drop}
use Rattle.definition.specs.Bytes.{Bytes, chunks}
use Rattle.definition.specs.Limits.{count_size}

-- Row k of rows of `size` bytes each.
unfoldable pub row : ℕ → ℕ → Bytes → Bytes
row size k s = take size (drop (size * k) s)

-- The records in a slice, as many as it has room for.
unfoldable pub records_in : {A : Type 0} → ℕ → (Bytes → A) → Bytes → List A
records_in size to s = map to (chunks (length s / size) size s)

-- The bytes of the n records of the section at the front of s, without the count.
unfoldable pub part_of : ℕ → ℕ → Bytes → Bytes
part_of size n s = take (n * size) (drop count_size s)

-- What follows that section.
unfoldable pub rest_after : ℕ → ℕ → Bytes → Bytes
rest_after size n s = drop (count_size + n * size) s
