-- What a slice of bytes is known to hold. Assumes nothing.
use Prim.Native.Nat.{ℕ, suc, ◌<◌}
use mathlib.Core.List.{[], ◌∷◌}
use lib.ListN.{get_or}
use borrow.Author.Tests.{lt-ltb}
use Rattle.definition.specs.Bytes.{Bytes, AllBytes, none, more}

-- Elements below 256 are bytes.
pub all-bytes : (s : Bytes) → ((i : ℕ) → get_or s i 0 < 256) → AllBytes s
all-bytes [] h = none
all-bytes (b ∷ s) h = more (lt-ltb b 256 (h 0)) (all-bytes s (λ i. h (suc i)))
