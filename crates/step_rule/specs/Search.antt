-- What the search for the deciding rule answers, the two bytes by which a rule is passed over, and the test of a key by a rule's port
-- and values. Assumes nothing.
use Rattle.std.proofs.Math.Option as Math
use Rattle.std.specs.Prelude.{ℕ, Option, Some, None, ◌+◌, ◌*◌, Bool, cond, ◌&&◌, nat_le, nat_lt}
use Rattle.definition.specs.Model.{RangeReading, inclusive, half_open}

-- The position that the code's answer names.
abbrev pub found_of : Option ℕ → Math.Option ℕ
found_of (Some i) = Math.some i
found_of None = Math.none

-- The first two bytes, as one number, of the rules of component c in phase p; no two bytes make it where c is no byte.
unfoldable pub head_of : ℕ → ℕ → ℕ
head_of c p = cond (nat_lt c 256) (c + 256 * p) 65536

-- The ticks that the high end adds to a range.
abbrev pub end_ticks : RangeReading → ℕ
end_ticks inclusive = 1
end_ticks half_open = 0

-- The key lies between two keys.
unfoldable pub between : ℕ → ℕ → ℕ → Bool
between low high key = nat_le low key && nat_le key high
