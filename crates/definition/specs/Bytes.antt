-- Bytes as lists of numbers; little-endian numbers over a width; layouts; a value or the number of a refusal. Assumes nothing.
use Rattle.std.specs.Prelude.{◌≡◌, ℕ, zero, suc, ◌+◌, ◌*◌, ◌/◌, ◌%◌, List, [], ◌∷◌, ◌++◌, Bool, true, false, ltb, length, take, drop}

abbrev pub Bytes : Type 0
Bytes = List ℕ

-- Every element is a byte: all that is ever assumed of a buffer.
pub data AllBytes : Bytes → Type 0 where
  none : AllBytes []
  more : {b : ℕ} {bs : Bytes} → ltb b 256 ≡ true → AllBytes bs → AllBytes (b ∷ bs)

-- "All multi-byte numbers are little-endian": the number that the bytes spell.
unfoldable pub little_endian : Bytes → ℕ
little_endian [] = 0
little_endian (b ∷ bs) = b + 256 * little_endian bs

-- The number of the given width at a position; bytes past the end count as 0.
unfoldable pub number_at : ℕ → ℕ → Bytes → ℕ
number_at width at s = little_endian (take width (drop at s))

-- The low `width` bytes of n.
unfoldable pub bytes_of : ℕ → ℕ → Bytes
bytes_of zero n = []
bytes_of (suc width) n = n % 256 ∷ bytes_of width (n / 256)

-- A record's layout: its fields in file order, each with its width in bytes.
abbrev pub Layout : Type 0
Layout = List (ℕ × ℕ)

unfoldable pub laid_out : Layout → Bytes
laid_out [] = []
laid_out (f ∷ fs) = bytes_of f.0 f.1 ++ laid_out fs

-- n rows of `size` bytes each.
unfoldable pub chunks : ℕ → ℕ → Bytes → List Bytes
chunks zero size s = []
chunks (suc n) size s = take size s ∷ chunks n size (drop size s)

-- The buffer with new bytes at its front; the bytes beyond them stay.
unfoldable pub stored : Bytes → Bytes → Bytes
stored front buffer = front ++ drop (length front) buffer

-- Either a value or the number of a refusal.
pub data Result (A : Type 0) : Type 0 where
  ok : A → Result A
  refused : ℕ → Result A

infixl 10 ◌>>=◌
abbrev pub ◌>>=◌ : {A B : Type 0} → Result A → (A → Result B) → Result B
ok a >>= f = f a
refused n >>= f = refused n

-- Number n where the test passes.
abbrev pub refuse_if : Bool → ℕ → Result (Unit {0})
refuse_if true n = refused n
refuse_if false n = ok tt

-- "0 is success."
abbrev pub number_of : {A : Type 0} → Result A → ℕ
number_of (ok a) = 0
number_of (refused n) = n
