-- Bytes written out in short rows, for the tables that give files, runs and traces as literals. Assumes nothing.
use Prim.Native.Nat.{ℕ}
use mathlib.Core.List.{[], ◌∷◌, ◌++◌}
use lib.ListN.{replicate}
use Rattle.definition.specs.Bytes.{Bytes}

unfoldable pub b2 : ℕ → ℕ → Bytes
b2 a b = a ∷ b ∷ []

unfoldable pub b3 : ℕ → ℕ → ℕ → Bytes
b3 a b c = a ∷ b ∷ c ∷ []

unfoldable pub b4 : ℕ → ℕ → ℕ → ℕ → Bytes
b4 a b c d = a ∷ b ∷ c ∷ d ∷ []

unfoldable pub b5 : ℕ → ℕ → ℕ → ℕ → ℕ → Bytes
b5 a b c d e = a ∷ b ∷ c ∷ d ∷ e ∷ []

-- n zeros
unfoldable pub z : ℕ → Bytes
z n = replicate n 0

-- the four bytes of never, and of no upper end
unfoldable pub endless : Bytes
endless = b4 255 255 255 255

-- a phase record that is never due, with next phase 0 and no output
unfoldable pub still : Bytes
still = endless ++ z 14

-- the root's component record
unfoldable pub root : Bytes
root = b5 0 0 0 0 0

-- One name that opens them.
unfoldable pub literals : Type 0
unfolding b2 b3 b4 b5 z endless still root
literals = Unit {0}
