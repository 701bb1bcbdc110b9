-- A buffer with a position: what stands in it, and where the next number goes. Keys are put into one, and the bytes of a text. Assumes nothing.
use Rattle.std.specs.Prelude.{ℕ, ◌+◌, List, [], ◌∷◌, cond, set, length, ltb}

-- One number put at the position, which moves on; nothing where the buffer is full.
unfoldable pub put1 : ℕ → List ℕ × ℕ → List ℕ × ℕ
put1 v st = (set st.0 st.1 v, cond (ltb st.1 (length st.0)) (st.1 + 1) st.1)

-- Numbers put one after the other.
unfoldable pub put : List ℕ → List ℕ × ℕ → List ℕ × ℕ
put [] st = st
put (v ∷ vs) st = put vs (put1 v st)
