-- Messages as keys, one number each, and a buffer of keys with a position: what stands in it, and where the next key goes.
-- Assumes nothing.
use Rattle.std.specs.Prelude.{ℕ, zero, suc, ◌+◌, List, [], ◌∷◌, ◌++◌, map, cond, eqb}
use Rattle.definition.specs.Model.{Bag}
use Rattle.law_base.specs.Keys.{key_of}
unfoldable pub use Rattle.law_stores.specs.Put.{put1}

-- ---- keys

-- The values of the bag's messages on port q.
unfoldable pub values_on : ℕ → Bag → List ℕ
values_on q [] = []
values_on q (x ∷ xs) = let rest = values_on q xs in cond (eqb q x.port) (x.value ∷ rest) rest

-- The keys of the n ports from q on, where `values q` has the values on port q.
unfoldable pub keys_of : (ℕ → List ℕ) → ℕ → ℕ → List ℕ
keys_of values zero q = []
keys_of values (suc n) q = map (key_of q) (values q) ++ keys_of values n (q + 1)

-- ---- a buffer with a position

-- Values put as messages on one port, one after the other.
unfoldable pub puts : ℕ → List ℕ → List ℕ × ℕ → List ℕ × ℕ
puts port [] st = st
puts port (v ∷ vs) st = puts port vs (put1 (key_of port v) st)

-- The values of the n ports from q on.
unfoldable pub put_ports : (ℕ → List ℕ) → ℕ → ℕ → List ℕ × ℕ → List ℕ × ℕ
put_ports values zero q st = st
put_ports values (suc n) q st = put_ports values n (q + 1) (puts q (values q) st)
