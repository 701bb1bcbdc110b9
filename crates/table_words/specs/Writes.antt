-- How the tables of a call are written: a column of numbers, a number where a place has room for it, and chains of links. Assumes nothing.
use Rattle.std.specs.Prelude.{ℕ, zero, suc, ◌+◌, List, cond, get_or, set, ltb}

-- m numbers of a column that begins at `at`, from row i on: row i holds f i.
unfoldable pub column : ℕ → (ℕ → ℕ) → ℕ → ℕ → List ℕ → List ℕ
column at f zero i t = t
column at f (suc m) i t = column at f m (i + 1) (set t (at + i) (f i))

-- Row k of a region of `size` rows that begins at `at` holds v; where there is no such row, nothing changes.
unfoldable pub put_in : ℕ → ℕ → ℕ → ℕ → List ℕ → List ℕ
put_in at size k v t = cond (ltb k size) (set t (at + k) v) t

-- Link j before the links of key k: the region `first` holds the first link of each of `size` keys, the region `next` the link after each.
unfoldable pub link_at : ℕ → ℕ → ℕ → ℕ → ℕ → List ℕ → List ℕ
link_at first size next k j t = cond (ltb k size) (set (set t (next + j) (get_or t (first + k) 0)) (first + k) j) t

-- The links 1 to n by their keys, from the last to the first, so that each key's links stand in rising order.
unfoldable pub linked : ℕ → ℕ → ℕ → (ℕ → ℕ) → ℕ → List ℕ → List ℕ
linked first size next key zero t = t
linked first size next key (suc j) t = linked first size next key j (link_at first size next (key (suc j)) (suc j) t)
