-- One turn of a loop that writes a column or links, and its end. Assumes nothing.
use mathlib.Core.Path.{◌≡◌, ◌∙◌}
use Prim.Native.Nat.{ℕ, zero, suc, ◌+◌, ◌-◌, ◌<◌, ◌≤◌}
use mathlib.Core.List.{List}
use native.Mathlib.Omega.{arith}
use native.Mathlib.Nat.{add-zero}
use lib.ListN.{set}
use Rattle.table_words.specs.Writes.{column, link_at, linked}

module _ (at : ℕ) (f : ℕ → ℕ) (n : ℕ) where
  -- one row more
  pub column-more : (i : ℕ) (t : List ℕ) → i < n → column at f (n - (i + 1)) (i + 1) (set t (at + i) (f i)) ≡ column at f (n - i) i t
  unfolding column
  column-more i t h = let e : n - i ≡ suc (n - (i + 1)) = omega arith in rw e

  pub column-end : (i : ℕ) (t : List ℕ) → n ≤ i → column at f (n - i) i t ≡ t
  unfolding column
  column-end i t h = let e : n - i ≡ 0 = omega arith in rw e

  -- rows i + j and on, m of them alike
  alike : (i v m j : ℕ) (t : List ℕ) → i + j + m ≤ n → ((k : ℕ) → j ≤ k → k < j + m → f (i + k) ≡ v)
      → column at f (n - (i + (j + m))) (i + (j + m)) (column (at + i) (λ _. v) m j t) ≡ column at f (n - (i + j)) (i + j) t
  unfolding column
  alike i v zero j t h g = rw (add-zero j)
  alike i v (suc m) j t h g =
      let e : j + suc m ≡ j + 1 + m = omega arith in
      let p : at + i + j ≡ at + (i + j) = omega arith in
      let q : i + (j + 1) ≡ i + j + 1 = omega arith in
      let s = set t (at + i + j) v in
      let one : column at f (n - (i + (j + suc m))) (i + (j + suc m)) (column (at + i) (λ _. v) m (j + 1) s) ≡ column at f (n - (i + (j + 1))) (i + (j + 1)) s =
      rw e (alike i v m (j + 1) s (omega arith) (λ k a b. g k (omega arith) (omega arith))) in
      let two : column at f (n - (i + (j + 1))) (i + (j + 1)) s ≡ column at f (n - (i + j)) (i + j) t =
      rw (p, q, ← g j (omega arith) (omega arith)) (column-more (i + j) t (omega arith)) in
      one ∙ two

  -- four rows more
  pub four-more : (i v : ℕ) (t : List ℕ) → i + 4 ≤ n → ((k : ℕ) → k < 4 → f (i + k) ≡ v)
      → column at f (n - (i + 4)) (i + 4) (column (at + i) (λ _. v) 4 0 t) ≡ column at f (n - i) i t
  four-more i v t h g = alike i v 4 0 t (omega arith) (λ k a b. g k b) ∙ rw (add-zero i)

module _ (first size next : ℕ) (key : ℕ → ℕ) where
  -- one link more
  pub linked-more : (i : ℕ) (t : List ℕ) → 0 < i → linked first size next key (i - 1) (link_at first size next (key (i - 1 + 1)) (i - 1 + 1) t) ≡ linked first size next key i t
  unfolding linked
  linked-more zero t h = absurd (omega arith)
  linked-more (suc i) t h =
      let e : suc i - 1 + 1 ≡ suc i = omega arith in
      let d : suc i - 1 ≡ i = omega arith in
      rw (e, d)

  pub linked-end : (j : ℕ) (t : List ℕ) → j ≡ 0 → linked first size next key j t ≡ t
  unfolding linked
  linked-end j t e = rw e
