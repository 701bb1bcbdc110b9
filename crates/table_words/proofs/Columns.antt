-- What a table holds after writes: the written rows, and everywhere else what stood there. Assumes nothing.
use mathlib.Core.Path.{◌≡◌, refl, sym, ap, ◌∙◌}
use mathlib.Core.List.{List}
use mathlib.Core.Bool.{Bool, true, false, cond}
use Prim.Native.Nat.{ℕ, zero, suc, ◌+◌, ◌<◌, ◌≤◌}
use native.Mathlib.Omega.{arith}
use lib.ListN.{get_or, length, set, length-set}
use lib.Seq.{get_or-set_same, get_or-set_other}
use lib.Dec.{ltb}
use borrow.Author.Tests.{ltb-true, ltb-false}
use Rattle.table_words.specs.Writes.{column, put_in}

-- Between two tables only places from a up to b differ, and they are equally long.
pub record Within (a b : ℕ) (s t : List ℕ) : Type 0 where
  pub below : (x : ℕ) → x < a → get_or t x 0 ≡ get_or s x 0
  pub above : (x : ℕ) → b ≤ x → get_or t x 0 ≡ get_or s x 0
  pub long : length t ≡ length s

pub within_none : (a b : ℕ) (t : List ℕ) → Within a b t t
within_none a b t = record { below = λ x l. refl; above = λ x l. refl; long = refl }

pub within_both : {a b c d e f : ℕ} {s t u : List ℕ} → e ≤ a → e ≤ c → b ≤ f → d ≤ f → Within a b s t → Within c d t u → Within e f s u
within_both h i j k v w = record {
  below = λ x l. w.below x (omega arith) ∙ v.below x (omega arith);
  above = λ x l. w.above x (omega arith) ∙ v.above x (omega arith);
  long = w.long ∙ v.long;
}

pub within-set : {a b : ℕ} (t : List ℕ) (x v : ℕ) → a ≤ x → x < b → Within a b t (set t x v)
within-set t x v h l = record {
  below = λ y k. get_or-set_other t x y v 0 (λ e. omega arith);
  above = λ y k. get_or-set_other t x y v 0 (λ e. omega arith);
  long = length-set t x v;
}

pub within-put : (at size k v : ℕ) (t : List ℕ) → Within at (at + size) t (put_in at size k v t)
unfolding put_in
within-put at size k v t = go (ltb k size) refl
  where
    go : (b : Bool) → ltb k size ≡ b → Within at (at + size) t (cond b (set t (at + k) v) t)
    go true e = within-set t (at + k) v (omega arith) (omega (arith, ltb-true k size e))
    go false e = within_none at (at + size) t

module _ (at : ℕ) (f : ℕ → ℕ) where
  within-column : (m i : ℕ) (t : List ℕ) → Within (at + i) (at + (i + m)) t (column at f m i t)
  unfolding column
  within-column zero i t = within_none (at + i) (at + (i + zero)) t
  within-column (suc m) i t =
      within_both {a = at + i} {b = at + (i + suc m)} {c = at + (i + 1)} {d = at + (i + 1 + m)} (omega arith) (omega arith) (omega arith) (omega arith)
      (within-set t (at + i) (f i) (omega arith) (omega arith)) (within-column m (i + 1) (set t (at + i) (f i)))

  column-from : (m i : ℕ) (t : List ℕ) (k : ℕ) → at + (i + m) ≤ length t → i ≤ k → k < i + m → get_or (column at f m i t) (at + k) 0 ≡ f k
  unfolding column
  column-from zero i t k l h g = absurd (omega arith)
  column-from (suc m) i t k l h g =
      go (ltb i k) refl (λ h. column-from m (i + 1) (set t (at + i) (f i)) k (simp length-set (omega arith)) h (omega arith))
    where
      go : (b : Bool) → ltb i k ≡ b → (i + 1 ≤ k → get_or (column at f m (i + 1) (set t (at + i) (f i))) (at + k) 0 ≡ f k)
          → get_or (column at f m (i + 1) (set t (at + i) (f i))) (at + k) 0 ≡ f k
      go true e ih = ih (omega (arith, ltb-true i k e))
      go false e ih =
          let q : k ≡ i = omega (arith, ltb-false i k e) in
          (within-column m (i + 1) (set t (at + i) (f i))).below (at + k) (omega arith)
          ∙ ap (λ j. get_or (set t (at + i) (f i)) (at + j) 0) q ∙ get_or-set_same t (at + i) (f i) 0 (omega arith) ∙ ap f (sym q)

  -- the whole column
  pub column-within : (n : ℕ) (t : List ℕ) → Within at (at + n) t (column at f n 0 t)
  column-within n t = within_both {a = at + 0} {b = at + (0 + n)} (omega arith) (omega arith) (omega arith) (omega arith) (within-column n 0 t) (within_none at (at + n) (column at f n 0 t))

  pub column-at : (n : ℕ) (t : List ℕ) (k : ℕ) → at + n ≤ length t → k < n → get_or (column at f n 0 t) (at + k) 0 ≡ f k
  column-at n t k l h = column-from n 0 t k (omega arith) (omega arith) (omega arith)

-- the rows of a column that begins its table
pub column-rows : (f : ℕ → ℕ) (n : ℕ) (s t : List ℕ) → s ≡ column 0 f n 0 t → n ≤ length t → (k : ℕ) → k < n → get_or s k 0 ≡ f k
column-rows f n s t e l k h = let z : 0 + k ≡ k = omega arith in ap (λ s. get_or s k 0) e ∙ rw z at (column-at 0 f n t k (omega arith) h)
