-- A condition on every word of a table, by its place: kept by each way of writing whose words meet it. Assumes nothing.
use mathlib.Core.Path.{◌≡◌, refl, sym, ap, ◌∙◌, subst}
use mathlib.Core.List.{List}
use mathlib.Core.Bool.{Bool, true, false, cond}
use Prim.Native.Nat.{ℕ, zero, suc, ◌+◌, ◌<◌, ◌≤◌}
use native.Mathlib.Omega.{arith}
use lib.ListN.{get_or, length, set, length-set, get_or-eq_default}
use lib.Seq.{get_or-set_same, get_or-set_other}
use lib.Dec.{eqb, ltb}
use borrow.Author.Tests.{eqb-true, eqb-false, ltb-true, ltb-false}
use Rattle.table_words.specs.Writes.{column, put_in, link_at, linked}

-- Nothing stands for zeros.
module _ (P : ℕ → ℕ → Type 0) (zeros : (x : ℕ) → P x 0) where
  abbrev pub Words : List ℕ → Type 0
  Words t = (x : ℕ) → P x (get_or t x 0)

  pub words-set : (t : List ℕ) (p v : ℕ) → Words t → P p v → Words (set t p v)
  words-set t p v w a x = go (eqb p x) refl (ltb p (length t)) refl
    where
      go : (e : Bool) → eqb p x ≡ e → (b : Bool) → ltb p (length t) ≡ b → P x (get_or (set t p v) x 0)
      go true e true b = subst (λ y. P y (get_or (set t p v) y 0)) (eqb-true p x e) (subst (P p) (sym (get_or-set_same t p v 0 (ltb-true p (length t) b))) a)
      go true e false b =
          subst (λ y. P y (get_or (set t p v) y 0)) (eqb-true p x e)
          (subst (P p) (sym (get_or-eq_default (set t p v) 0 (omega (arith, length-set t p v, ltb-false p (length t) b)))) (zeros p))
      go false e b d = subst (P x) (sym (get_or-set_other t p x v 0 (λ q. eqb-false p x e (sym q)))) (w x)

  pub words-column : (at : ℕ) (f : ℕ → ℕ) (m i : ℕ) (t : List ℕ) → Words t → ((k : ℕ) → i ≤ k → k < i + m → P (at + k) (f k)) → Words (column at f m i t)
  unfolding column
  words-column at f zero i t w h = w
  words-column at f (suc m) i t w h =
      words-column at f m (i + 1) (set t (at + i) (f i)) (words-set t (at + i) (f i) w (h i (omega arith) (omega arith))) (λ k a b. h k (omega arith) (omega arith))

  pub words-put : (at size k v : ℕ) (t : List ℕ) → Words t → (k < size → P (at + k) v) → Words (put_in at size k v t)
  unfolding put_in
  words-put at size k v t w h = go (ltb k size) refl
    where
      go : (b : Bool) → ltb k size ≡ b → Words (cond b (set t (at + k) v) t)
      go true e = words-set t (at + k) v w (h (ltb-true k size e))
      go false e = w

  -- Links: a word that may stand first may stand next, and each link may stand first at its key.
  module _ (first size next : ℕ) (key : ℕ → ℕ) (top : ℕ) (moves : (j k : ℕ) → 0 < j → j ≤ top → k < size → (v : ℕ) → P (first + k) v → (0 < v → j < v) → P (next + j) v)
      (own : (j : ℕ) → 0 < j → j ≤ top → key j < size → P (first + key j) j) where
    -- What stands first is above the links that are still to come.
    abbrev Later : ℕ → List ℕ → Type 0
    Later j t = (k : ℕ) → k < size → 0 < get_or t (first + k) 0 → j < get_or t (first + k) 0

    pub words-linked : first + size ≤ next → (j : ℕ) (t : List ℕ) → j ≤ top → Later j t → Words t → Words (linked first size next key j t)
    unfolding linked link_at
    words-linked apart zero t l late w = w
    words-linked apart (suc j) t l late w =
        words-linked apart j (link_at first size next (key (suc j)) (suc j) t) (omega arith) (later (ltb k size) refl) (words (ltb k size) refl)
      where
        k : ℕ
        k = key (suc j)

        v : ℕ
        v = get_or t (first + k) 0

        u : List ℕ
        u = set t (next + suc j) v

        words : (b : Bool) → ltb k size ≡ b → Words (cond b (set u (first + k) (suc j)) t)
        words true e =
            let b = ltb-true k size e in
            words-set u (first + k) (suc j) (words-set t (next + suc j) v w (moves (suc j) k (omega arith) l b v (w (first + k)) (late k b))) (own (suc j) (omega arith) l b)
        words false e = w

        at : (x : ℕ) → x < size → (e : Bool) → eqb (first + k) (first + x) ≡ e → 0 < get_or (set u (first + k) (suc j)) (first + x) 0 → j < get_or (set u (first + k) (suc j)) (first + x) 0
        at x h true e p = own-place (ltb (first + k) (length u)) refl (ap (λ y. get_or (set u (first + k) (suc j)) y 0) (eqb-true (first + k) (first + x) e)) p
          where
            own-place : (b : Bool) → ltb (first + k) (length u) ≡ b → get_or (set u (first + k) (suc j)) (first + k) 0 ≡ get_or (set u (first + k) (suc j)) (first + x) 0
                → 0 < get_or (set u (first + k) (suc j)) (first + x) 0 → j < get_or (set u (first + k) (suc j)) (first + x) 0
            own-place true b q p = omega (arith, q, get_or-set_same u (first + k) (suc j) 0 (ltb-true (first + k) (length u) b))
            own-place false b q p =
                absurd (omega (arith, q, get_or-eq_default (set u (first + k) (suc j)) 0 {n = first + k} (omega (arith, length-set u (first + k) (suc j), ltb-false (first + k) (length u) b))))
        at x h false e p =
            let s = get_or-set_other u (first + k) (first + x) (suc j) 0 (λ q. eqb-false (first + k) (first + x) e (sym q)) ∙ get_or-set_other t (next + suc j) (first + x) v 0 (λ q. omega arith) in
            omega (arith, s, late x h (omega (arith, s)))

        later : (b : Bool) → ltb k size ≡ b → Later j (cond b (set u (first + k) (suc j)) t)
        later true e x h p = at x h (eqb (first + k) (first + x)) refl p
        later false e x h p = omega (arith, late x h p)
