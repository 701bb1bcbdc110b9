-- A key's links are those that have the key, in rising order: a chain says so without counting, since each link is above the one before it.
-- Assumes nothing.
use mathlib.Core.Path.{◌≡◌, refl, sym, ap, ◌∙◌, subst}
use mathlib.Core.List.{List, [], ◌∷◌}
use mathlib.Core.Bool.{Bool, true, false, cond}
use Prim.Native.Nat.{ℕ, zero, suc, ◌+◌, ◌<◌, ◌≤◌}
use native.Mathlib.Omega.{arith}
use native.Mathlib.Nat.{add-zero}
use mathlib.Core.Logic.{◌⊎◌, inl, inr, ⊎_elim}
use lib.ListN.{get_or, length, set, length-set}
use lib.Seq.{get_or-set_same, get_or-set_other}
use lib.Dec.{eqb, ltb}
use borrow.Author.Tests.{eqb-true, eqb-false, ltb-true, ltb-false}
use Rattle.definition.specs.Lists.{keep, up_from}
use Rattle.table_words.specs.Writes.{link_at, linked}

-- The chain that begins with link j is the list; 0 ends it.
abbrev pub Chain : (ℕ → ℕ) → ℕ → List ℕ → Type 0
Chain next j [] = j ≡ 0
Chain next j (k ∷ l) = (j ≡ k) × (0 < k) × Chain next (next k) l

-- The m links from i on that have key x.
unfoldable pub having : (ℕ → ℕ) → ℕ → ℕ → ℕ → List ℕ
having key x i m = keep (λ j. eqb (key j) x) (up_from i m)

-- Only what follows the list's own links counts.
pub chain-move : (f g : ℕ → ℕ) (p : ℕ → Bool) (j i m : ℕ) → ((k : ℕ) → i ≤ k → k < i + m → f k ≡ g k) → Chain f j (keep p (up_from i m)) → Chain g j (keep p (up_from i m))
unfolding keep up_from
chain-move f g p j i zero h c = c
chain-move f g p j i (suc m) h c = go (p i) (λ j c. chain-move f g p j (suc i) m (λ k a b. h k (omega arith) (omega arith)) c) c
  where
    go : (b : Bool) → ((j : ℕ) → Chain f j (keep p (up_from (suc i) m)) → Chain g j (keep p (up_from (suc i) m)))
        → Chain f j (cond b (i ∷ keep p (up_from (suc i) m)) (keep p (up_from (suc i) m)))
        → Chain g j (cond b (i ∷ keep p (up_from (suc i) m)) (keep p (up_from (suc i) m)))
    go true ih c = (c.0, c.1, rw (sym (h i (omega arith) (omega arith))) (ih (f i) c.2))
    go false ih c = ih j c

module _ (first size next : ℕ) (apart : first + size ≤ next) (key : ℕ → ℕ) where
  abbrev pub Chained : List ℕ → ℕ → ℕ → Type 0
  Chained t i m = (x : ℕ) → x < size → Chain (λ k. get_or t (next + k) 0) (get_or t (first + x) 0) (having key x i m)

  module _ (t : List ℕ) (j k v : ℕ) (l : k < size) where
    -- a link stored, and a first link: the links after it stand as they stood
    stored_next : (i : ℕ) → j < i → get_or t (next + i) 0 ≡ get_or (set (set t (next + j) v) (first + k) j) (next + i) 0
    stored_next i h =
        sym (get_or-set_other (set t (next + j) v) (first + k) (next + i) j 0 (λ e. omega arith) ∙ get_or-set_other t (next + j) (next + i) v 0 (λ e. omega arith))

    stored-moves : (p : ℕ → Bool) (a m : ℕ) → Chain (λ i. get_or t (next + i) 0) a (keep p (up_from (suc j) m))
        → Chain (λ i. get_or (set (set t (next + j) v) (first + k) j) (next + i) 0) a (keep p (up_from (suc j) m))
    stored-moves p a m c = chain-move (λ i. get_or t (next + i) 0) (λ i. get_or (set (set t (next + j) v) (first + k) j) (next + i) 0) p a (suc j) m (λ i h _. stored_next i h) c

    stored_other : (x : ℕ) → x < size → (k ≡ x → ⊥) → get_or (set (set t (next + j) v) (first + k) j) (first + x) 0 ≡ get_or t (first + x) 0
    stored_other x h d =
        get_or-set_other (set t (next + j) v) (first + k) (first + x) j 0 (λ e. d (omega arith)) ∙ get_or-set_other t (next + j) (first + x) v 0 (λ e. omega arith)

    stored-own : next + j < length t → get_or (set (set t (next + j) v) (first + k) j) (next + j) 0 ≡ v
    stored-own h = get_or-set_other (set t (next + j) v) (first + k) (next + j) j 0 (λ e. omega arith) ∙ get_or-set_same t (next + j) v 0 h

    stored-first : first + size ≤ length t → get_or (set (set t (next + j) v) (first + k) j) (first + k) 0 ≡ j
    stored-first h = get_or-set_same (set t (next + j) v) (first + k) j 0 (simp length-set (omega arith))

  -- one link more
  link-step : (t : List ℕ) (j m : ℕ) → 0 < j → next + j < length t → first + size ≤ length t → Chained t (suc j) m
      → Chained (link_at first size next (key j) j t) j (suc m)
  unfolding link_at having keep up_from
  link-step t j m p l f c x h = go (ltb (key j) size) refl (eqb (key j) x) refl
    where
      go : (b : Bool) → ltb (key j) size ≡ b → (e : Bool) → eqb (key j) x ≡ e
          → Chain (λ k. get_or (cond b (set (set t (next + j) (get_or t (first + key j) 0)) (first + key j) j) t) (next + k) 0)
          (get_or (cond b (set (set t (next + j) (get_or t (first + key j) 0)) (first + key j) j) t) (first + x) 0)
          (cond e (j ∷ keep (λ j. eqb (key j) x) (up_from (suc j) m)) (keep (λ j. eqb (key j) x) (up_from (suc j) m)))
      go true b true e =
          let k = key j in
          let s : k ≡ x = eqb-true k x e in
          let v = get_or t (first + k) 0 in
          let q = ltb-true k size b in (
            ap (λ y. get_or (set (set t (next + j) v) (first + k) j) (first + y) 0) (sym s) ∙ stored-first t j k v q f,
            p,
            rw (stored-own t j k v q l) (stored-moves t j k v q (λ j. eqb (key j) x) v m (subst (λ y. Chain (λ k. get_or t (next + k) 0) (get_or t (first + y) 0) (keep (λ j. eqb (key j) x) (up_from (suc j) m))) (sym s) (c x h))),
          )
      go true b false e =
          let k = key j in
          let v = get_or t (first + k) 0 in
          let q = ltb-true k size b in
          rw (stored_other t j k v q x h (eqb-false k x e)) (stored-moves t j k v q (λ j. eqb (key j) x) (get_or t (first + x) 0) m (c x h))
      go false b true e = absurd (omega (arith, ltb-false (key j) size b, eqb-true (key j) x e))
      go false b false e = c x h

  link-long : (k j : ℕ) (t : List ℕ) → length (link_at first size next k j t) ≡ length t
  unfolding link_at
  link-long k j t = go (ltb k size)
    where
      go : (b : Bool) → length (cond b (set (set t (next + j) (get_or t (first + k) 0)) (first + k) j) t) ≡ length t
      go true = length-set (set t (next + j) (get_or t (first + k) 0)) (first + k) j ∙ length-set t (next + j) (get_or t (first + k) 0)
      go false = refl

  linked-from : (j m : ℕ) (t : List ℕ) → next + j < length t → first + size ≤ length t → Chained t (suc j) m → Chained (linked first size next key j t) 1 (j + m)
  unfolding linked
  linked-from zero m t l f c x h = let e : 0 + m ≡ m = omega arith in rw e (c x h)
  linked-from (suc j) m t l f c x h =
      let e : suc j + m ≡ j + suc m = omega arith in
      let s = link-long (key (suc j)) (suc j) t in
      rw e (linked-from j (suc m) (link_at first size next (key (suc j)) (suc j) t) (omega arith) (omega arith) (link-step t (suc j) m (omega arith) l f c) x h)

  -- all links: where no key had any, each key has its own
  pub linked-chain : (n : ℕ) (t : List ℕ) → next + n < length t → first + size ≤ length t → ((x : ℕ) → x < size → get_or t (first + x) 0 ≡ 0)
      → Chained (linked first size next key n t) 1 n
  unfolding having keep up_from
  linked-chain n t l f z x h =
      subst (λ k. Chain (λ i. get_or (linked first size next key n t) (next + i) 0) (get_or (linked first size next key n t) (first + x) 0) (having key x 1 k)) (add-zero n)
      (linked-from n 0 t l f (λ x h. z x h) x h)

  -- nothing else is written
  link-else : (k j : ℕ) (t : List ℕ) (x : ℕ) → (x ≡ next + j → ⊥) → (x < first ⊎ first + size ≤ x) → get_or (link_at first size next k j t) x 0 ≡ get_or t x 0
  unfolding link_at
  link-else k j t x d o = go (ltb k size) refl
    where
      go : (b : Bool) → ltb k size ≡ b → get_or (cond b (set (set t (next + j) (get_or t (first + k) 0)) (first + k) j) t) x 0 ≡ get_or t x 0
      go true e =
          get_or-set_other (set t (next + j) (get_or t (first + k) 0)) (first + k) x j 0 (λ q. ⊎_elim (λ w. omega arith) (λ w. omega (arith, ltb-true k size e)) o)
          ∙ get_or-set_other t (next + j) x (get_or t (first + k) 0) 0 d
      go false e = refl

  pub linked-else : (n : ℕ) (t : List ℕ) (x : ℕ) → (x ≤ next ⊎ next + n < x) → (x < first ⊎ first + size ≤ x) → get_or (linked first size next key n t) x 0 ≡ get_or t x 0
  unfolding linked
  linked-else zero t x d o = refl
  linked-else (suc n) t x d o =
      linked-else n (link_at first size next (key (suc n)) (suc n) t) x (⊎_elim (λ w. inl w) (λ w. inr (omega arith)) d) o
      ∙ link-else (key (suc n)) (suc n) t x (λ q. ⊎_elim (λ w. omega arith) (λ w. omega arith) d) o

  pub linked_long : (n : ℕ) (t : List ℕ) → length (linked first size next key n t) ≡ length t
  unfolding linked
  linked_long zero t = refl
  linked_long (suc n) t = linked_long n (link_at first size next (key (suc n)) (suc n) t) ∙ link-long (key (suc n)) (suc n) t

-- only the keys of the links count
pub linked-cong : (first size next : ℕ) (f g : ℕ → ℕ) (n : ℕ) (t : List ℕ) → ((j : ℕ) → 0 < j → j ≤ n → f j ≡ g j) → linked first size next f n t ≡ linked first size next g n t
unfolding linked
linked-cong first size next f g zero t h = refl
linked-cong first size next f g (suc n) t h =
    rw (h (suc n) (omega arith) (omega arith)) (linked-cong first size next f g n (link_at first size next (g (suc n)) (suc n) t) (λ j a b. h j a (omega arith)))
