-- The place of a number in a list without repeats: flattening gives an atomic its place as its new number. Assumes nothing.
use mathlib.Core.Path.{◌≡◌, refl, sym, ap, ap₂, ◌∙◌}
use Prim.Native.Nat.{ℕ, zero, suc, ◌+◌, ◌-◌, ◌≤◌, ◌<◌}
use mathlib.Core.List.{List, [], ◌∷◌, map, map-map}
use mathlib.Core.Bool.{Bool, true, false, cond}
use native.Mathlib.Omega.{arith}
use lib.Dec.{eqb}
use lib.ListN.{length, take, get_or}
use borrow.Author.Tests.{eqb-true, eqb-false, eq-eqb, ne_eqb}
use Rattle.definition.specs.Lists.{keep, up_from, count}
use Rattle.definition.specs.Flatten.{place_in}
use Rattle.law_base.proofs.Tests.{clash, eqb-cong}
use Rattle.law_base.proofs.Sums.{sum_of}
use Rattle.law_nest.proofs.Occurs.{occurs, Distinct, map-avoid}

pub place-below : (c : ℕ) (l : List ℕ) → 0 < occurs c l → place_in c l < length l
unfolding place_in count
place-below c [] h = absurd (omega arith)
place-below c (a ∷ l) h = go (eqb a c) refl (place-below c l)
  where
    go : (t : Bool) → eqb a c ≡ t → (0 < occurs c l → place_in c l < length l) → cond (eqb a c) 0 (suc (place_in c l)) < suc (length l)
    go true e ih = rw e (omega arith)
    go false e ih =
        let f : eqb c a ≡ false = ne_eqb c a (λ d. eqb-false a c e (sym d)) in
        let g = rw f at h in
        let i = ih (omega arith) in
        rw e (omega arith)

pub place_at : (c : ℕ) (l : List ℕ) (d : ℕ) → 0 < occurs c l → get_or l (place_in c l) d ≡ c
unfolding place_in count
place_at c [] d h = absurd (omega arith)
place_at c (a ∷ l) d h = go (eqb a c) refl (place_at c l d)
  where
    go : (t : Bool) → eqb a c ≡ t → (0 < occurs c l → get_or l (place_in c l) d ≡ c) → get_or (a ∷ l) (cond (eqb a c) 0 (suc (place_in c l))) d ≡ c
    go true e ih = rw e (eqb-true a c e)
    go false e ih =
        let f : eqb c a ≡ false = ne_eqb c a (λ d. eqb-false a c e (sym d)) in
        let g = rw f at h in
        rw e (ih (omega arith))

found : (a : ℕ) (l : List ℕ) → place_in a l < length l → get_or l (place_in a l) 0 ≡ a
unfolding place_in
found a [] h = absurd (omega arith)
found a (c ∷ l) h = go (eqb c a) refl (found a l)
  where
    go : (t : Bool) → eqb c a ≡ t → (place_in a l < length l → get_or l (place_in a l) 0 ≡ a) → get_or (c ∷ l) (cond (eqb c a) 0 (suc (place_in a l))) 0 ≡ a
    go true e ih = rw e (eqb-true c a e)
    go false e ih = let g = rw e at h in rw e (ih (omega arith))

-- a number that stands in the list has a place of its own
pub place-eqb : (a b : ℕ) (l : List ℕ) → 0 < occurs b l → eqb (place_in a l) (place_in b l) ≡ eqb a b
place-eqb a b l h = eqb-cong (place_in a l) (place_in b l) a b here (ap (λ c. place_in c l))
  where
    here : place_in a l ≡ place_in b l → a ≡ b
    here e = let k = place-below b l h in sym (found a l (omega arith)) ∙ ap (λ i. get_or l i 0) e ∙ place_at b l 0 h

pub up_suc : (k n : ℕ) → map suc (up_from k n) ≡ up_from (suc k) n
unfolding up_from
up_suc k zero = refl
up_suc k (suc n) = rw (up_suc (suc k) n)

-- the places of a list's own elements
pub places : (l : List ℕ) → Distinct l → map (λ c. place_in c l) l ≡ up_from 0 (length l)
unfolding place_in up_from
places [] d = refl
places (a ∷ l) d =
    ap₂ ◌∷◌ (rw (eq-eqb a a refl))
    (map-avoid a (λ c. cond (eqb a c) 0 (suc (place_in c l))) (λ c. suc (place_in c l)) l d.0 (λ c e. rw e)
    ∙ sym (map-map suc (λ c. place_in c l) l) ∙ ap (map suc) (places l d.1) ∙ up_suc 0 (length l))

-- a number's place among the numbers from 0 is itself, also of the first that is not there
pub place_up : (c k n : ℕ) → k ≤ c → c ≤ k + n → k + place_in c (up_from k n) ≡ c
unfolding place_in up_from
place_up c k zero h l = omega arith
place_up c k (suc n) h l = go (eqb k c) refl (λ i. place_up c (suc k) n i (omega arith))
  where
    go : (t : Bool) → eqb k c ≡ t → (suc k ≤ c → suc k + place_in c (up_from (suc k) n) ≡ c) → k + cond (eqb k c) 0 (suc (place_in c (up_from (suc k) n))) ≡ c
    go true e ih = let d = eqb-true k c e in rw e (omega arith)
    go false e ih = let d = eqb-false k c e in let i = ih (omega arith) in rw e (omega arith)

pub place-most : (c : ℕ) (l : List ℕ) → place_in c l ≤ length l
unfolding place_in
place-most c [] = omega arith
place-most c (a ∷ l) = go (eqb a c) (place-most c l)
  where
    go : (t : Bool) → place_in c l ≤ length l → cond t 0 (suc (place_in c l)) ≤ suc (length l)
    go true h = omega arith
    go false h = omega arith

-- the sum up to a place, where what is not kept adds nothing
pub sum-to-place : (h : ℕ → ℕ) (p : ℕ → Bool) → ((d : ℕ) → p d ≡ false → h d ≡ 0) → (c k n : ℕ) → k ≤ c → c < k + n → p c ≡ true
    → sum_of h (take (place_in c (keep p (up_from k n))) (keep p (up_from k n))) ≡ sum_of h (up_from k (c - k))
unfolding place_in keep up_from sum_of
sum-to-place h p z c k zero a b e = absurd (omega arith)
sum-to-place h p z c k (suc n) a b e = go (p k) refl (eqb k c) refl (λ i. sum-to-place h p z c (suc k) n i (omega arith) e)
  where
    rest : List ℕ
    rest = keep p (up_from (suc k) n)

    next : (k ≡ c → ⊥) → up_from k (c - k) ≡ k ∷ up_from (suc k) (c - suc k)
    next ne = ap (up_from k) (let q : c - k ≡ suc (c - suc k) = omega arith in q)

    go : (t : Bool) → p k ≡ t → (u : Bool) → eqb k c ≡ u
        → (suc k ≤ c → sum_of h (take (place_in c rest) rest) ≡ sum_of h (up_from (suc k) (c - suc k)))
        → sum_of h (take (place_in c (cond (p k) (k ∷ rest) rest)) (cond (p k) (k ∷ rest) rest)) ≡ sum_of h (up_from k (c - k))
    go true f true g ih = let d = eqb-true k c g in let q : c - k ≡ 0 = omega arith in simp (f, g, q)
    go true f false g ih = let d = eqb-false k c g in simp (f, g, next d, ih (omega arith))
    go false f true g ih = absurd (clash e (ap p (sym (eqb-true k c g)) ∙ f))
    go false f false g ih = let d = eqb-false k c g in rw (f, next d) (let i = ih (omega arith) in let j = z k f in omega arith)

-- the first elements of a list by their places
pub take-up : {A B : Type 0} (f : A → B) (l : List A) (d : A) (n : ℕ) → n ≤ length l → map f (take n l) ≡ map (λ i. f (get_or l i d)) (up_from 0 n)
unfolding up_from
take-up f l d zero h = refl
take-up f [] d (suc n) h = absurd (omega arith)
take-up f (a ∷ l) d (suc n) h =
    ap (λ k. f a ∷ k) (take-up f l d n (omega arith) ∙ sym (map-map (λ i. f (get_or (a ∷ l) i d)) suc (up_from 0 n)) ∙ ap (map (λ i. f (get_or (a ∷ l) i d))) (up_suc 0 n))
