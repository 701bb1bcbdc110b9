-- How often a number stands in a list, and which numbers are kept of those from some number up: an atomic stands once among the atomics,
-- and a sum that picks it has one term. Assumes nothing.
use mathlib.Core.Path.{◌≡◌, refl, ap, ap₂, ◌∙◌, fun_ext}
use Prim.Native.Nat.{ℕ, zero, suc, ◌+◌, ◌≤◌, ◌<◌}
use mathlib.Core.List.{List, [], ◌∷◌, map}
use mathlib.Core.Bool.{Bool, true, false, ◌&&◌, cond, and-false}
use native.Mathlib.Omega.{arith}
use lib.Dec.{eqb, leb, ltb}
use borrow.Author.Tests.{eqb-true, eqb-false, ne_eqb, leb-true, ltb-true, le-leb, lt-ltb}
use Rattle.definition.specs.Lists.{all, keep, up_from, count}
use Rattle.law_base.proofs.Tests.{and_left, and_right, and-true}
use Rattle.law_base.proofs.Sums.{sum_of}
use Rattle.law_base.proofs.Lists.{all-and, all_keep, all-if, count-keep, count_none}

-- how often c stands in a list
abbrev pub occurs : ℕ → List ℕ → ℕ
occurs c l = count (λ s. eqb c s) l

abbrev pub Distinct : List ℕ → Type 0
Distinct [] = Unit {0}
Distinct (c ∷ l) = (occurs c l ≡ 0) × Distinct l

pub all-occurs : (p : ℕ → Bool) (a : ℕ) (l : List ℕ) → all p l ≡ true → 0 < occurs a l → p a ≡ true
unfolding all count
all-occurs p a [] h k = absurd (omega arith)
all-occurs p a (c ∷ l) h k = go (eqb a c) refl (all-occurs p a l (and_right (p c) _ h))
  where
    go : (b : Bool) → eqb a c ≡ b → (0 < occurs a l → p a ≡ true) → p a ≡ true
    go true e ih = ap p (eqb-true a c e) ∙ and_left (p c) _ h
    go false e ih = ih (let g = rw e at k in omega arith)

-- a number stands once among those from k up
none-up : (c k n : ℕ) → c < k → occurs c (up_from k n) ≡ 0
unfolding count up_from
none-up c k zero h = refl
none-up c k (suc n) h = rw (ne_eqb c k (omega arith), none-up c (suc k) n (omega arith))

pub once-up : (c k n : ℕ) → k ≤ c → c < k + n → occurs c (up_from k n) ≡ 1
unfolding count up_from
once-up c k zero h l = absurd (omega arith)
once-up c k (suc n) h l = go (eqb c k) refl (λ i. once-up c (suc k) n i (omega arith))
  where
    go : (b : Bool) → eqb c k ≡ b → (suc k ≤ c → occurs c (up_from (suc k) n) ≡ 1) → cond (eqb c k) 1 0 + occurs c (up_from (suc k) n) ≡ 1
    go true e ih = let f = eqb-true c k e in rw (e, none-up c (suc k) n (omega arith))
    go false e ih = let f = eqb-false c k e in let g = ih (omega arith) in rw e (omega arith)

-- the one place of c in a list
pub pick-none : (g : ℕ → ℕ) (c : ℕ) (l : List ℕ) → occurs c l ≡ 0 → sum_of (λ s. cond (eqb c s) (g s) 0) l ≡ 0
unfolding sum_of count
pick-none g c [] e = refl
pick-none g c (s ∷ l) e = go (eqb c s) refl (pick-none g c l)
  where
    go : (b : Bool) → eqb c s ≡ b → (occurs c l ≡ 0 → sum_of (λ s. cond (eqb c s) (g s) 0) l ≡ 0)
        → cond (eqb c s) (g s) 0 + sum_of (λ s. cond (eqb c s) (g s) 0) l ≡ 0
    go true f ih = absurd (let h = rw f at e in omega arith)
    go false f ih = let h = rw f at e in let k = ih (omega arith) in rw f (omega arith)

pub pick-one : (g : ℕ → ℕ) (c : ℕ) (l : List ℕ) → occurs c l ≡ 1 → sum_of (λ s. cond (eqb c s) (g s) 0) l ≡ g c
unfolding sum_of count
pick-one g c [] e = absurd (omega arith)
pick-one g c (s ∷ l) e = go (eqb c s) refl (pick-one g c l)
  where
    go : (b : Bool) → eqb c s ≡ b → (occurs c l ≡ 1 → sum_of (λ s. cond (eqb c s) (g s) 0) l ≡ g c)
        → cond (eqb c s) (g s) 0 + sum_of (λ s. cond (eqb c s) (g s) 0) l ≡ g c
    go true f ih = let h = rw f at e in let k = pick-none g c l (omega arith) in let p = ap g (eqb-true c s f) in rw f (omega arith)
    go false f ih = let h = rw f at e in let k = ih (omega arith) in rw f (omega arith)

-- ---- what is kept of the numbers from k up

kept_from : (p : ℕ → Bool) (k n : ℕ) → all (λ c. leb k c && ltb c (k + n)) (keep p (up_from k n)) ≡ true
unfolding all keep up_from
kept_from p k zero = refl
kept_from p k (suc n) = go (p k) (all-if (λ c. leb (suc k) c && ltb c (suc k + n)) (λ c. leb k c && ltb c (k + suc n)) (keep p (up_from (suc k) n)) wider (kept_from p (suc k) n))
  where
    wider : (c : ℕ) → leb (suc k) c && ltb c (suc k + n) ≡ true → leb k c && ltb c (k + suc n) ≡ true
    wider c h =
        let a = leb-true (suc k) c (and_left (leb (suc k) c) _ h) in
        let b = ltb-true c (suc k + n) (and_right (leb (suc k) c) _ h) in
        and-true _ _ (le-leb k c (omega arith)) (lt-ltb c (k + suc n) (omega arith))

    go : (b : Bool) → all (λ c. leb k c && ltb c (k + suc n)) (keep p (up_from (suc k) n)) ≡ true
        → all (λ c. leb k c && ltb c (k + suc n)) (cond b (k ∷ keep p (up_from (suc k) n)) (keep p (up_from (suc k) n))) ≡ true
    go true h = and-true _ _ (and-true _ _ (le-leb k k (omega arith)) (lt-ltb k (k + suc n) (omega arith))) h
    go false h = h

pub kept-distinct : (p : ℕ → Bool) (k n : ℕ) → Distinct (keep p (up_from k n))
unfolding keep up_from
kept-distinct p k zero = tt
kept-distinct p k (suc n) = go (p k) (kept-distinct p (suc k) n)
  where
    above : (c : ℕ) → leb (suc k) c && ltb c (suc k + n) ≡ true → eqb k c ≡ false
    above c h = ne_eqb k c (let a = leb-true (suc k) c (and_left (leb (suc k) c) _ h) in λ e. omega arith)

    go : (b : Bool) → Distinct (keep p (up_from (suc k) n)) → Distinct (cond b (k ∷ keep p (up_from (suc k) n)) (keep p (up_from (suc k) n)))
    go true d = (count_none (λ c. leb (suc k) c && ltb c (suc k + n)) (λ s. eqb k s) (keep p (up_from (suc k) n)) (kept_from p (suc k) n) above, d)
    go false d = d

pub kept-once : (p : ℕ → Bool) (c k n : ℕ) → k ≤ c → c < k + n → p c ≡ true → occurs c (keep p (up_from k n)) ≡ 1
kept-once p c k n a b e = count-keep p (λ s. eqb c s) (up_from k n) ∙ ap (λ (q : ℕ → Bool). count q (up_from k n)) (fun_ext same) ∙ once-up c k n a b
  where
    same : (s : ℕ) → p s && eqb c s ≡ eqb c s
    same s = go (eqb c s) refl
      where
        go : (t : Bool) → eqb c s ≡ t → p s && eqb c s ≡ eqb c s
        go true f = rw (← eqb-true c s f, e)
        go false f = rw f (and-false (p s))

-- what is kept of the numbers from k up passes the test and lies there
pub kept-tests : (p : ℕ → Bool) (k n : ℕ) → all (λ c. p c && (leb k c && ltb c (k + n))) (keep p (up_from k n)) ≡ true
kept-tests p k n = all-and p (λ c. leb k c && ltb c (k + n)) (keep p (up_from k n)) (all_keep p (up_from k n)) (kept_from p k n)

-- functions that differ at a only, over a list without a
pub map-avoid : {B : Type 0} (a : ℕ) (f g : ℕ → B) (l : List ℕ) → occurs a l ≡ 0 → ((c : ℕ) → eqb a c ≡ false → f c ≡ g c) → map f l ≡ map g l
unfolding count
map-avoid a f g [] h e = refl
map-avoid {B} a f g (c ∷ l) h e = go (eqb a c) refl (map-avoid a f g l)
  where
    go : (t : Bool) → eqb a c ≡ t → (occurs a l ≡ 0 → ((c : ℕ) → eqb a c ≡ false → f c ≡ g c) → map f l ≡ map g l) → ◌≡◌ {A = List B} (f c ∷ map f l) (g c ∷ map g l)
    go true d ih = absurd (let k = rw d at h in omega arith)
    go false d ih = let k = rw d at h in ap₂ ◌∷◌ (e c d) (ih (omega arith) e)
