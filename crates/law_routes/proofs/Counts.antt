-- The ends of ways, counted by component number and by coupling. Assumes nothing.
use mathlib.Core.Path.{◌≡◌, refl, ap₂, ◌∙◌}
use Prim.Native.Nat.{ℕ, zero, suc, ◌+◌, ◌≤◌, ◌<◌}
use mathlib.Core.List.{List, [], ◌∷◌}
use mathlib.Core.Bool.{Bool, true, false, ◌&&◌, cond}
use native.Mathlib.Omega.{arith}
use native.Mathlib.Nat.{add-zero, zero-add}
use lib.Dec.{eqb, ltb}
use borrow.Author.Tests.{eqb-true, eqb-false, ne_eqb, ltb-true, ltb-false}
use Rattle.definition.specs.Lists.{keep, up_from}
use Rattle.definition.specs.Model.{Coupling}
use Rattle.definition.specs.Routes.{ports_to}
use Rattle.law_base.proofs.Sums.{sum_of, sum-add, sum-zero, sum-cong, sum-keep, sum-cons, if-both}

-- ---- sums over kept numbers

module _ (f : ℕ → ℕ) (t : ℕ) where
  one : ℕ → ℕ
  one d = cond (eqb t d) (f d) 0

  up-out : (k n : ℕ) → (t < k → ⊥) → k + n ≤ t → sum_of one (up_from k n) ≡ 0
  unfolding sum_of up_from one
  up-out k zero h l = refl
  up-out k (suc n) h l = rw (ne_eqb t k (omega arith), up-out (suc k) n (omega arith) (omega arith))

  up-below : (k n : ℕ) → t < k → sum_of one (up_from k n) ≡ 0
  unfolding sum_of up_from one
  up-below k zero h = refl
  up-below k (suc n) h = rw (ne_eqb t k (omega arith), up-below (suc k) n (omega arith))

  up_one : (k n : ℕ) → k ≤ t → t < k + n → sum_of one (up_from k n) ≡ f t
  unfolding sum_of up_from one
  up_one k zero h l = absurd (omega arith)
  up_one k (suc n) h l = go (eqb t k) refl (λ i. up_one (suc k) n i (omega arith))
    where
      go : (b : Bool) → eqb t k ≡ b → (suc k ≤ t → sum_of one (up_from (suc k) n) ≡ f t) → cond (eqb t k) (f k) 0 + sum_of one (up_from (suc k) n) ≡ f t
      go true e ih = let g = eqb-true t k e in rw (e, up-below (suc k) n (omega arith), g, add-zero)
      go false e ih = let g = eqb-false t k e in rw (e, ih (omega arith), zero-add)

  pub sum-pick : (n : ℕ) → sum_of (λ d. cond (eqb t d) (f d) 0) (up_from 0 n) ≡ cond (ltb t n) (f t) 0
  unfolding one
  sum-pick n = go (ltb t n) refl
    where
      go : (b : Bool) → ltb t n ≡ b → sum_of one (up_from 0 n) ≡ cond (ltb t n) (f t) 0
      go true e = rw e (up_one 0 n (omega arith) (omega (arith, ltb-true t n e)))
      go false e = rw e (up-out 0 n (omega arith) (omega (arith, ltb-false t n e)))

-- ---- a sum over kept components and the ports that couplings reach there, as a sum over the couplings

cond-four : (a b c d : Bool) (n : ℕ) → cond d (cond (a && b && c) n 0) 0 ≡ cond b (cond (a && c && d) n 0) 0
cond-four true true true true n = refl
cond-four true true true false n = refl
cond-four true true false true n = refl
cond-four true true false false n = refl
cond-four true false c true n = refl
cond-four true false c false n = refl
cond-four false true c true n = refl
cond-four false true c false n = refl
cond-four false false c true n = refl
cond-four false false c false n = refl

-- coupling k begins at port q of c and ends at a kept component
abbrev pub leads : (ℕ → Bool) → ℕ → ℕ → ℕ → Coupling → Bool
leads p n c q k = eqb k.source c && eqb k.source_port q && p k.target && ltb k.target n

pub by-coupling : (g : ℕ → ℕ → ℕ) (p : ℕ → Bool) (n c q : ℕ) (ks : List Coupling)
    → sum_of (λ d. sum_of (g d) (ports_to ks c d q)) (keep p (up_from 0 n)) ≡ sum_of (λ k. cond (leads p n c q k) (g k.target k.target_port) 0) ks
unfolding sum_of ports_to
by-coupling g p n c q [] = sum-zero (keep p (up_from 0 n))
by-coupling g p n c q (k ∷ ks) =
    sum-cong _ _ (keep p (up_from 0 n)) (λ d. sum-cons (g d) (eqb k.source c && eqb k.target d && eqb k.source_port q) k.target_port (ports_to ks c d q))
    ∙ sum-add _ _ (keep p (up_from 0 n))
    ∙ ap₂ ◌+◌ first (by-coupling g p n c q ks)
  where
    first : sum_of (λ d. cond (eqb k.source c && eqb k.target d && eqb k.source_port q) (g d k.target_port) 0) (keep p (up_from 0 n))
        ≡ cond (leads p n c q k) (g k.target k.target_port) 0
    first =
        sum-keep _ p (up_from 0 n)
        ∙ sum-cong _ _ (up_from 0 n) (λ d. cond-four (eqb k.source c) (eqb k.target d) (eqb k.source_port q) (p d) (g d k.target_port))
        ∙ sum-pick (λ d. cond (eqb k.source c && eqb k.source_port q && p d) (g d k.target_port) 0) k.target n
        ∙ if-both (eqb k.source c && eqb k.source_port q && p k.target) (ltb k.target n) (g k.target k.target_port)
