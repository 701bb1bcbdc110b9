-- Four slots, the first n of them used: tests on lists as tests on each slot. Assumes nothing.
use mathlib.Core.Path.{◌≡◌, refl, sym}
use mathlib.Core.List.{[], ◌∷◌}
use mathlib.Core.Bool.{Bool, ◌&&◌, ◌||◌, and_assoc, and-true}
use Prim.Native.Nat.{ℕ, zero, suc}
use native.Mathlib.Omega.{arith}
use lib.Dec.{leb, ltb}
use lib.ListN.{take, drop}
use borrow.Author.Tests.{lt-leb, lt-ltb}
use Rattle.definition.specs.Lists.{all, rises}

module _ {A : Type 0} (a b c d : A) where
  pub all_take : (p : A → Bool) (n : ℕ)
      → all p (take n (a ∷ b ∷ c ∷ d ∷ [])) ≡ ((leb n 0 || p a) && (leb n 1 || p b) && (leb n 2 || p c) && (leb n 3 || p d))
  unfolding all
  all_take p zero = refl
  all_take p (suc zero) = simp and-true
  all_take p (suc (suc zero)) = simp and-true
  all_take p (suc (suc (suc zero))) = simp and-true (sym (and_assoc (p a) (p b) (p c)))
  all_take p (suc (suc (suc (suc zero)))) = simp (and_assoc, and-true)
  all_take p (suc (suc (suc (suc (suc n))))) =
      let m = suc (suc (suc (suc (suc n)))) in
      rw (lt-leb m 0 (omega arith), lt-leb m 1 (omega arith), lt-leb m 2 (omega arith), lt-leb m 3 (omega arith)) (simp (and_assoc, and-true))

  pub all_drop : (p : A → Bool) (n : ℕ)
      → all p (drop n (a ∷ b ∷ c ∷ d ∷ [])) ≡ ((ltb 0 n || p a) && (ltb 1 n || p b) && (ltb 2 n || p c) && (ltb 3 n || p d))
  unfolding all
  all_drop p zero = simp (and_assoc, and-true)
  all_drop p (suc zero) = simp (and_assoc, and-true)
  all_drop p (suc (suc zero)) = simp (and_assoc, and-true)
  all_drop p (suc (suc (suc zero))) = simp (and_assoc, and-true)
  all_drop p (suc (suc (suc (suc zero)))) = refl
  all_drop p (suc (suc (suc (suc (suc n))))) =
      let m = suc (suc (suc (suc (suc n)))) in
      rw (lt-ltb 0 m (omega arith), lt-ltb 1 m (omega arith), lt-ltb 2 m (omega arith), lt-ltb 3 m (omega arith))

  pub rises-take : (le : A → A → Bool) (n : ℕ)
      → rises le (take n (a ∷ b ∷ c ∷ d ∷ [])) ≡ ((leb n 1 || le a b) && (leb n 2 || le b c) && (leb n 3 || le c d))
  unfolding rises
  rises-take le zero = refl
  rises-take le (suc zero) = refl
  rises-take le (suc (suc zero)) = simp and-true
  rises-take le (suc (suc (suc zero))) = simp (and_assoc, and-true)
  rises-take le (suc (suc (suc (suc zero)))) = simp (and_assoc, and-true)
  rises-take le (suc (suc (suc (suc (suc n))))) =
      let m = suc (suc (suc (suc (suc n)))) in
      rw (lt-leb m 1 (omega arith), lt-leb m 2 (omega arith), lt-leb m 3 (omega arith)) (simp (and_assoc, and-true))
