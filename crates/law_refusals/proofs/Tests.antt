-- Tests that pass exactly where a clause holds: of numbers, joined by "and" and "or", on each element of a list and on neighbours. The
-- decoder's tests are put together of these, and so are the clauses of a sound model. Assumes nothing.
use mathlib.Core.Path.{◌≡◌, refl, sym, ap, ◌∙◌}
use mathlib.Core.Logic.{◌⊎◌, inl, inr, ⊎_elim}
use Prim.Native.Nat.{ℕ, zero, suc, ◌+◌, ◌≤◌, ◌<◌}
use mathlib.Core.List.{List, [], ◌∷◌}
use mathlib.Core.Bool.{Bool, true, false, ◌&&◌, ◌||◌, not}
use native.Mathlib.Omega.{arith}
use lib.Dec.{leb, ltb, eqb}
use lib.ListN.{length, get_or}
use borrow.Author.Tests.{ltb-true, lt-ltb, leb-true, le-leb, eqb-true, eqb-false, eq-eqb, not-true}
use Rattle.definition.specs.Lists.{all, up_from, lex_le, rises}
use Rattle.definition.specs.Sound.{Every, NotAbove}
use Rattle.law_base.proofs.Tests.{clash, and_left, and_right, and-true, or_left, or_right}

-- The test b passes where P holds, and only there.
pub record Decides (b : Bool) (P : Type 0) : Type 0 where
  pub holds : b ≡ true → P
  pub passes : P → b ≡ true

pub fails : {b : Bool} {P : Type 0} → Decides b P → (P → ⊥) → b ≡ false
fails {b} d h = go b refl
  where
    go : (t : Bool) → b ≡ t → b ≡ false
    go true e = absurd (h (d.holds e))
    go false e = e

pub fails-not : {b : Bool} {P : Type 0} → Decides b P → b ≡ false → P → ⊥
fails-not d e p = clash (d.passes p) e

-- two tests of the same
pub same_test : {a b : Bool} {P : Type 0} → Decides a P → Decides b P → a ≡ b
same_test {a} {b} d f = go a refl
  where
    go : (t : Bool) → a ≡ t → a ≡ b
    go true e = e ∙ sym (f.passes (d.holds e))
    go false e = e ∙ sym (fails f (fails-not d e))

-- ---- single tests

pub less : (a b : ℕ) → Decides (ltb a b) (a < b)
less a b = record { holds = ltb-true a b; passes = lt-ltb a b }

pub most : (a b : ℕ) → Decides (leb a b) (a ≤ b)
most a b = record { holds = leb-true a b; passes = le-leb a b }

pub equal : (a b : ℕ) → Decides (eqb a b) (a ≡ b)
equal a b = record { holds = eqb-true a b; passes = eq-eqb a b }

-- ---- tests put together

module _ {a : Bool} {P Q : Type 0} where
  -- the same in other words
  pub reworded : Decides a P → (P → Q) → (Q → P) → Decides a Q
  reworded d f g = record { holds = λ e. f (d.holds e); passes = λ q. d.passes (g q) }

pub negated : {a : Bool} {P : Type 0} → Decides a P → Decides (not a) (P → ⊥)
negated {a} d = record { holds = λ e. fails-not d (not-true a e); passes = λ h. rw (fails d h) }

module _ {a b : Bool} {P Q : Type 0} where
  -- where the second test matters only after the first
  pub both-then : Decides a P → (P → Decides b Q) → Decides (a && b) (P × Q)
  both-then d f = record {
    holds = λ e. let p = d.holds (and_left a b e) in (p, (f p).holds (and_right a b e));
    passes = λ h. and-true a b (d.passes h.0) ((f h.0).passes h.1);
  }

  pub both : Decides a P → Decides b Q → Decides (a && b) (P × Q)
  both d f = both-then d (λ p. f)

  pub either : Decides a P → Decides b Q → Decides (a || b) (P ⊎ Q)
  either d f = record { holds = λ e. go a refl e; passes = ⊎_elim (λ p. or_left a b (d.passes p)) (λ q. or_right a b (f.passes q)) }
    where
      go : (t : Bool) → a ≡ t → t || b ≡ true → P ⊎ Q
      go true e h = inl (d.holds e)
      go false e h = inr (f.holds h)

-- ---- tests on lists

-- every element passes
pub each : {A : Type 0} (p : A → Bool) (P : A → Type 0) → ((x : A) → Decides (p x) (P x)) → (xs : List A) → Decides (all p xs) (Every P xs)
unfolding all
each p P d [] = record { holds = λ e. tt; passes = λ h. refl }
each p P d (x ∷ xs) = both (d x) (each p P d xs)

module _ {A : Type 0} (empty : A) where
  -- the element at each place passes
  pub every : (p : A → Bool) (P : A → Type 0) → ((x : A) → Decides (p x) (P x)) → (xs : List A)
      → Decides (all p xs) ((i : ℕ) → i < length xs → P (get_or xs i empty))
  unfolding all
  every p P d [] = record { holds = λ e i l. absurd (omega arith); passes = λ h. refl }
  every p P d (x ∷ xs) = reworded (both (d x) (every p P d xs)) split (λ h. (h 0 (omega arith), λ i l. h (suc i) (omega arith)))
    where
      split : P x × ((i : ℕ) → i < length xs → P (get_or xs i empty)) → (i : ℕ) → i < suc (length xs) → P (get_or (x ∷ xs) i empty)
      split h zero l = h.0
      split h (suc i) l = h.1 i (omega arith)

  -- an element that fails, where not all pass
  pub missed : (p : A → Bool) (xs : List A) → all p xs ≡ false → (i : ℕ) × (i < length xs) × (p (get_or xs i empty) ≡ false)
  unfolding all
  missed p [] e = absurd (clash refl e)
  missed p (x ∷ xs) e = go (p x) refl (missed p xs)
    where
      go : (t : Bool) → p x ≡ t → (all p xs ≡ false → (i : ℕ) × (i < length xs) × (p (get_or xs i empty) ≡ false))
          → (i : ℕ) × (i < suc (length xs)) × (p (get_or (x ∷ xs) i empty) ≡ false)
      go true f ih = let r = ih (rw f at e) in (suc r.0, omega arith, r.2)
      go false f ih = (0, omega arith, f)

  -- no element falls below the one before it
  pub rising : (le : A → A → Bool) (P : A → A → Type 0) → ((x y : A) → Decides (le x y) (P x y)) → (xs : List A)
      → Decides (rises le xs) ((i : ℕ) → suc i < length xs → P (get_or xs i empty) (get_or xs (suc i) empty))
  unfolding rises
  rising le P d [] = record { holds = λ e i l. absurd (omega arith); passes = λ h. refl }
  rising le P d (x ∷ []) = record { holds = λ e i l. absurd (omega arith); passes = λ h. refl }
  rising le P d (x ∷ y ∷ xs) = reworded (both (d x y) (rising le P d (y ∷ xs))) split (λ h. (h 0 (omega arith), λ i l. h (suc i) (omega arith)))
    where
      split : P x y × ((i : ℕ) → suc i < suc (length xs) → P (get_or (y ∷ xs) i empty) (get_or (y ∷ xs) (suc i) empty))
          → (i : ℕ) → suc i < suc (suc (length xs)) → P (get_or (x ∷ y ∷ xs) i empty) (get_or (x ∷ y ∷ xs) (suc i) empty)
      split h zero l = h.0
      split h (suc i) l = h.1 i (omega arith)

-- rows in dictionary order
pub not-above : (xs ys : List ℕ) → Decides (lex_le xs ys) (NotAbove xs ys)
unfolding lex_le
not-above [] ys = record { holds = λ e. tt; passes = λ h. refl }
not-above (x ∷ xs) [] = record { holds = λ e. clash e refl; passes = λ h. absurd h }
not-above (x ∷ xs) (y ∷ ys) = either (less x y) (both (equal x y) (not-above xs ys))

-- ---- tests on a row of numbers

pub numbers : (p : ℕ → Bool) (k n : ℕ) → Decides (all p (up_from k n)) ((i : ℕ) → k ≤ i → i < k + n → p i ≡ true)
unfolding all up_from
numbers p k zero = record { holds = λ e i l u. absurd (omega arith); passes = λ h. refl }
numbers p k (suc n) =
    reworded (both (record { holds = λ e. e; passes = λ e. e }) (numbers p (suc k) n)) split
    (λ h. (h k (omega arith) (omega arith), λ i l u. h i (omega arith) (omega arith)))
  where
    split : (p k ≡ true) × ((i : ℕ) → suc k ≤ i → i < suc k + n → p i ≡ true) → (i : ℕ) → k ≤ i → i < k + suc n → p i ≡ true
    split h i l u = go (eqb i k) refl
      where
        go : (t : Bool) → eqb i k ≡ t → p i ≡ true
        go true e = ap p (eqb-true i k e) ∙ h.0
        go false e = h.1 i (omega (arith, eqb-false i k e)) (omega arith)

-- a number that fails, where not all pass
pub failing : (p : ℕ → Bool) (k n : ℕ) → all p (up_from k n) ≡ false → (i : ℕ) × (i < k + n) × (p i ≡ false)
unfolding all up_from
failing p k zero e = absurd (clash refl e)
failing p k (suc n) e = go (p k) refl (failing p (suc k) n)
  where
    go : (t : Bool) → p k ≡ t → (all p (up_from (suc k) n) ≡ false → (i : ℕ) × (i < suc k + n) × (p i ≡ false)) → (i : ℕ) × (i < k + suc n) × (p i ≡ false)
    go true f ih = let r = ih (rw f at e) in (r.0, omega arith, r.2)
    go false f ih = (k, omega arith, f)
