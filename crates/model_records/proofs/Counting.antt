-- The numbers of the components that a test keeps, one component more at a time, and how many they are. Assumes nothing.
use mathlib.Core.Path.{◌≡◌, refl, sym, ap, ◌∙◌}
use mathlib.Core.List.{List, [], ◌∷◌, ◌++◌}
use mathlib.Core.Bool.{Bool, true, false, cond}
use Prim.Native.Nat.{ℕ, zero, suc, ◌+◌, ◌≤◌}
use native.Mathlib.Omega.{arith}
use lib.ListN.{length, length-append}
use mir.Val.{bool_byte}
use Rattle.definition.specs.Lists.{keep, up_from}
use Rattle.definition.specs.Model.{Component, is_atomic, atomics}
use Rattle.law_base.proofs.Lists.{length_up, length-keep}

pub up_more : (k n : ℕ) → up_from k (n + 1) ≡ up_from k n ++ ((k + n) ∷ [])
unfolding up_from
up_more k zero = let e : k ≡ k + 0 = omega arith in rw (← e)
up_more k (suc n) =
    let e : suc k + n ≡ k + suc n = omega arith in
    let f : suc n + 1 ≡ suc (n + 1) = omega arith in
    rw f (ap (λ l. k ∷ l) (up_more (suc k) n ∙ rw e))

keep_append : (p : ℕ → Bool) (x y : List ℕ) → keep p (x ++ y) ≡ keep p x ++ keep p y
unfolding keep
keep_append p [] y = refl
keep_append p (a ∷ x) y = go (p a) (keep_append p x y)
  where
    go : (b : Bool) → keep p (x ++ y) ≡ keep p x ++ keep p y → cond b (a ∷ keep p (x ++ y)) (keep p (x ++ y)) ≡ cond b (a ∷ keep p x) (keep p x) ++ keep p y
    go true e = ap (λ l. a ∷ l) e
    go false e = e

pub keep-more : (p : ℕ → Bool) (n : ℕ) → keep p (up_from 0 (n + 1)) ≡ keep p (up_from 0 n) ++ cond (p n) (n ∷ []) []
unfolding keep
keep-more p n = let e : 0 + n ≡ n = omega arith in ap (keep p) (up_more 0 n) ∙ keep_append p (up_from 0 n) ((0 + n) ∷ []) ∙ rw e

-- How many are kept.
pub kept_more : (p : ℕ → Bool) (n : ℕ) → length (keep p (up_from 0 n)) + cond (p n) 1 0 ≡ length (keep p (up_from 0 (n + 1)))
kept_more p n = sym (ap length (keep-more p n) ∙ length-append (keep p (up_from 0 n)) (cond (p n) (n ∷ []) []) ∙ ap (λ k. length (keep p (up_from 0 n)) + k) (go (p n)))
  where
    go : (b : Bool) → length (cond b (n ∷ []) []) ≡ cond b 1 0
    go true = refl
    go false = refl

-- What a test counts.
pub counted : (b : Bool) → bool_byte b ≡ cond b 1 0
counted true = refl
counted false = refl

pub one-most : (b : Bool) → cond b 1 0 ≤ 1
one-most true = omega arith
one-most false = omega arith

-- There are no more atomics than components.
pub atomics-most : (cs : List Component) → length (atomics cs) ≤ length cs
unfolding atomics
atomics-most cs = omega (arith, length-keep (is_atomic cs) (up_from 0 (length cs)), length_up 0 (length cs))
