-- Checks in a row that all refuse by one number answer no other. Assumes nothing.
use mathlib.Core.Path.{◌≡◌, refl, subst}
use Prim.Native.Nat.{ℕ}
use mathlib.Core.Bool.{Bool, true, false}
use Rattle.definition.specs.Bytes.{Result, ok, refused, ◌>>=◌, refuse_if}

abbrev pub Only : {A : Type 0} → ℕ → Result A → Type 0
Only n (ok a) = Unit {0}
Only n (refused j) = j ≡ n

pub only_if : {A : Type 0} (t : Bool) (n : ℕ) (f : Unit {0} → Result A) → Only n (f tt) → Only n (refuse_if t n >>= f)
only_if true n f h = refl
only_if false n f h = h

pub only-bind : {A B : Type 0} (n : ℕ) (r : Result A) (f : A → Result B) → Only n r → ((a : A) → Only n (f a)) → Only n (r >>= f)
only-bind n (ok a) f h k = k a
only-bind n (refused j) f h k = h

pub only-number : {A : Type 0} (n j : ℕ) (r : Result A) → Only n r → r ≡ refused j → j ≡ n
only-number n j r h e = subst (Only n) e h
