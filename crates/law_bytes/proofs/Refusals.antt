-- Refusals as code meets them: a value or a number, one after the other. Assumes nothing.
use mathlib.Core.Path.{◌≡◌, refl, sym, ap}
use mathlib.Core.Bool.{Bool, true, false, not}
use Prim.Native.Nat.{ℕ}
use native.Mathlib.Omega.{arith}
use Rattle.definition.specs.Bytes.{Result, ok, refused, ◌>>=◌, refuse_if, number_of}

module _ {A : Type 0} where
  -- A record that is read has passed its test; one that is refused has not.
  pub passed : (b : Bool) (n : ℕ) (k : A) {a : A} → ok a ≡ (refuse_if (not b) n >>= λ _. ok k) → b ≡ true
  passed true n k e = refl
  passed false n k e = cc

  pub failed : (b : Bool) (n : ℕ) (k : A) {m : ℕ} → refused m ≡ (refuse_if (not b) n >>= λ _. ok k) → (b ≡ false) × (m ≡ n)
  failed true n k e = let z : ◌≡◌ {A = ℕ} 0 1 = cc in absurd (omega arith)
  failed false n k e = (refl, cc)

  -- What follows a value, and what follows a refusal.
  pub then_ok : {B : Type 0} {r q : Result A} {a : A} (f : A → Result B) → r ≡ q → r ≡ ok a → (q >>= f) ≡ f a
  then_ok f e h = rw (← e, h)

  pub then-refused : {B : Type 0} {r q : Result A} {n : ℕ} (f : A → Result B) → r ≡ q → r ≡ refused n → (q >>= f) ≡ refused n
  then-refused f e h = rw (← e, h)

  -- A number other than 0 is that of a refusal.
  pub number-refused : (r : Result A) {n : ℕ} → n ≡ number_of r → (n ≡ 0 → ⊥) → r ≡ refused n
  number-refused (ok a) e z = absurd (z e)
  number-refused (refused m) e z = ap refused (sym e)
