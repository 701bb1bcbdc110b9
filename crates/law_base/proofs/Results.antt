-- Checks in a row that end well have all been passed. Assumes nothing.
use mathlib.Core.Path.{◌≡◌, refl, ap}
use Prim.Native.Nat.{ℕ}
use mathlib.Core.Bool.{Bool, true, false}
use native.Mathlib.Omega.{arith}
use Rattle.definition.specs.Bytes.{Result, ok, refused, ◌>>=◌, refuse_if}

pub ok_same : {A : Type 0} (a b : A) → ok a ≡ ok b → a ≡ b
ok_same a b e = cc

pub never-ok : {A : Type 0} (n : ℕ) (a : A) → refused n ≡ ok a → ⊥
never-ok n a e = let z : ◌≡◌ {A = ℕ} 0 1 = cc in omega arith

-- What is never ok, and refused by one number alone, is refused by it.
pub only-refused : {A : Type 0} (n : ℕ) (r : Result A) → ((a : A) → r ≡ ok a → ⊥) → ((j : ℕ) → r ≡ refused j → j ≡ n) → r ≡ refused n
only-refused n (ok a) h k = absurd (h a refl)
only-refused n (refused j) h k = ap refused (k j refl)

pub bind_ok : {A B : Type 0} (r : Result A) (f : A → Result B) (b : B) → (r >>= f) ≡ ok b → (a : A) × (r ≡ ok a) × (f a ≡ ok b)
bind_ok (ok a) f b e = (a, refl, e)
bind_ok (refused n) f b e = absurd (never-ok n b e)

pub refuse-ok : {B : Type 0} (t : Bool) (n : ℕ) (f : Unit {0} → Result B) (b : B) → (refuse_if t n >>= f) ≡ ok b → (t ≡ false) × (f tt ≡ ok b)
refuse-ok true n f b e = absurd (never-ok n b e)
refuse-ok false n f b e = (refl, e)
