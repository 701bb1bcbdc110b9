-- What a test that passed or failed says of its parts, and tests that agree: what every law over Booleans uses. Assumes nothing.
use mathlib.Core.Path.{◌≡◌, refl, sym, ◌∙◌}
use Prim.Native.Nat.{ℕ}
use mathlib.Core.Bool.{Bool, true, false, ◌&&◌, ◌||◌, not, false≢true}
use lib.Dec.{eqb}
use borrow.Author.Tests.{eqb-true, eqb-false, eq-eqb, ne_eqb}

-- a test does not pass and fail
pub clash : {b : Bool} → b ≡ true → b ≡ false → ⊥
clash e f = false≢true (sym f ∙ e)

pub refuted : (b : Bool) → (b ≡ true → ⊥) → b ≡ false
refuted true h = absurd (h refl)
refuted false h = refl

-- what the opposite of a test says
pub not-passed : (b : Bool) → not b ≡ true → b ≡ false
not-passed true h = absurd (clash h refl)
not-passed false h = refl

pub not-failed : (b : Bool) → not b ≡ false → b ≡ true
not-failed true h = refl
not-failed false h = absurd (clash refl h)

pub and_left : (a b : Bool) → a && b ≡ true → a ≡ true
and_left true b h = refl
and_left false b h = h

pub and_right : (a b : Bool) → a && b ≡ true → b ≡ true
and_right true b h = h
and_right false b h = absurd (false≢true h)

pub and-true : (a b : Bool) → a ≡ true → b ≡ true → a && b ≡ true
and-true a b e f = rw (e, f)

pub or_left : (a b : Bool) → a ≡ true → a || b ≡ true
or_left a b e = rw e

pub or_right : (a b : Bool) → b ≡ true → a || b ≡ true
or_right true b e = refl
or_right false b e = e

pub or-first : (a b : Bool) → a || b ≡ true → b ≡ false → a ≡ true
or-first true b h e = refl
or-first false b h e = absurd (clash h e)

pub or-second : (a b : Bool) → a || b ≡ true → a ≡ false → b ≡ true
or-second true b h e = absurd (clash refl e)
or-second false b h e = h

pub or-none : (a b : Bool) → a || b ≡ false → (a ≡ false) × (b ≡ false)
or-none true b h = absurd (clash refl h)
or-none false b h = (refl, h)

-- two pairs of numbers that are equal or not together
pub eqb-cong : (a b c d : ℕ) → (a ≡ b → c ≡ d) → (c ≡ d → a ≡ b) → eqb a b ≡ eqb c d
eqb-cong a b c d f g = go (eqb c d) refl
  where
    go : (t : Bool) → eqb c d ≡ t → eqb a b ≡ eqb c d
    go true e = eq-eqb a b (g (eqb-true c d e)) ∙ sym e
    go false e = ne_eqb a b (λ h. eqb-false c d e (f h)) ∙ sym e

pub eqb-sym : (a b : ℕ) → eqb a b ≡ eqb b a
eqb-sym a b = eqb-cong a b b a (λ e. sym e) (λ e. sym e)
