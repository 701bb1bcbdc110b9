-- The counts of a channel call, as the code tests them. Assumes nothing.
use mathlib.Core.Path.{◌≡◌, refl}
use mathlib.Core.Bool.{Bool, true, false, not, ◌&&◌, ◌||◌}
use Prim.Native.Nat.{ℕ, zero, suc, ◌*◌, ◌≤◌}
use native.Mathlib.Omega.{arith}
use lib.Dec.{leb, ltb, eqb}
use borrow.Author.Tests.{lt-leb, le-leb, eqb-true, eqb-false, ltb-true, ltb-false}
use Rattle.definition.specs.Limits.{max_channels, max_steps}
use Rattle.definition.specs.Channels.{miscounted}
use Rattle.law_base.proofs.Tests.{clash}

module _ (n allowance : ℕ) where
  -- none, or over eight
  pub counts-out : eqb n 0 || ltb max_channels n ≡ true → true ≡ miscounted n allowance
  unfolding miscounted
  counts-out = go (eqb n 0) refl (ltb max_channels n) refl
    where
      over : leb n max_channels ≡ false → (b : Bool) → true ≡ not (b && leb n max_channels) || ltb allowance (max_steps * n)
      over f true = rw f
      over f false = refl

      go : (b : Bool) → eqb n 0 ≡ b → (c : Bool) → ltb max_channels n ≡ c → b || c ≡ true → true ≡ not (leb 1 n && leb n max_channels) || ltb allowance (max_steps * n)
      go true e c f h = rw (lt-leb 1 n (let z = eqb-true n 0 e in omega arith))
      go false e true f h = over (lt-leb n max_channels (ltb-true max_channels n f)) (leb 1 n)
      go false e false f h = absurd (no h)
        where
          no : false ≡ true → ⊥
          no k = clash k refl

  -- one to eight
  pub in_count : eqb n 0 || ltb max_channels n ≡ false → (1 ≤ n) × (n ≤ max_channels)
  in_count = go (eqb n 0) refl (ltb max_channels n) refl
    where
      go : (b : Bool) → eqb n 0 ≡ b → (c : Bool) → ltb max_channels n ≡ c → b || c ≡ false → (1 ≤ n) × (n ≤ max_channels)
      go true e c f h = absurd (clash refl h)
      go false e true f h = absurd (clash refl h)
      go false e false f h = let z = eqb-false n 0 e in (positive n z, ltb-false max_channels n f)
        where
          positive : (k : ℕ) → (k ≡ 0 → ⊥) → 1 ≤ k
          positive zero z = absurd (z refl)
          positive (suc k) z = omega arith

  pub counts-in : eqb n 0 || ltb max_channels n ≡ false → ltb allowance (max_steps * n) ≡ miscounted n allowance
  unfolding miscounted
  counts-in h = let l = in_count h in rw (le-leb 1 n l.0, le-leb n max_channels l.1)
