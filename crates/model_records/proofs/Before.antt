-- The phase records before those of a component: none before the first, and those of one component more; past the last component
-- nothing is added. Assumes nothing.
use mathlib.Core.Path.{◌≡◌, refl}
use mathlib.Core.List.{List, [], ◌∷◌}
use Prim.Native.Nat.{ℕ, zero, suc, ◌+◌, ◌≤◌}
use native.Mathlib.Omega.{arith}
use native.Mathlib.Numerals.{add-one}
use lib.ListN.{length}
use lib.Seq.{take-length}
use Rattle.definition.specs.Lists.{sum}
use Rattle.definition.specs.Model.{Component, component_at, no_component, phases_before}
use Rattle.definition.specs.File.{phase_total}

pub before-none : (cs : List Component) → phases_before cs 0 ≡ 0
unfolding phases_before sum
before-none cs = refl

before-suc : (cs : List Component) (i : ℕ) → phases_before cs (suc i) ≡ phases_before cs i + (component_at cs i).phases
unfolding phases_before component_at sum no_component
before-suc [] zero = refl
before-suc [] (suc i) = refl
before-suc (k ∷ cs) zero = omega arith
before-suc (k ∷ cs) (suc i) = omega (arith, before-suc cs i)

pub before_more : (cs : List Component) (i : ℕ) → phases_before cs (i + 1) ≡ phases_before cs i + (component_at cs i).phases
before_more cs i = rw (add-one i) (before-suc cs i)

-- All of them are the total of the phase counts.
pub before-all : (cs : List Component) → phases_before cs (length cs) ≡ phase_total cs
unfolding phases_before phase_total
before-all cs = rw (take-length cs)

pub before-total : (cs : List Component) (i : ℕ) → phases_before cs i ≤ phase_total cs
unfolding phases_before phase_total sum
before-total [] zero = omega arith
before-total [] (suc i) = omega arith
before-total (k ∷ cs) zero = omega arith
before-total (k ∷ cs) (suc i) = omega (arith, before-total cs i)
