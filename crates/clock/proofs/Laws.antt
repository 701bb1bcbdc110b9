-- When an atomic is due in 64 bits, against the definition. Assumes nothing.
use mathlib.Core.Path.{◌≡◌, refl}
use mathlib.Core.Bool.{Bool, true, false, cond}
use Prim.Native.Nat.{ℕ, ◌+◌, ◌≤◌, min}
use native.Mathlib.Omega.{arith}
use lib.Dec.{leb, eqb}
use borrow.Author.Tests.{leb-true, leb-false, le-leb, lt-leb}
use Rattle.definition.specs.Limits.{never_field}
use Rattle.definition.specs.Devs.{Time, finite, never, later}
use Rattle.definition.specs.SavedRun.{not_before}
use Rattle.clock.specs.Times.{latest}
use Rattle.clock.specs.After.{due_after}

-- The advance that a phase record holds.
abbrev pub advance_time : ℕ → Time
advance_time a = cond (eqb a never_field) never (finite a)

-- No moment of 64 bits is after the latest, so that a test against one sees no difference.
pub after-tested : (moment last advance : ℕ) → moment ≤ latest → not_before moment (due_after last advance) ≡ not_before moment (later last (advance_time advance))
unfolding not_before due_after later
after-tested moment last advance h = go (eqb advance never_field)
  where
    go : (b : Bool) → not_before moment (cond b never (finite (min (last + advance) latest))) ≡ not_before moment (later last (cond b never (finite advance)))
    go true = refl
    go false = same (leb moment (last + advance)) refl
      where
        same : (b : Bool) → leb moment (last + advance) ≡ b → leb moment (min (last + advance) latest) ≡ b
        same true e = le-leb moment (min (last + advance) latest) (omega (arith, leb-true moment (last + advance) e))
        same false e = lt-leb moment (min (last + advance) latest) (omega (arith, leb-false moment (last + advance) e))
