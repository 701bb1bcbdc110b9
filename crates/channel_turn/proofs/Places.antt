-- A place inside the buffer of bags, and its bag. Assumes nothing.
use mathlib.Core.Path.{◌≡◌, refl, ap}
use mathlib.Core.Option.{Option, none, some}
use mathlib.Core.Bool.{Bool, true, false, not, cond}
use Prim.Native.Nat.{ℕ, ◌+◌, ◌-◌, ◌≤◌, ◌<◌}
use native.Mathlib.Omega.{arith}
use lib.Dec.{leb, ltb}
use lib.ListN.{length, take, drop}
use borrow.Author.Tests.{lt-ltb, le-ltb, ltb-false, leb-true, leb-false}
use Rattle.definition.specs.Bytes.{Bytes}
use Rattle.definition.specs.Channels.{bag_at}
use Rattle.call_answers.specs.Answers.{place_of}
use Rattle.call_answers.specs.declared.Place.{Place}
use Rattle.channel_turn.specs.Turns.{inside_of, bag_lent}

pub starts-past : (size : ℕ) (p : Place) → size < p.start → false ≡ inside_of size p
starts-past size p l = rw (lt-ltb size (p.start + p.size) (omega arith))

pub ends-inside : (size : ℕ) (p : Place) → p.start ≤ size → leb p.size (size - p.start) ≡ inside_of size p
ends-inside size p l = go (leb p.size (size - p.start)) refl
  where
    go : (b : Bool) → leb p.size (size - p.start) ≡ b → b ≡ inside_of size p
    go true e = rw (le-ltb size (p.start + p.size) (omega (arith, leb-true p.size (size - p.start) e)))
    go false e = rw (lt-ltb size (p.start + p.size) (omega (arith, leb-false p.size (size - p.start) e)))

not-ltb : (a b : ℕ) → not (ltb a b) ≡ true → b ≤ a
not-ltb a b e = go (ltb a b) refl e
  where
    go : (c : Bool) → ltb a b ≡ c → not c ≡ true → b ≤ a
    go true f e = absurd (no e)
      where
        no : false ≡ true → ⊥
        no h = omega (arith, ap (λ z. cond {A = ℕ} z 1 0) h)
    go false f e = ltb-false a b f

-- It ends inside.
pub within : (bags : Bytes) (p : Place) → inside_of (length bags) p ≡ true → p.start + p.size ≤ length bags
within bags p e = not-ltb (length bags) (p.start + p.size) e

-- The bag of the definition.
abbrev bag_by : Bytes → Place → Bool → Option Bytes
bag_by bags p past = cond past none (some (take p.size (drop p.start bags)))

pub inside-some : (bags : Bytes) (p : Place) → inside_of (length bags) p ≡ true → bag_at bags (place_of p) ≡ some (bag_lent bags p true)
unfolding bag_at
inside-some bags p e = rw (le-ltb (length bags) (p.start + p.size) (within bags p e))

pub past-none : (bags : Bytes) (p : Place) → inside_of (length bags) p ≡ false → bag_at bags (place_of p) ≡ none
unfolding bag_at
past-none bags p e = go (ltb (length bags) (p.start + p.size)) refl e
  where
    go : (c : Bool) → ltb (length bags) (p.start + p.size) ≡ c → not c ≡ false → bag_by bags p c ≡ none
    go true f e = refl
    go false f e = absurd (no e)
      where
        no : true ≡ false → ⊥
        no h = omega (arith, ap (λ z. cond {A = ℕ} z 1 0) h)
