-- The rules that the steps of an instant leave are those of the last external parts: place by place, a later step's part stands over an earlier one's,
-- and a step without one changes nothing. Assumes nothing.
use mathlib.Core.Path.{◌≡◌, refl, sym, subst}
use Prim.Native.Nat.{ℕ, zero, suc}
use mathlib.Core.List.{List, [], ◌∷◌, ◌++◌}
use mathlib.Core.Option.{Option, none, some}
use lib.ListN.{get_or, get_or-map}
use Rattle.definition.specs.Limits.{no_position}
use Rattle.definition.specs.Sound.{Every}
use Rattle.definition.specs.Atomic.{told_as}
use Rattle.definition.specs.Step.{Output}
use Rattle.definition.specs.Instant.{last_part, last_parts, instant_parts, instant_rules}
use Rattle.definition.specs.DecidedRules.{NoPart, LastPart, last, no_part}

-- place by place; past its end a list has no part
parts_at : (ps qs : List (Option ℕ)) (i : ℕ) → get_or (last_parts ps qs) i none ≡ last_part (get_or ps i none) (get_or qs i none)
unfolding last_parts last_part
parts_at [] qs i = go (get_or qs i none)
  where
    go : (q : Option ℕ) → q ≡ last_part none q
    go none = refl
    go (some j) = refl
parts_at (p ∷ ps) [] i = refl
parts_at (p ∷ ps) (q ∷ qs) zero = refl
parts_at (p ∷ ps) (q ∷ qs) (suc i) = parts_at ps qs i

-- the last part in the steps, or none
data Found (i : ℕ) : List Output → Option ℕ → Type 0 where
  found : (before after : List Output) (y : Output) (n : ℕ) → get_or y.decided i none ≡ some n → Every (NoPart i) after → Found i (before ++ (y ∷ after)) (some n)
  missed : (xs : List Output) → Every (NoPart i) xs → Found i xs none

-- one more step before them
found_before : (i : ℕ) (x : Output) (p : Option ℕ) → get_or x.decided i none ≡ p → (xs : List Output) (o : Option ℕ) → Found i xs o → Found i (x ∷ xs) (last_part p o)
unfolding last_part
found_before i x p e xs o (found before after y n d h) = found (x ∷ before) after y n d h
found_before i x none e xs o (missed ys h) = missed (x ∷ xs) (e, h)
found_before i x (some n) e xs o (missed ys h) = found [] xs x n e h

parts-found : (i : ℕ) (xs : List Output) → Found i xs (get_or (instant_parts xs) i none)
unfolding instant_parts
parts-found i [] = missed [] tt
parts-found i (x ∷ xs) = subst (Found i (x ∷ xs)) (sym (parts_at x.decided (instant_parts xs) i)) (found_before i x _ refl xs _ (parts-found i xs))

last-told : (i : ℕ) (xs : List Output) (o : Option ℕ) → Found i xs o → LastPart i xs (told_as o)
unfolding told_as
last-told i xs o (found before after y n d h) = last before after y n d h
last-told i xs o (missed ys h) = no_part xs h

pub last_of : (xs : List Output) (i : ℕ) → LastPart i xs (get_or (instant_rules xs) i no_position)
unfolding instant_rules told_as
last_of xs i = subst (LastPart i xs) (sym (get_or-map told_as (instant_parts xs) i none)) (last-told i xs _ (parts-found i xs))
