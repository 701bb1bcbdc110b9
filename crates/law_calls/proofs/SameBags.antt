-- Steps whose root bags are the same up to order are written alike, as one sorted record each; and where the same rules
-- decided in each, they did in the instant. Assumes nothing.
use mathlib.Core.Path.{◌≡◌, refl, ap, ap₂}
use Prim.Native.Nat.{ℕ, suc}
use mathlib.Core.List.{List, [], ◌∷◌, map}
use native.Mathlib.Omega.{arith}
use lib.ListN.{length}
use Rattle.definition.specs.Lists.{count, is_empty, Same}
use Rattle.definition.specs.Model.{Bag}
use Rattle.definition.specs.Atomic.{told_as}
use Rattle.definition.specs.Step.{Output}
use Rattle.definition.specs.Instant.{trace_bytes, records_from, instant_trace, last_parts, instant_parts, instant_rules}
use Rattle.law_base.proofs.Bags.{sort-same, same_length}

pub empty-same : (x y : Bag) → Same x y → is_empty x ≡ is_empty y
unfolding is_empty
empty-same [] [] s = refl
empty-same [] (b ∷ y) s = absurd (let e = same_length [] (b ∷ y) s in omega arith)
empty-same (a ∷ x) [] s = absurd (let e = same_length (a ∷ x) [] s in omega arith)
empty-same (a ∷ x) (b ∷ y) s = refl

-- two steps gave the same bag, and the same rules decided
abbrev pub SameOutput : Output → Output → Type 0
SameOutput x y = Same x.bag y.bag × (x.decided ≡ y.decided)

pub equal-output : (x y : Output) → x ≡ y → SameOutput x y
equal-output x y e = (λ p. ap (λ o. count p o.bag) e, ap (λ o. o.decided) e)

-- so did all, one by one
abbrev pub SameAll : List Output → List Output → Type 0
SameAll [] [] = Unit {0}
SameAll [] (y ∷ ys) = ⊥
SameAll (x ∷ xs) [] = ⊥
SameAll (x ∷ xs) (y ∷ ys) = SameOutput x y × SameAll xs ys

parts_same : (xs ys : List Output) → SameAll xs ys → instant_parts xs ≡ instant_parts ys
unfolding instant_parts
parts_same [] [] h = refl
parts_same [] (y ∷ ys) h = absurd h
parts_same (x ∷ xs) [] h = absurd h
parts_same (x ∷ xs) (y ∷ ys) h = ap₂ last_parts h.0.1 (parts_same xs ys h.1)

pub rules-same : (xs ys : List Output) → SameAll xs ys → instant_rules xs ≡ instant_rules ys
unfolding instant_rules
rules-same xs ys h = ap (map told_as) (parts_same xs ys h)

records-from : (now k : ℕ) (xs ys : List Output) → SameAll xs ys → records_from now k xs ≡ records_from now k ys
unfolding records_from
records-from now k [] [] h = refl
records-from now k [] (y ∷ ys) h = absurd h
records-from now k (x ∷ xs) [] h = absurd h
records-from now k (x ∷ xs) (y ∷ ys) h = rw (empty-same x.bag y.bag h.0.0, sort-same x.bag y.bag h.0.0, records-from now (suc k) xs ys h.1)

pub records-same : (now : ℕ) (xs ys : List Output) → SameAll xs ys → instant_trace now xs ≡ instant_trace now ys
unfolding instant_trace
records-same now xs ys h = ap trace_bytes (records-from now 0 xs ys h)

pub length-same : (xs ys : List Output) → SameAll xs ys → length xs ≡ length ys
length-same [] [] h = refl
length-same [] (y ∷ ys) h = absurd h
length-same (x ∷ xs) [] h = absurd h
length-same (x ∷ xs) (y ∷ ys) h = ap suc (length-same xs ys h.1)
