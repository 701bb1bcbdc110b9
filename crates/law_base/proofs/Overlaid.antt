-- Positions of rules with those of a step put over them: one step after the other, and on no positions at all; and of how many atomics the steps
-- of an instant tell. Assumes nothing.
use mathlib.Core.Path.{◌≡◌, refl, sym, ap, ap₂, ◌∙◌}
use mathlib.Core.Logic.{◌⊎◌, inl, inr}
use Prim.Native.Nat.{ℕ, zero, suc, ◌+◌, ◌≤◌}
use mathlib.Core.List.{List, [], ◌∷◌, ◌++◌, map, append_assoc}
use mathlib.Core.Option.{Option, none, some}
use native.Mathlib.Omega.{arith}
use lib.ListN.{length, replicate, set, take, length-append, length-set}
use Rattle.definition.specs.Limits.{no_position}
use Rattle.definition.specs.Atomic.{told_as}
use Rattle.definition.specs.Step.{Output}
use Rattle.definition.specs.Instant.{last_part, last_parts, instant_parts}
use Rattle.law_base.specs.Overlaid.{later_or, overlaid, put_part, put_parts}

pub overlaid-length : (is : List ℕ) (ps : List (Option ℕ)) → length (overlaid is ps) ≡ length is
unfolding overlaid
overlaid-length [] ps = refl
overlaid-length (i ∷ is) [] = refl
overlaid-length (i ∷ is) (p ∷ ps) = ap suc (overlaid-length is ps)

pub overlaid-none : (is : List ℕ) → overlaid is [] ≡ is
unfolding overlaid
overlaid-none [] = refl
overlaid-none (i ∷ is) = refl

-- ---- one step after the other

later_last : (i : ℕ) (p q : Option ℕ) → later_or (later_or i p) q ≡ later_or i (last_part p q)
unfolding later_or last_part
later_last i p none = refl
later_last i p (some j) = refl

pub overlaid-twice : (is : List ℕ) (ps qs : List (Option ℕ)) → length ps ≡ length is → overlaid (overlaid is ps) qs ≡ overlaid is (last_parts ps qs)
unfolding overlaid last_parts
overlaid-twice [] ps qs e = refl
overlaid-twice (i ∷ is) [] qs e = absurd (omega arith)
overlaid-twice (i ∷ is) (p ∷ ps) [] e = refl
overlaid-twice (i ∷ is) (p ∷ ps) (q ∷ qs) e = ap₂ ◌∷◌ (later_last i p q) (overlaid-twice is ps qs (omega arith))

-- or the first with no step before it
pub overlaid-again : (is : List ℕ) (ps qs : List (Option ℕ)) → (length ps ≡ length is) ⊎ (ps ≡ []) → overlaid (overlaid is ps) qs ≡ overlaid is (last_parts ps qs)
overlaid-again is ps qs (inl e) = overlaid-twice is ps qs e
overlaid-again is ps qs (inr e) = rw e (ap (λ l. overlaid l qs) (overlaid-none is) ∙ ap (overlaid is) (unfold last_parts in refl))

-- on no positions at all
told-later : (p : Option ℕ) → later_or no_position p ≡ told_as p
unfolding later_or told_as
told-later none = refl
told-later (some i) = refl

pub overlaid-blank : (n : ℕ) (ps : List (Option ℕ)) → length ps ≡ n → overlaid (replicate n no_position) ps ≡ map told_as ps
unfolding overlaid
overlaid-blank zero [] e = refl
overlaid-blank zero (p ∷ ps) e = absurd (omega arith)
overlaid-blank (suc n) [] e = absurd (omega arith)
overlaid-blank (suc n) (p ∷ ps) e = ap₂ ◌∷◌ (told-later p) (overlaid-blank n ps (omega arith))

-- ---- place by place

set-behind : (bs is : List ℕ) (i j : ℕ) → set (bs ++ (i ∷ is)) (length bs) j ≡ bs ++ (j ∷ is)
set-behind [] is i j = refl
set-behind (b ∷ bs) is i j = ap (λ l. b ∷ l) (set-behind bs is i j)

put-behind : (bs is : List ℕ) (i : ℕ) (p : Option ℕ) → put_part (bs ++ (i ∷ is)) (length bs) p ≡ bs ++ (later_or i p ∷ is)
unfolding put_part later_or
put-behind bs is i none = refl
put-behind bs is i (some j) = set-behind bs is i j

puts-behind : (bs is : List ℕ) (ps : List (Option ℕ)) → length ps ≤ length is → put_parts (bs ++ is) (length bs) ps ≡ bs ++ overlaid is ps
unfolding put_parts overlaid
puts-behind bs [] [] l = refl
puts-behind bs [] (p ∷ ps) l = absurd (omega arith)
puts-behind bs (i ∷ is) [] l = refl
puts-behind bs (i ∷ is) (p ∷ ps) l =
    ap (λ z. put_parts z (length bs + 1) ps) (put-behind bs is i p ∙ sym (append_assoc bs (later_or i p ∷ []) is))
    ∙ ap (λ k. put_parts ((bs ++ (later_or i p ∷ [])) ++ is) k ps) (sym (length-append bs (later_or i p ∷ [])))
    ∙ puts-behind (bs ++ (later_or i p ∷ [])) is ps (omega arith)
    ∙ append_assoc bs (later_or i p ∷ []) (overlaid is ps)

pub put-parts : (is : List ℕ) (ps : List (Option ℕ)) → length ps ≤ length is → put_parts is 0 ps ≡ overlaid is ps
put-parts is ps l = puts-behind [] is ps l

put-length : (is : List ℕ) (i : ℕ) (p : Option ℕ) → length (put_part is i p) ≡ length is
unfolding put_part
put-length is i none = refl
put-length is i (some j) = length-set is i j

pub puts-length : (is : List ℕ) (i : ℕ) (ps : List (Option ℕ)) → length (put_parts is i ps) ≡ length is
unfolding put_parts
puts-length is i [] = refl
puts-length is i (p ∷ ps) = puts-length (put_part is i p) (i + 1) ps ∙ put-length is i p

-- the first n of them
take-overlaid : (n : ℕ) (is : List ℕ) (ps : List (Option ℕ)) → length ps ≤ n → take n (overlaid is ps) ≡ overlaid (take n is) ps
unfolding overlaid
take-overlaid zero [] ps e = refl
take-overlaid (suc n) [] ps e = refl
take-overlaid zero (i ∷ is) [] e = refl
take-overlaid zero (i ∷ is) (p ∷ ps) e = absurd (omega arith)
take-overlaid (suc n) (i ∷ is) [] e = refl
take-overlaid (suc n) (i ∷ is) (p ∷ ps) e = ap (λ l. later_or i p ∷ l) (take-overlaid n is ps (omega arith))

pub take_put : (n : ℕ) (is : List ℕ) (ps : List (Option ℕ)) → length ps ≡ n → n ≤ length is → take n (put_parts is 0 ps) ≡ overlaid (take n is) ps
take_put n is ps e l = ap (take n) (put-parts is ps (omega arith)) ∙ take-overlaid n is ps (omega arith)

-- ---- one step more

last-assoc : (p q r : Option ℕ) → last_part p (last_part q r) ≡ last_part (last_part p q) r
unfolding last_part
last-assoc p q none = refl
last-assoc p q (some i) = refl

parts-assoc : (ps qs rs : List (Option ℕ)) → last_parts ps (last_parts qs rs) ≡ last_parts (last_parts ps qs) rs
unfolding last_parts
parts-assoc [] qs rs = refl
parts-assoc (p ∷ ps) [] rs = refl
parts-assoc (p ∷ ps) (q ∷ qs) [] = refl
parts-assoc (p ∷ ps) (q ∷ qs) (r ∷ rs) = ap₂ ◌∷◌ (last-assoc p q r) (parts-assoc ps qs rs)

no-later : (ps : List (Option ℕ)) → last_parts ps [] ≡ ps
unfolding last_parts
no-later [] = refl
no-later (p ∷ ps) = refl

pub parts-snoc : (xs : List Output) (x : Output) → instant_parts (xs ++ (x ∷ [])) ≡ last_parts (instant_parts xs) x.decided
unfolding instant_parts
parts-snoc [] x = no-later x.decided ∙ (unfold last_parts in refl)
parts-snoc (y ∷ xs) x = ap (last_parts y.decided) (parts-snoc xs x) ∙ parts-assoc y.decided (instant_parts xs) x.decided

-- ---- of as many atomics as each step

pub parts-length : (n : ℕ) (ps qs : List (Option ℕ)) → length ps ≡ n → (length qs ≡ n) ⊎ (qs ≡ []) → length (last_parts ps qs) ≡ n
unfolding last_parts
parts-length n ps qs p (inr e) = rw e (none_left ps p)
  where
    none_left : (ps : List (Option ℕ)) → length ps ≡ n → length (last_parts ps []) ≡ n
    none_left [] h = h
    none_left (p ∷ ps) h = h
parts-length n ps qs p (inl e) = go n ps qs p e
  where
    go : (n : ℕ) (ps qs : List (Option ℕ)) → length ps ≡ n → length qs ≡ n → length (last_parts ps qs) ≡ n
    go n [] qs p e = e
    go n (p ∷ ps) [] h e = absurd (omega arith)
    go zero (p ∷ ps) (q ∷ qs) h e = absurd (omega arith)
    go (suc n) (p ∷ ps) (q ∷ qs) h e = ap suc (go n ps qs (omega arith) (omega arith))
