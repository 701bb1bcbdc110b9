-- The external part of an atomic's transition is by the first rule in file order whose conditions all hold: the engine's tests of a rule, with its
-- count of messages, decide the conditions. Demand 2 says so of every phase, elapsed time and bag. Assumes nothing.
use mathlib.Core.Path.{◌≡◌, refl, ap, subst}
use Prim.Native.Nat.{ℕ, zero, suc, ◌+◌, ◌≤◌, ◌<◌}
use mathlib.Core.List.{List, [], ◌∷◌}
use mathlib.Core.Option.{Option, none, some}
use mathlib.Core.Bool.{Bool, true, false, cond}
use native.Mathlib.Omega.{arith}
use lib.Dec.{leb, ltb}
use lib.ListN.{length, get_or}
use borrow.Author.Tests.{leb-true, le-leb, ltb-true, ltb-false}
use Rattle.definition.specs.Lists.{count}
use Rattle.definition.specs.Limits.{never_field}
use Rattle.definition.specs.Model.{Message, Bag, Rule, RangeReading, inclusive, half_open, Model, no_rule}
use Rattle.definition.specs.Sound.{Every}
use Rattle.definition.specs.Atomic.{meets, up_to_end, within_elapsed, holds, deciding, rule_for}
use Rattle.definition.specs.Clauses.{Among, nothing, with, without, Meets, UpToEnd, WithinElapsed, Holds, Decides, first, none_holds}
use Rattle.law_refusals.proofs.Tests as Tests
use Rattle.law_refusals.proofs.Tests.{fails-not, less, most, equal, reworded, both, either}

-- ---- so many that pass

module _ {A : Type 0} (p : A → Bool) (P : A → Type 0) (d : (x : A) → Tests.Decides (p x) (P x)) where
  -- some n of the elements, each with P
  abbrev Some : ℕ → List A → Type 0
  Some n xs = (ys : List A) × Among ys xs × (length ys ≡ n) × Every P ys

  enough : (xs : List A) (n : ℕ) → n ≤ count p xs → Some n xs
  unfolding count
  enough [] n l = ([], nothing, omega arith, tt)
  enough (x ∷ xs) n l = go (p x) refl n l (enough xs)
    where
      past : (n : ℕ) → Some n xs → Some n (x ∷ xs)
      past n s = (s.0, without x s.0 xs s.1, s.2, s.3)

      go : (t : Bool) → p x ≡ t → (n : ℕ) → n ≤ cond (p x) 1 0 + count p xs → ((n : ℕ) → n ≤ count p xs → Some n xs) → Some n (x ∷ xs)
      go true e zero l ih = past 0 (ih 0 (omega arith))
      go true e (suc n) l ih =
          let k = rw e at l in
          let s = ih n (omega arith) in
          (x ∷ s.0, with x s.0 xs s.1, ap suc s.2, ((d x).holds e, s.3))
      go false e n l ih = let k = rw e at l in past n (ih n (omega arith))

  not_more : {ys xs : List A} → Among ys xs → Every P ys → length ys ≤ count p xs
  unfolding count
  not_more nothing h = omega arith
  not_more (with x ys xs a) h = rw ((d x).passes h.0) (let k = not_more a h.1 in omega arith)
  not_more (without x ys xs a) h = let k = not_more a h in omega arith

  so-many : (n : ℕ) (xs : List A) → Tests.Decides (leb n (count p xs)) (Some n xs)
  so-many n xs = record {
    holds = λ e. enough xs n (leb-true n (count p xs) e);
    passes = λ s. le-leb n (count p xs) (omega (arith, not_more s.1 s.3, s.2));
  }

-- ---- a rule

meets-test : (k : Rule) (x : Message) → Tests.Decides (meets k x) (Meets k x)
unfolding meets
meets-test k x =
    reworded (both (both (equal x.port k.port) (most k.low x.value)) (most x.value k.high))
    (λ h. (h.0.0, h.0.1, h.1)) (λ h. ((h.0, h.1), h.2))

-- the one test that looks at the reading of ranges
end_test : (r : RangeReading) (e high : ℕ) → Tests.Decides (up_to_end r e high) (UpToEnd r e high)
unfolding up_to_end
end_test inclusive e high = most e high
end_test half_open e high = less e high

pub elapsed-test : (r : RangeReading) (k : Rule) (e : ℕ) → Tests.Decides (within_elapsed r k e) (WithinElapsed r k e)
unfolding within_elapsed
elapsed-test r k e =
    reworded (both (most k.low_elapsed e) (either (end_test r e k.high_elapsed) (equal k.high_elapsed never_field)))
    (λ h. record { from = h.0; to = h.1 }) (λ h. (h.from, h.to))

rule-test : (r : RangeReading) (c p e : ℕ) (x : Bag) (k : Rule) → Tests.Decides (holds r c p e x k) (Holds r c p e x k)
unfolding holds
rule-test r c p e x k =
    reworded
    (both (both (both (equal k.component c) (equal k.phase p)) (elapsed-test r k e))
    (so-many (meets k) (Meets k) (meets-test k) k.least x))
    (λ h. record { component = h.0.0.0; phase = h.0.0.1; elapsed = h.0.1; messages = h.1 })
    (λ h. (((h.component, h.phase), h.elapsed), h.messages))

-- ---- the first rule that passes

-- The position n that is decided, of rules that stand from `at` on.
data First (test : Rule → Bool) (at : ℕ) (ks : List Rule) : Option ℕ → Type 0 where
  at_place : (n i : ℕ) → n ≡ at + i → i < length ks → test (get_or ks i no_rule) ≡ true → ((j : ℕ) → j < i → test (get_or ks j no_rule) ≡ false)
      → First test at ks (some n)
  nowhere : ((j : ℕ) → j < length ks → test (get_or ks j no_rule) ≡ false) → First test at ks none

first_found : (test : Rule → Bool) (at : ℕ) (ks : List Rule) → First test at ks (deciding test at ks)
unfolding deciding
first_found test at [] = nowhere (λ j l. absurd (omega arith))
first_found test at (k ∷ ks) = go (test k) refl (deciding test (suc at) ks) (first_found test (suc at) ks)
  where
    behind : test k ≡ false → (n : ℕ) → ((j : ℕ) → j < n → test (get_or ks j no_rule) ≡ false) → (j : ℕ) → j < suc n → test (get_or (k ∷ ks) j no_rule) ≡ false
    behind e n h zero l = e
    behind e n h (suc j) l = h j (omega arith)

    go : (t : Bool) → test k ≡ t → (o : Option ℕ) → First test (suc at) ks o → First test at (k ∷ ks) (cond (test k) (some at) o)
    go true e o f = rw e (at_place at 0 (omega arith) (omega arith) e (λ j l. absurd (omega arith)))
    go false e o (at_place n i q l h f) = rw e (at_place n (suc i) (omega arith) (omega arith) h (behind e i f))
    go false e o (nowhere f) = rw e (nowhere (behind e (length ks) f))

pub rule_decides : (m : Model) (c p e : ℕ) (x : Bag) → Decides m.ranges m.rules c p e x (rule_for m c p e x)
unfolding rule_for
rule_decides m c p e x = go (deciding (holds r c p e x) 0 m.rules) (first_found (holds r c p e x) 0 m.rules)
  where
    r : RangeReading
    r = m.ranges

    go : (o : Option ℕ) → First (holds r c p e x) 0 m.rules o → Decides r m.rules c p e x o
    go o (at_place n i q l h f) =
        subst (λ (j : ℕ). Decides r m.rules c p e x (some j)) (let t : i ≡ n = omega arith in t)
        (first i l ((rule-test r c p e x _).holds h) (λ j b. fails-not (rule-test r c p e x _) (f j b)))
    go o (nowhere f) = none_holds (λ j b. fails-not (rule-test r c p e x _) (f j b))

-- ---- one rule decides, or none

decides-one : (r : RangeReading) (ks : List Rule) (c p e : ℕ) (x : Bag) (o q : Option ℕ) → Decides r ks c p e x o → Decides r ks c p e x q → o ≡ q
decides-one r ks c p e x o q (first i l h b) (first j k g d) = go (ltb i j) refl
  where
    go : (t : Bool) → ltb i j ≡ t → some i ≡ some j
    go true s = absurd (d i (ltb-true i j s) h)
    go false s = behind (ltb j i) refl
      where
        behind : (t : Bool) → ltb j i ≡ t → some i ≡ some j
        behind true u = absurd (b j (ltb-true j i u) g)
        behind false u = ap some (omega (arith, ltb-false i j s, ltb-false j i u))
decides-one r ks c p e x o q (first i l h b) (none_holds n) = absurd (n i l h)
decides-one r ks c p e x o q (none_holds n) (first j k g d) = absurd (n j k g)
decides-one r ks c p e x o q (none_holds n) (none_holds k) = refl

-- so the definition's search finds what decides
pub decided-rule : (m : Model) (c p e : ℕ) (x : Bag) (o : Option ℕ) → Decides m.ranges m.rules c p e x o → rule_for m c p e x ≡ o
decided-rule m c p e x o d = decides-one m.ranges m.rules c p e x _ o (rule_decides m c p e x) d
