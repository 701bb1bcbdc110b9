-- The deciding rule is found among the rules from the first that names the component to the last, since a rule holds only for the component that it
-- names. So the transitions by tables are those of the model. Assumes nothing.
use mathlib.Core.Path.{◌≡◌, refl, sym, ap, ap₂, ◌∙◌}
use Prim.Native.Nat.{ℕ, zero, suc, ◌+◌, ◌-◌, ◌≤◌, ◌<◌}
use mathlib.Core.List.{List, [], ◌∷◌}
use mathlib.Core.Option.{Option, none, some}
use mathlib.Core.Bool.{Bool, true, false, cond}
use native.Mathlib.Omega.{arith}
use lib.Dec.{eqb, leb}
use lib.ListN.{length, get_or}
use borrow.Author.Tests.{leb-true, leb-false}
use Rattle.definition.specs.Limits.{never_field}
use Rattle.definition.specs.Model.{Bag, Phase, Rule, Model, no_rule, component_at, phase_at}
use Rattle.definition.specs.Devs.{finite, never, ticks}
use Rattle.definition.specs.Atomic.{holds, deciding, advance_of, next_phase, rule_for}
use Rattle.definition.specs.FlatMachine.{led_to, external_part, both_parts, rule_of_both}
use Rattle.law_base.proofs.Bags.{holds-component}
use Rattle.law_model.proofs.WellFormed.{WellFormed}
use Rattle.run_state.specs.declared.State.{State}
use Rattle.spec_step.specs.TableStep.{first_from, deciding_in, leads, phase_or, rule_in, phase_in, decided_in, confluent_in, confluent_rule}
use Rattle.spec_step.specs.Tables.{rules_from_at, rules_to_at}
use Rattle.spec_step.specs.Tabled.{Tabled}
use Rattle.law_step.proofs.Positions.{phase-is}

-- ---- the first position that passes

pub first-none : (test : ℕ → Bool) (m i : ℕ) → ((j : ℕ) → i ≤ j → j < i + m → test j ≡ false) → first_from test m i ≡ none
unfolding first_from
first-none test zero i h = refl
first-none test (suc m) i h = rw (h i (omega arith) (omega arith), first-none test m (i + 1) (λ j a b. h j (omega arith) (omega arith)))

-- positions that fail may be left out before and behind
first-skip : (test : ℕ → Bool) (k m i : ℕ) → ((j : ℕ) → i ≤ j → j < i + k → test j ≡ false) → first_from test (k + m) i ≡ first_from test m (i + k)
unfolding first_from
first-skip test zero m i h =
    let a : 0 + m ≡ m = omega arith in
    let b : i + 0 ≡ i = omega arith in
    rw (a, b)
first-skip test (suc k) m i h =
    let a : suc k + m ≡ suc (k + m) = omega arith in
    let b : i + 1 + k ≡ i + suc k = omega arith in
    ap (λ n. first_from test n i) a ∙ rw (h i (omega arith) (omega arith)) (first-skip test k m (i + 1) (λ j a b. h j (omega arith) (omega arith)) ∙ ap (first_from test m) b)

first-cut : (test : ℕ → Bool) (m k i : ℕ) → ((j : ℕ) → i + m ≤ j → j < i + m + k → test j ≡ false) → first_from test (m + k) i ≡ first_from test m i
unfolding first_from
first-cut test zero k i h = let a : 0 + k ≡ k = omega arith in rw a (first-none test k i (λ j a b. h j (omega arith) (omega arith)))
first-cut test (suc m) k i h =
    let a : suc m + k ≡ suc (m + k) = omega arith in
    ap (λ n. first_from test n i) a ∙ rw (first-cut test m k (i + 1) (λ j a b. h j (omega arith) (omega arith)))

window : (test : ℕ → Bool) (n a b : ℕ) → b ≤ n → ((j : ℕ) → j < n → test j ≡ true → (a ≤ j) × (j < b)) → first_from test n 0 ≡ first_from test (b - a) a
unfolding first_from
window test n a b l h = go (leb b a) refl
  where
    fails : (j : ℕ) → j < n → ((a ≤ j) × (j < b) → ⊥) → test j ≡ false
    fails j s f = test-case (test j) refl
      where
        test-case : (z : Bool) → test j ≡ z → test j ≡ false
        test-case true e = absurd (f (h j s e))
        test-case false e = e

    go : (z : Bool) → leb b a ≡ z → first_from test n 0 ≡ first_from test (b - a) a
    go true e =
        let s = leb-true b a e in
        let z : b - a ≡ 0 = omega arith in
        first-none test n 0 (λ j p q. fails j (omega arith) (λ r. omega (arith, r.0, r.1))) ∙ ap (λ k. first_from test k a) (sym z)
    go false e =
        let s = leb-false b a e in
        let p : n ≡ a + (b - a + (n - b)) = omega arith in
        let z : 0 + a ≡ a = omega arith in
        ap (λ k. first_from test k 0) p ∙ first-skip test a (b - a + (n - b)) 0 (λ j u v. fails j (omega arith) (λ r. omega (arith, r.0)))
        ∙ ap (first_from test (b - a + (n - b))) z ∙ first-cut test (b - a) (n - b) a (λ j u v. fails j (omega arith) (λ r. omega (arith, r.1)))

-- the definition's search, by positions
deciding-first : (test : Rule → Bool) (at : ℕ) (ks rs : List Rule) → ((j : ℕ) → get_or ks j no_rule ≡ get_or rs (at + j) no_rule)
    → deciding test at ks ≡ first_from (λ i. test (get_or rs i no_rule)) (length ks) at
unfolding deciding first_from
deciding-first test at [] rs h = refl
deciding-first test at (k ∷ ks) rs h =
    let z : at + 0 ≡ at = omega arith in
    let s : suc at ≡ at + 1 = omega arith in
    let e : k ≡ get_or rs at no_rule = h 0 ∙ ap (λ i. get_or rs i no_rule) z in
    let ih = deciding-first test (suc at) ks rs (λ j. h (suc j) ∙ (let q : at + suc j ≡ suc at + j = omega arith in ap (λ i. get_or rs i no_rule) q)) in
    ap (λ (r : Rule). cond (test r) (some at) (deciding test (suc at) ks)) e ∙ ap (cond (test (get_or rs at no_rule)) (some at)) (ih ∙ ap (first_from (λ i. test (get_or rs i no_rule)) (length ks)) s)

-- ---- transitions

phase-led : (rs : List Rule) (p : ℕ) (o : Option ℕ) → phase_or p (leads rs o) ≡ led_to rs p o
unfolding phase_or leads led_to
phase-led rs p none = refl
phase-led rs p (some k) = refl

module _ (m : Model) (w : WellFormed m) (st : State) (t : List ℕ) (h : Tabled m t) (c : ℕ) (l : c < length m.components) where
  pub rule-is : (p e : ℕ) (x : Bag) → rule_in t m.rules c p e x ≡ rule_for m c p e x
  unfolding rule_in rule_for deciding_in
  rule-is p e x =
      sym (deciding-first (holds m.ranges c p e x) 0 m.rules m.rules (λ j. (let q : j ≡ 0 + j = omega arith in ap (λ i. get_or m.rules i no_rule) q))
      ∙ window (λ i. holds m.ranges c p e x (get_or m.rules i no_rule)) (length m.rules) _ _ (h.rules_in_lem c l)
      (λ j s f. let n = holds-component m.ranges c p e x (get_or m.rules j no_rule) f in (h.rules_from c j l s n, h.rules_to c j l s n))
      ∙ ap (λ r. deciding_in r m.rules (get_or t (rules_from_at + c) 0) (get_or t (rules_to_at + c) 0) c p e x) (sym h.ranges))

  decided-is : (p e : ℕ) (x : Bag) → decided_in t m.rules c p e x ≡ external_part m c p e x
  unfolding decided_in external_part
  decided-is p e x = ap (λ o. phase_or p (leads m.rules o)) (rule-is p e x) ∙ phase-led m.rules p (rule_for m c p e x)

  pub next-is : (p : ℕ) → (phase_in m.phases t c p).next ≡ next_phase m c p
  unfolding next_phase
  next-is p = ap (λ (k : Phase). k.next) (phase-is m w st t h c p l)

  -- where the phase has an advance
  stay : (p : ℕ) → eqb (phase_at m c p).advance never_field ≡ false
      → (phase_in m.phases t c p).advance ≡ ticks (cond (eqb (phase_at m c p).advance never_field) never (finite (phase_at m c p).advance))
  unfolding ticks
  stay p e = ap (λ (k : Phase). k.advance) (phase-is m w st t h c p l) ∙ rw e

  pub confluent-is : (p : ℕ) (x : Bag) → eqb (phase_at m c p).advance never_field ≡ false → confluent_in m.phases t m.rules c p x ≡ both_parts m c p x
  unfolding confluent_in both_parts advance_of ticks
  confluent-is p x e =
      ap (λ o. cond (eqb o 0) (decided_in t m.rules c (phase_in m.phases t c p).next 0 x)
      (phase_in m.phases t c (decided_in t m.rules c p (phase_in m.phases t c p).advance x)).next) (h.orders c l)
      ∙ ap₂ (cond (eqb (component_at m.components c).order 0)) first second
    where
      first : decided_in t m.rules c (phase_in m.phases t c p).next 0 x ≡ external_part m c (next_phase m c p) 0 x
      first = decided-is _ 0 x ∙ ap (λ q. external_part m c q 0 x) (next-is p)

      second : (phase_in m.phases t c (decided_in t m.rules c p (phase_in m.phases t c p).advance x)).next
          ≡ next_phase m c (external_part m c p (ticks (cond (eqb (phase_at m c p).advance never_field) never (finite (phase_at m c p).advance))) x)
      second = next-is _ ∙ ap (next_phase m c) (decided-is p _ x ∙ ap (λ e. external_part m c p e x) (stay p e))

  -- the rule of its external part
  pub confluent-rule-is : (p : ℕ) (x : Bag) → eqb (phase_at m c p).advance never_field ≡ false → confluent_rule m.phases t m.rules c p x ≡ rule_of_both m c p x
  unfolding confluent_rule rule_of_both advance_of ticks
  confluent-rule-is p x e =
      ap (λ o. cond (eqb o 0) (rule_in t m.rules c (phase_in m.phases t c p).next 0 x) (rule_in t m.rules c p (phase_in m.phases t c p).advance x)) (h.orders c l)
      ∙ ap₂ (cond (eqb (component_at m.components c).order 0)) (rule-is _ 0 x ∙ ap (λ q. rule_for m c q 0 x) (next-is p)) (rule-is p _ x ∙ ap (λ e. rule_for m c p e x) (stay p e))
