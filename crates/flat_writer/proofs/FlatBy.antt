-- Where the tables are a model's and the rows its routes, what the code writes is the flat form of the definition. Assumes nothing.
use mathlib.Core.Path.{◌≡◌, refl, ap, ap₂, ◌∙◌}
use Prim.Native.Nat.{ℕ, suc, ◌+◌, ◌<◌}
use mathlib.Core.List.{List, [], ◌∷◌, map}
use mathlib.Core.Bool.{true, ◌&&◌}
use native.Mathlib.Omega.{arith}
use lib.Dec.{ltb, leb}
use lib.ListN.{length, get_or}
use Rattle.definition.specs.Lists.{up_from}
use Rattle.definition.specs.Limits.{port_count}
use Rattle.definition.specs.Model.{Component, Rule, Model, no_component, component_at, is_atomic, atomics}
use Rattle.definition.specs.Pinned.Decoder.{rule_fields}
use Rattle.definition.specs.Flatten.{renumbered, flat_atomic, flat_components, flat_rule, flat}
use Rattle.law_base.proofs.Tests.{and_left, and_right}
use Rattle.law_base.proofs.Lists.{map-cong-if}
use Rattle.law_model.proofs.WellFormed.{WellFormed, rules-fit}
use Rattle.law_nest.proofs.Renumber.{listed-atomic}
use Rattle.spec_step.specs.Tables.{numbers_at}
use Rattle.spec_step.specs.Tabled.{Tabled}
use Rattle.law_base.specs.Keys.{coupling_of}
use Rattle.flat_ranks.specs.Ranks.{rank_of}
use Rattle.flat_ranks.proofs.Ranks.{rank_is}
use Rattle.flat_writer.specs.Written.{numbers_in, under_root, atomics_by, components_by, rule_by, flat_by}

-- a list by its places
by_place : (f : ℕ → ℕ) (l : List ℕ) (k : ℕ) → ((i : ℕ) → i < length l → f (k + i) ≡ get_or l i 0) → map f (up_from k (length l)) ≡ l
unfolding up_from
by_place f [] k h = refl
by_place f (a ∷ l) k h =
    let z : k ≡ k + 0 = omega arith in
    ap₂ ◌∷◌ (ap f z ∙ h 0 (omega arith)) (by_place f l (suc k) (λ i b. ap f (let e : suc k + i ≡ k + suc i = omega arith in e) ∙ h (suc i) (omega arith)))

rule-atomic : (cs : List Component) (k : Rule) → rule_fields cs k ≡ true → is_atomic cs k.component ≡ true
unfolding rule_fields
rule-atomic cs k h =
    let a = ltb k.component (length cs) in
    let b = is_atomic cs k.component in
    let c = ltb k.phase (component_at cs k.component).phases in
    let d = ltb k.next (component_at cs k.component).phases in
    let e = ltb k.port port_count in
    let f = leb k.low k.high in
    and_right a b (and_left (a && b) c (and_left (a && b && c) d (and_left (a && b && c && d) e (and_left (a && b && c && d && e) f (and_left (a && b && c && d && e && f) _ h)))))

module _ (m : Model) (w : WellFormed m) (t : List ℕ) (h : Tabled m t) where
  numbers-are : numbers_in t (length (atomics m.components)) ≡ atomics m.components
  unfolding numbers_in
  numbers-are = by_place (λ i. get_or t (numbers_at + i) 0) (atomics m.components) 0 (λ i l. ap (λ j. get_or t (numbers_at + j) 0) (let e : 0 + i ≡ i = omega arith in e) ∙ h.numbers i l)

  components-are : components_by m.components t (length (atomics m.components)) ≡ flat_components m.components
  unfolding components_by atomics_by flat_components flat_atomic under_root
  components-are = ap (λ l. no_component ∷ map (λ c. under_root (component_at m.components c)) l) numbers-are

  rules-are : map (rule_by t) m.rules ≡ map (flat_rule m.components) m.rules
  rules-are =
      map-cong-if (rule_fields m.components) (rule_by t) (flat_rule m.components) m.rules (rules-fit m w)
      (λ k f. one k (rank_is m w t h k.component (listed-atomic m.components k.component (rule-atomic m.components k f))))
    where
      one : (k : Rule) → rank_of t k.component ≡ renumbered m.components k.component → rule_by t k ≡ flat_rule m.components k
      one k e = unfold rule_by flat_rule in
          (λ i. record { component = e i; phase = k.phase; next = k.next; port = k.port; low = k.low; high = k.high; least = k.least; low_elapsed = k.low_elapsed; high_elapsed = k.high_elapsed })

  pub flat-by : (rows : List ℕ) → map coupling_of rows ≡ (flat m).couplings → flat_by m.components m.phases m.rules t (length (atomics m.components)) rows ≡ flat m
  flat-by rows e = go components-are rules-are e
    where
      go : components_by m.components t (length (atomics m.components)) ≡ flat_components m.components
          → map (rule_by t) m.rules ≡ map (flat_rule m.components) m.rules → map coupling_of rows ≡ (flat m).couplings
          → flat_by m.components m.phases m.rules t (length (atomics m.components)) rows ≡ flat m
      go a b c = unfold flat_by flat in (λ i. record { components = a i; phases = m.phases; rules = b i; couplings = c i; ranges = h.ranges i })
