-- The decoder's tests of a component decide the lines of document 01 for it, so that it reads sections of the components' form.
-- Assumes nothing.
use mathlib.Core.Path.{◌≡◌, refl, sym, subst}
use mathlib.Core.Logic.{◌⊎◌, inl, inr, ⊎_elim}
use Prim.Native.Nat.{ℕ, zero, suc, ◌≤◌, ◌<◌}
use mathlib.Core.List.{List}
use mathlib.Core.Bool.{Bool, true, false}
use native.Mathlib.Omega.{arith}
use lib.Dec.{ltb, eqb}
use borrow.Author.Tests.{ltb-true, ltb-false, eqb-true, eqb-false, ne_eqb}
use Rattle.definition.specs.Limits.{max_components, max_ancestors, max_own_phases}
use Rattle.definition.specs.Model.{Component, component_at}
use Rattle.definition.specs.Pinned.Decoder.{to_component, coupled_fields, atomic_fields, kind_fields, root_fields, root_within, place_fits, component_fits, component_count_refusal}
use Rattle.definition.specs.Sound.{Ancestors, of_root, of_child, ComponentKeeps, component_form}
use Rattle.law_refusals.proofs.Tests.{Decides, less, most, equal, reworded, both, either}
use Rattle.law_model.proofs.Spellings.{component-spelled}
use Rattle.law_refusals.proofs.Sections.{Counted, none_applies, over_limit, Reads}

-- ---- "kind (0 coupled, 1 atomic)" with the fields of each

abbrev Coupled : Component → Type 0
Coupled k = (k.kind ≡ 0) × (((k.phases ≡ 0) × (k.initial ≡ 0)) × (k.order ≡ 0))

abbrev Atomic : Component → Type 0
Atomic k = (k.kind ≡ 1) × ((((1 ≤ k.phases) × (k.phases ≤ max_own_phases)) × (k.initial < k.phases)) × (k.order ≤ 1))

kind-test : (k : Component) → Decides (kind_fields k) (Coupled k ⊎ Atomic k)
unfolding kind_fields coupled_fields atomic_fields
kind-test k =
    either (both (equal k.kind 0) (both (both (equal k.phases 0) (equal k.initial 0)) (equal k.order 0)))
    (both (equal k.kind 1) (both (both (both (most 1 k.phases) (most k.phases max_own_phases)) (less k.initial k.phases)) (most k.order 1)))

-- each kind has its own fields
kind-lines : (k : Component) → Coupled k ⊎ Atomic k → (k.kind ≡ 0) ⊎ (k.kind ≡ 1)
kind-lines k h = ⊎_elim (λ a. inl a.0) (λ a. inr a.0) h

atomic-lines : (k : Component) → Coupled k ⊎ Atomic k → k.kind ≡ 1
    → (1 ≤ k.phases) × (k.phases ≤ max_own_phases) × (k.initial < k.phases) × (k.order ≤ 1)
atomic-lines k (inl a) e = absurd (omega (arith, a.0))
atomic-lines k (inr a) e = (a.1.0.0.0, a.1.0.0.1, a.1.0.1, a.1.1)

coupled-lines : (k : Component) → Coupled k ⊎ Atomic k → k.kind ≡ 0 → (k.phases ≡ 0) × (k.initial ≡ 0) × (k.order ≡ 0)
coupled-lines k (inl a) e = (a.1.0.0, a.1.0.1, a.1.1)
coupled-lines k (inr a) e = absurd (omega (arith, a.0))

kept-kind : (cs : List Component) (i : ℕ) (k : Component) → ComponentKeeps cs i k → Coupled k ⊎ Atomic k
kept-kind cs i k h =
    ⊎_elim (λ e. let c = h.coupled e in inl (e, ((c.0, c.1), c.2)))
    (λ e. let a = h.atomic e in inr (e, (((a.0, a.1), a.2), a.3))) h.kind

-- ---- "At most 8 ancestors."

module _ (cs : List Component) where
  -- Component c has at most n ancestors.
  abbrev Near : ℕ → ℕ → Type 0
  Near n c = (k : ℕ) × Ancestors cs c k × (k ≤ n)

  near-root : (n c : ℕ) → c ≡ 0 → Near n c
  near-root n c e = (0, subst (λ d. Ancestors cs d 0) (sym e) of_root, omega arith)

  near_on : (n c : ℕ) → Near n (component_at cs c).parent → Near (suc n) c
  near_on n zero h = near-root (suc n) 0 refl
  near_on n (suc c) h = (suc h.0, of_child (suc c) h.0 (omega arith) h.1, omega (arith, h.2))

  no-ancestors : (c k : ℕ) → Ancestors cs c k → k ≤ 0 → c ≡ 0
  no-ancestors c k of_root l = refl
  no-ancestors c k (of_child d j p a) l = absurd (omega arith)

  ancestor-steps : (n c k : ℕ) → Ancestors cs c k → k ≤ suc n → (c ≡ 0) ⊎ Near n (component_at cs c).parent
  ancestor-steps n c k of_root l = inl refl
  ancestor-steps n c k (of_child d j p a) l = inr (j, a, omega arith)

  near-test : (n c : ℕ) → Decides (root_within n cs c) (Near n c)
  unfolding root_within
  near-test zero c = reworded (equal c 0) (near-root 0 c) (λ h. no-ancestors c h.0 h.1 h.2)
  near-test (suc n) c =
      reworded (either (equal c 0) (near-test n (component_at cs c).parent)) (⊎_elim (near-root (suc n) c) (near_on n c))
      (λ h. ancestor-steps n c h.0 h.1 h.2)

-- ---- a component

module _ (cs : List Component) where
  root-test : Decides (component_fits cs 0) (ComponentKeeps cs 0 (component_at cs 0))
  unfolding component_fits root_fields
  root-test =
      let k = component_at cs 0 in
      reworded (both (kind-test k) (both (equal k.kind 0) (equal k.parent 0)))
      (λ h. record {
        kind = kind-lines k h.0;
        root = λ e. h.1;
        parent = λ l. absurd (omega arith);
        ancestors = (0, of_root, omega arith);
        atomic = atomic-lines k h.0;
        coupled = coupled-lines k h.0;
      })
      (λ h. (kept-kind cs 0 k h, h.root refl))

  other_test : (i : ℕ) → 0 < i → Decides (component_fits cs i) (ComponentKeeps cs i (component_at cs i))
  unfolding component_fits place_fits
  other_test i p =
      let k = component_at cs i in
      rw (ne_eqb i 0 (λ e. omega arith))
      (reworded (both (kind-test k) (both (both (less k.parent i) (equal (component_at cs k.parent).kind 0)) (near-test cs max_ancestors i)))
      (λ h. record {
        kind = kind-lines k h.0;
        root = λ e. absurd (omega arith);
        parent = λ l. h.1.0;
        ancestors = h.1.1;
        atomic = atomic-lines k h.0;
        coupled = coupled-lines k h.0;
      })
      (λ h. (kept-kind cs i k h, (h.parent p, h.ancestors))))

  component-test : (i : ℕ) → Decides (component_fits cs i) (ComponentKeeps cs i (component_at cs i))
  component-test zero = root-test
  component-test (suc i) = other_test (suc i) (omega arith)

-- ---- the section

component-counted : (n : ℕ) → Counted component_form component_count_refusal n
unfolding component_count_refusal
component-counted n = go (ltb max_components n) refl (eqb n 0) refl
  where
    go : (t : Bool) → ltb max_components n ≡ t → (u : Bool) → eqb n 0 ≡ u → Counted component_form component_count_refusal n
    go true e u g = over_limit (λ h. omega (arith, h.1, ltb-true max_components n e)) (rw e)
    go false e true g = over_limit (λ h. omega (arith, h.0, eqb-true n 0 g)) (rw (e, g))
    go false e false g = none_applies (omega (arith, eqb-false n 0 g), ltb-false max_components n e) tt (rw (e, g))

pub component-reads : Reads component_form component_count_refusal to_component component_fits
component-reads = record {
  spelled = component-spelled;
  small = λ n h. omega (arith, h.1);
  counted = component-counted;
  line = λ cs i r l. component-test cs i;
}
