-- The flat form of a sound model with few routes is sound: phases and rules are kept, and each route is a coupling between the root and
-- the atomics. So its bytes are a model file. Assumes nothing.
use mathlib.Core.Path.{◌≡◌, refl, sym, ap, ap₂, ◌∙◌}
use mathlib.Core.Logic.{◌⊎◌, inl, inr}
use Prim.Native.Nat.{ℕ, zero, suc, ◌≤◌, ◌<◌}
use mathlib.Core.List.{List, [], ◌∷◌, map, map-id}
use mathlib.Core.Bool.{Bool, true, false, ◌&&◌, ◌||◌, not}
use native.Mathlib.Omega.{arith}
use lib.Dec.{ltb, eqb}
use lib.ListN.{length, get_or, length-map}
use borrow.Author.Tests.{lt-ltb, eqb-false, ne_eqb}
use Rattle.definition.specs.Lists.{all, rises}
use Rattle.definition.specs.Limits.{max_couplings, max_routes, max_phases, max_rules}
use Rattle.definition.specs.Model.{Component, Coupling, Rule, RangeReading, inclusive, half_open, Model, is_atomic, atomics, is_child, is_sibling, coupling_le, no_rule, no_coupling}
use Rattle.definition.specs.Records.{phase_bytes, rule_bytes, coupling_bytes}
use Rattle.definition.specs.Routes.{routes}
use Rattle.definition.specs.Pinned.Decoder.{rule_fits, coupling_fits, to_phase, phase_fits, to_rule, rule_fields, to_coupling, coupling_fields, related, not_falling, elapsed_fits}
use Rattle.definition.specs.Flatten.{place_in, renumbered, flat_components, flat_rule, flat_route, flat}
use Rattle.definition.specs.Bytes.{number_at, little_endian, bytes_of, laid_out}
use Rattle.law_base.proofs.Sorting.{rises-sort, coupling-order}
use Rattle.law_base.proofs.Tests.{clash, and_left, and_right, and-true, or_right}
use Rattle.law_base.proofs.Lists.{all-if, all_map, all-perm, map-cong-if, length-perm, sort-permutes, get_d_map, all-at}
use Rattle.law_model.proofs.WellFormed.{WellFormed, ComponentsFit, Checked, kept}
use Rattle.law_model.proofs.PhaseRange.{length-bounds}
use Rattle.law_model.proofs.Codec.{le_bytes}
use Rattle.law_nest.proofs.Renumber.{listed-atomic, new-root, new-atomic, new-eqb}
use Rattle.law_flat.proofs.FlatComponents.{listed-cases, flat-length, flat-bounds, new-low, new-byte, flat-kind, flat-parent, flat-phases, components-checked}
use Rattle.law_flat.proofs.RouteEnds.{route_fits, routes-fit, route-parts}

-- records changed so that their bytes still keep them
held-map : {A : Type 0} (f g : A → A) → ((a : A) → f a ≡ a → f (g a) ≡ g a) → (xs : List A) → map f xs ≡ xs → map f (map g xs) ≡ map g xs
held-map f g k [] h = refl
held-map f g k (a ∷ xs) h =
    let p : f a ≡ a = cc in
    let q : map f xs ≡ xs = cc in
    ap₂ ◌∷◌ (k a p) (held-map f g k xs q)

-- couplings in rising order, each by its place
not-falling : (ks : List Coupling) → rises coupling_le ks ≡ true → (i : ℕ) → i < length ks → not_falling ks i ≡ true
unfolding rises not_falling
not-falling ks h zero b = refl
not-falling [] h (suc i) b = absurd (omega arith)
not-falling (k ∷ []) h (suc i) b = absurd (omega arith)
not-falling (k ∷ l ∷ ks) h (suc zero) b = and_left (coupling_le k l) _ h
not-falling (k ∷ l ∷ ks) h (suc (suc i)) b = not-falling (l ∷ ks) (and_right (coupling_le k l) _ h) (suc i) (omega arith)

module _ (m : Model) (w : WellFormed m) where
  abbrev cs : List Component
  cs = m.components

  abbrev fit : ComponentsFit m.components
  fit = w.components.fit

  abbrev some : 0 < length m.components
  some = w.some_component

  -- ---- phases

  phases-checked : Checked max_phases to_phase phase_bytes (phase_fits (flat_components m.components)) m.phases
  phases-checked = record {
    few = w.phases.few;
    held = w.phases.held;
    fit = λ i b. unfold phase_fits in (rw (flat-bounds m w) (w.phases.fit i b));
  }

  -- ---- rules

  rule-held : (k : Rule) → to_rule (rule_bytes k) ≡ k → to_rule (rule_bytes (flat_rule m.components k)) ≡ flat_rule m.components k
  unfolding flat_rule to_rule rule_bytes number_at little_endian laid_out bytes_of
  rule-held k h = λ i. record {
    component = le_bytes 1 (renumbered cs k.component) (new-byte m w k.component) i;
    phase = (h i).phase;
    next = (h i).next;
    port = (h i).port;
    low = (h i).low;
    high = (h i).high;
    least = (h i).least;
    low_elapsed = (h i).low_elapsed;
    high_elapsed = (h i).high_elapsed;
  }

  rule_fits_lem : (k : Rule) → rule_fields m.components k ≡ true → rule_fields (flat_components m.components) (flat_rule m.components k) ≡ true
  unfolding rule_fields flat_rule
  rule_fits_lem k h = go (ltb k.component (length cs)) refl (is_atomic cs k.component) refl
    where
      go : (a : Bool) → ltb k.component (length cs) ≡ a → (b : Bool) → is_atomic cs k.component ≡ b → rule_fields (flat_components cs) (flat_rule cs k) ≡ true
      go false e b f = absurd (clash (rw e at h) refl)
      go true e false f = absurd (clash (rw (e, f) at h) refl)
      go true e true f =
          rw (lt-ltb _ _ (new-low m w k.component (listed-atomic m.components k.component f)), flat-kind m w k.component f, flat-phases m w k.component f) (rw (e, f) at h)

  -- renumbering keeps a rule's elapsed range
  elapsed-kept : (r : RangeReading) (k : Rule) → elapsed_fits r k ≡ true → elapsed_fits r (flat_rule m.components k) ≡ true
  unfolding elapsed_fits flat_rule
  elapsed-kept inclusive k h = h
  elapsed-kept half_open k h = h

  rules-checked : Checked max_rules to_rule rule_bytes (rule_fits (flat_components m.components)) (map (flat_rule m.components) m.rules)
  unfolding rule_fits
  rules-checked = record {
    few = rw length-map w.rules.few;
    held = held-map (λ k. to_rule (rule_bytes k)) (flat_rule cs) rule-held m.rules w.rules.held;
    fit = λ i b.
        let l : i < length m.rules = omega (arith, length-map m.rules (flat_rule cs)) in
        ap (rule_fields (flat_components cs)) (get_d_map (flat_rule cs) m.rules i no_rule no_rule l) ∙ rule_fits_lem (get_or m.rules i no_rule) (w.rules.fit i l);
  }

  -- ---- couplings

  -- an atomic is the root's child in the flat form
  child : (c : ℕ) → is_atomic m.components c ≡ true → is_child (flat_components m.components) 0 (renumbered m.components c) ≡ true
  unfolding is_child
  child c e = rw (flat-parent m w c e) (ap (λ n. not (eqb n 0) && true) (new-atomic cs fit some c e) ∙ ap (λ b. not b && true) (ne_eqb (suc (place_in c (atomics cs))) 0 (λ d. omega arith)))

  sibling : (c d : ℕ) → is_atomic m.components c ≡ true → is_atomic m.components d ≡ true → eqb c d ≡ false
      → is_sibling (flat_components m.components) (renumbered m.components c) (renumbered m.components d) ≡ true
  unfolding is_sibling
  sibling c d e f n =
      rw (flat-parent m w c e, new-eqb cs fit some c d (listed-atomic m.components d f), n)
      (and-true _ _ (ap (λ n. not (eqb n 0)) (new-atomic cs fit some c e) ∙ ap not (ne_eqb (suc (place_in c (atomics cs))) 0 (λ d. omega arith))) (child d f))

  root-child : (c d : ℕ) → 0 ≡ c → is_atomic m.components d ≡ true
      → is_child (flat_components m.components) (renumbered m.components c) (renumbered m.components d) ≡ true
  root-child c d e f = rw (← e, new-root m.components) (child d f)

  flat-related : (c d : ℕ) → eqb c d ≡ false → (0 ≡ c) ⊎ (is_atomic m.components c ≡ true) → (0 ≡ d) ⊎ (is_atomic m.components d ≡ true)
      → related (flat_components m.components) (renumbered m.components c) (renumbered m.components d) ≡ true
  unfolding related
  flat-related c d n (inl e) (inl f) = absurd (eqb-false c d n (sym e ∙ f))
  flat-related c d n (inl e) (inr f) = rw (root-child c d e f)
  flat-related c d n (inr e) (inl f) = rw (root-child d c f e) (or_right (is_child fs (renumbered cs c) (renumbered cs d) || is_sibling fs (renumbered cs c) (renumbered cs d)) true refl)
    where
      fs : List Component
      fs = flat_components cs
  flat-related c d n (inr e) (inr f) = rw (sibling c d e f n) (ap (λ b. b || is_child fs (renumbered cs d) (renumbered cs c)) (or_right (is_child fs (renumbered cs c) (renumbered cs d)) true refl))
    where
      fs : List Component
      fs = flat_components cs

  route-fits : (k : Coupling) → route_fits m w k ≡ true → coupling_fields (flat_components m.components) (flat_route m.components k) ≡ true
  unfolding coupling_fields flat_route
  route-fits k h =
      let p = route-parts m w k h in
      and-true _ _
      (and-true _ _ (and-true _ _ (and-true _ _ (lt-ltb _ _ (new-low m w k.source p.source_listed)) (lt-ltb _ _ (new-low m w k.target p.target_listed))) p.source_low) p.target_low)
      (flat-related k.source k.target p.two (listed-cases cs k.source p.source_listed) (listed-cases cs k.target p.target_listed))

  -- so each coupling of the flat form keeps its lines, and is kept by its bytes
  flat-couplings : all (coupling_fields (flat_components m.components)) (flat m).couplings ≡ true
  unfolding flat
  flat-couplings =
      all-perm _ (sort-permutes _ (map (flat_route cs) (routes m))) ∙ all_map _ (flat_route cs) (routes m)
      ∙ all-if (route_fits m w) (λ k. coupling_fields (flat_components cs) (flat_route cs k)) (routes m) route-fits (routes-fit m w)

  coupling-held : (k : Coupling) → coupling_fields (flat_components m.components) k ≡ true → to_coupling (coupling_bytes k) ≡ k
  unfolding to_coupling coupling_bytes number_at little_endian laid_out bytes_of
  coupling-held k h =
      let f = kept (flat_components cs) k h in
      let few = (components-checked m w).few in
      λ i. record {
        source = le_bytes 1 k.source (omega (arith, f.source, few)) i;
        source_port = le_bytes 1 k.source_port (omega (arith, f.source_port_lem)) i;
        target = le_bytes 1 k.target (omega (arith, f.target, few)) i;
        target_port = le_bytes 1 k.target_port (omega (arith, f.target_port_lem)) i;
      }

  couplings-checked : length (routes m) ≤ max_routes → Checked max_couplings to_coupling coupling_bytes (coupling_fits (flat_components m.components)) (flat m).couplings
  couplings-checked few = record {
    few = unfold flat in (omega (arith, few, length-perm (sort-permutes coupling_le (map (flat_route cs) (routes m))), length-map (routes m) (flat_route cs)));
    held = map-cong-if (coupling_fields (flat_components cs)) (λ k. to_coupling (coupling_bytes k)) (λ k. k) (flat m).couplings flat-couplings (λ k h. coupling-held k h) ∙ map-id _;
    fit = λ i b. unfold coupling_fits in
        (and-true (coupling_fields (flat_components cs) (get_or (flat m).couplings i no_coupling)) _ (all-at (coupling_fields (flat_components cs)) (flat m).couplings i no_coupling flat-couplings b)
        (not-falling (flat m).couplings (unfold flat in (rises-sort coupling_le coupling-order (map (flat_route cs) (routes m)))) i b));
  }

  pub flat_sound : length (routes m) ≤ max_routes → WellFormed (flat m)
  unfolding flat
  flat_sound few = record {
    some_component = omega (arith, flat-length m w);
    components = components-checked m w;
    phase_count = w.phase_count ∙ sym (length-bounds cs) ∙ ap length (sym (flat-bounds m w)) ∙ length-bounds (flat_components cs);
    phases = phases-checked;
    rules = rules-checked;
    couplings = couplings-checked few;
    ranges = all_map (elapsed_fits m.ranges) (flat_rule cs) m.rules ∙ all-if (elapsed_fits m.ranges) (λ k. elapsed_fits m.ranges (flat_rule cs k)) m.rules (elapsed-kept m.ranges) w.ranges;
  }
