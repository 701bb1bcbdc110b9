-- The flat form's bytes are accepted, and flattening it again changes nothing: renumbering twice is renumbering once, and its routes are
-- its couplings. Assumes nothing.
use mathlib.Core.Path.{◌≡◌, refl, sym, ap, ◌∙◌, fun_ext}
use Prim.Native.Nat.{ℕ, zero, suc, ◌<◌}
use mathlib.Core.List.Permᴰ
use mathlib.Core.List.{List, ◌∷◌, map, map-map, Permᴰ}
use mathlib.Core.Bool.{true}
use native.Mathlib.Omega.{arith}
use native.Mathlib.Nat.{zero-add}
use lib.Dec.{eqb}
use lib.ListN.{length, length-map}
use borrow.Author.Tests.{le-ltb}
use Rattle.definition.specs.Bytes.{ok}
use Rattle.definition.specs.Lists.{up_from, sort_by}
use Rattle.definition.specs.Limits.{max_routes}
use Rattle.definition.specs.Model.{Component, Coupling, Rule, Model, no_component, component_at, is_atomic, atomics, children, coupling_le, leaf, forest, tree_at}
use Rattle.definition.specs.File.{model_bytes}
use Rattle.definition.specs.Routes.{routes}
use Rattle.definition.specs.Pinned.Decoder.{accepted}
use Rattle.definition.specs.Flatten.{place_in, renumbered, flat_atomic, flat_components, flat_rule, flat_route, flat}
use Rattle.law_base.proofs.Sorting.{sort-perm, coupling-order}
use Rattle.law_base.proofs.Lists.{all-every, all_map, map-cong-if, length-perm, sort-permutes, all-at}
use Rattle.law_base.proofs.Tests.{or_right}
use Rattle.law_model.proofs.WellFormed.{WellFormed, Accepted}
use Rattle.law_model.proofs.Writing.{decode-back}
use Rattle.law_nest.proofs.Places.{place_up, place-most}
use Rattle.law_nest.proofs.Components.{atomics-atomic, parts_of_root}
use Rattle.law_nest.proofs.Renumber.{is_listed, flat_up, children-up, flat-atomics, flat-component}
use Rattle.law_flat.proofs.FlatSound.{flat_sound}
use Rattle.law_flat.proofs.LevelRoutes.{level-routes}

-- ---- the flat form's tree

flat-children : (cs : List Component) → children (flat_components cs) 0 ≡ atomics (flat_components cs)
unfolding flat_components flat_atomic
flat-children cs =
    children-up no_component (map (flat_atomic cs) (atomics cs))
    (all_map (λ a. eqb a.parent 0) (flat_atomic cs) (atomics cs) ∙ all-every (λ c. true) (atomics cs) (λ c. refl))
    ∙ ap (up_from 1) (length-map (atomics cs) (flat_atomic cs)) ∙ sym (flat_up cs)

leaf-at : (fuel : ℕ) (cs : List Component) (c : ℕ) → is_atomic cs c ≡ true → tree_at fuel cs c ≡ leaf c
unfolding tree_at
leaf-at zero cs c e = refl
leaf-at (suc fuel) cs c e = rw e

module _ (m : Model) (a : Accepted m) where
  abbrev w : WellFormed m
  w = a.sound

  abbrev v : WellFormed (flat m)
  v = flat_sound m a.sound a.few_routes

  level : parts_of_root (flat m) ≡ forest (map leaf (atomics (flat m).components))
  unfolding parts_of_root flat
  level =
      let fs = flat_components m.components in
      ap (λ l. forest (map (λ d. tree_at (length fs) fs d) l)) (flat-children m.components)
      ∙ ap forest (map-cong-if (is_atomic fs) (λ d. tree_at (length fs) fs d) leaf (atomics fs) (atomics-atomic fs v.components.fit v.some_component) (leaf-at (length fs) fs))

  known : (c : ℕ) → c < length (flat m).components → is_listed (flat m).components c ≡ true
  unfolding flat flat_components is_listed is_atomic component_at flat_atomic
  known zero h = refl
  known (suc c) h =
      or_right (eqb 0 (suc c)) _
      (all-at (λ a. eqb a.kind 1) (map (flat_atomic m.components) (atomics m.components)) c no_component
      (all_map (λ a. eqb a.kind 1) (flat_atomic m.components) (atomics m.components) ∙ all-every (λ c. true) (atomics m.components) (λ c. refl)) (omega arith))

  flat-routes : Permᴰ (routes (flat m)) (flat m).couplings
  flat-routes = level-routes (flat m) v level known

  pub flat-stays : Accepted (flat m)
  flat-stays = record { sound = v; few_routes = omega (arith, length-perm flat-routes, v.couplings.few) }

  pub flat-accepted : accepted (model_bytes (flat m)) ≡ ok (flat m)
  unfolding accepted
  flat-accepted = rw (decode-back (flat m) v, le-ltb max_routes (length (routes (flat m))) flat-stays.few_routes)

  -- ---- renumbering again changes nothing

  again : (c : ℕ) → renumbered (flat_components m.components) (renumbered m.components c) ≡ renumbered m.components c
  unfolding renumbered up_from
  again c =
      let n = length (atomics m.components) in
      let x = place_in c (0 ∷ atomics m.components) in
      ap (λ l. place_in x (0 ∷ l)) (flat_up m.components) ∙ sym (zero-add _) ∙ place_up x 0 (suc n) (omega arith) (omega (arith, place-most c (0 ∷ atomics m.components)))

  again-atomics : map (flat_atomic (flat_components m.components)) (atomics (flat_components m.components)) ≡ map (flat_atomic m.components) (atomics m.components)
  unfolding flat_atomic
  again-atomics =
      let cs = m.components in
      let fs = flat_components cs in
      ap (map (flat_atomic fs)) (flat-atomics cs w.components.fit w.some_component)
      ∙ map-map (flat_atomic fs) (renumbered cs) (atomics cs)
      ∙ map-cong-if (is_atomic cs) _ (flat_atomic cs) (atomics cs) (atomics-atomic cs w.components.fit w.some_component)
      (λ c e. ap (λ k. record { kind = 1; parent = 0; phases = k.phases; initial = k.initial; order = k.order }) (flat-component cs w.components.fit w.some_component c e))

  again-components : flat_components (flat_components m.components) ≡ flat_components m.components
  unfolding flat_components
  again-components = ap (λ l. no_component ∷ l) again-atomics

  again-rule : (k : Rule) → flat_rule (flat_components m.components) (flat_rule m.components k) ≡ flat_rule m.components k
  unfolding flat_rule
  again-rule k = rw (again k.component)

  again-route : (k : Coupling) → flat_route (flat_components m.components) (flat_route m.components k) ≡ flat_route m.components k
  unfolding flat_route
  again-route k = rw (again k.source, again k.target)

  again-couplings : sort_by coupling_le (map (flat_route (flat_components m.components)) (routes (flat m))) ≡ (flat m).couplings
  unfolding flat
  again-couplings =
      let cs = m.components in
      let F = flat_route (flat_components cs) in
      let G = flat_route cs in
      let same : map F (map G (routes m)) ≡ map G (routes m) = map-map F G (routes m) ∙ ap (λ (f : Coupling → Coupling). map f (routes m)) (fun_ext again-route) in
      sort-perm coupling_le coupling-order (Permᴰ.trans (Permᴰ.map F flat-routes) (Permᴰ.map F (sort-permutes coupling_le (map G (routes m)))))
      ∙ ap (sort_by coupling_le) same

  pub flat-twice : flat (flat m) ≡ flat m
  unfolding flat
  flat-twice =
      let rules : map (flat_rule (flat_components m.components)) (map (flat_rule m.components) m.rules) ≡ map (flat_rule m.components) m.rules
      = map-map _ _ m.rules ∙ ap (λ (f : Rule → Rule). map f m.rules) (fun_ext again-rule) in
      λ i. record { components = again-components i; phases = m.phases; rules = rules i; couplings = again-couplings i; ranges = m.ranges }
