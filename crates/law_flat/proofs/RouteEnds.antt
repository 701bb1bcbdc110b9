-- Where the routes of a sound model begin and end: at the root or an atomic, at ports that there are, and never where they began; so
-- each can stand as a coupling of the flat form. Assumes nothing.
use mathlib.Core.Path.{◌≡◌, refl, sym, ap, ◌∙◌, subst}
use Prim.Native.Nat.{ℕ, ◌≤◌}
use mathlib.Core.List.{List, [], ◌++◌}
use mathlib.Core.Bool.{Bool, true, false, ◌&&◌, not}
use native.Mathlib.Omega.{arith}
use lib.Dec.{ltb, eqb}
use borrow.Author.Tests.{not-true}
use Rattle.definition.specs.Lists.{all}
use Rattle.definition.specs.Model.{Coupling, Model, is_atomic, Tree, Forest, node, tree}
use Rattle.definition.specs.Routes.{ports_to, ends_in, joined_all, ways_from, root_ends, routes}
use Rattle.definition.specs.Limits.{port_count}
use Rattle.law_base.proofs.Tests.{and_left, and_right, and-true, eqb-sym}
use Rattle.law_base.proofs.Lists.{all-if, all_append}
use Rattle.law_model.proofs.WellFormed.{WellFormed, couplings-fit}
use Rattle.law_nest.proofs.Trees.{leaves_t}
use Rattle.law_nest.proofs.Occurs.{occurs, all-occurs}
use Rattle.law_nest.proofs.Kin.{Rooted}
use Rattle.law_nest.proofs.Components.{rooted, root-not, leaves-atomic, leaf-occurs, atomic-most, parts_of_root, tree_shape}
use Rattle.law_nest.proofs.Renumber.{is_listed, listed-root, listed-atomic}
use Rattle.law_flat.proofs.WayEnds.{end_fits, beside-all, ends-from, other, way_fits, EndsFor, joined-all, ways-fit}
use Rattle.law_flat.proofs.Couplings.{to-self, ports-reached}

-- ---- the routes of a sound model

module _ (m : Model) (w : WellFormed m) where
  abbrev wood : Rooted m.components
  wood = rooted m.components w.components.fit w.some_component

  -- a route begins and ends at the root or an atomic, not both the same, at ports up to 3
  unfoldable pub route_fits : Coupling → Bool
  route_fits k =
      is_listed m.components k.source && ltb k.source_port port_count
      && ((is_listed m.components k.target && not (eqb k.source k.target)) && ltb k.target_port port_count)

  module _ (f : Forest) (leaves : all (is_atomic m.components) (leaves_t (node 0 f)) ≡ true) (one : (a : ℕ) → occurs a (leaves_t (node 0 f)) ≤ 1) where
    abbrev ks : List Coupling
    ks = m.couplings

    abbrev good : ℕ → Bool
    good = is_listed m.components

    abbrev low : (i d n : ℕ) → all (λ r. ltb r port_count) (ports_to m.couplings i d n) ≡ true
    low = ports-reached m.components wood m.couplings (couplings-fit m w)

    abbrev away : (i n : ℕ) → ports_to m.couplings i i n ≡ []
    away = to-self m.components wood m.couplings (couplings-fit m w)

    below_root : all (other ks low away good 0) (leaves_t (node 0 f)) ≡ true
    unfolding other
    below_root =
        all-if (is_atomic m.components) _ (leaves_t (node 0 f)) (λ c e. and-true _ _ (listed-atomic m.components c e) (ap not (root-not m.components c wood e))) leaves

    at-root : EndsFor ks low away good root_ends (node 0 f)
    unfolding root_ends all end_fits other
    at-root a o n h =
        let e = root-not m.components a wood (all-occurs (is_atomic m.components) a (leaves_t (node 0 f)) leaves o) in
        and-true _ _ (and-true _ _ (and-true _ _ (listed-root m.components) (ap not (eqb-sym a 0 ∙ e))) h) refl

    routes-node : all route_fits (joined_all 0 (ends_in m.couplings (node 0 f)) ++ ways_from m.couplings root_ends (node 0 f)) ≡ true
    unfolding route_fits way_fits end_fits other ends_in leaves_t
    routes-node =
        all_append route_fits (joined_all 0 (ends_in ks (node 0 f))) (ways_from ks root_ends (node 0 f))
        (joined-all ks low away good 0 (ends_in ks (node 0 f)) (listed-root m.components)
        (λ n h. ends-from ks low away (other ks low away good 0) 0 f n (beside-all ks low away (other ks low away good 0) 0 f below_root)))
        (ways-fit ks low away good (node 0 f) root_ends (all-if (is_atomic m.components) good (leaves_t (node 0 f)) (listed-atomic m.components) leaves) at-root one)

  routes-of : (t : Tree) (f : Forest) → t ≡ node 0 f → all (is_atomic m.components) (leaves_t t) ≡ true → ((a : ℕ) → occurs a (leaves_t t) ≤ 1)
      → all route_fits (joined_all 0 (ends_in m.couplings t) ++ ways_from m.couplings root_ends t) ≡ true
  routes-of t f e =
      subst (λ t. all (is_atomic m.components) (leaves_t t) ≡ true → ((a : ℕ) → occurs a (leaves_t t) ≤ 1)
      → all route_fits (joined_all 0 (ends_in m.couplings t) ++ ways_from m.couplings root_ends t) ≡ true) (sym e) (λ l one. routes-node f l one)

  pub routes-fit : all route_fits (routes m) ≡ true
  unfolding routes tree
  routes-fit =
      routes-of (tree m) (parts_of_root m) (tree_shape m wood.root_coupled) (leaves-atomic m.components w.components.fit w.some_component)
      (λ a. omega (arith, leaf-occurs m.components w.components.fit w.some_component a, atomic-most m.components w.components.fit w.some_component a))

  -- the same, one by one
  pub record RouteParts (k : Coupling) : Type 0 where
    pub source_listed : is_listed m.components k.source ≡ true
    pub source_low : ltb k.source_port port_count ≡ true
    pub target_listed : is_listed m.components k.target ≡ true
    pub two : eqb k.source k.target ≡ false
    pub target_low : ltb k.target_port port_count ≡ true

  pub route-parts : (k : Coupling) → route_fits k ≡ true → RouteParts k
  unfolding route_fits
  route-parts k h =
      let a = is_listed m.components k.source in
      let b = is_listed m.components k.target in
      let x = and_left (a && ltb k.source_port port_count) _ h in
      let y = and_right (a && ltb k.source_port port_count) _ h in
      let z = and_left (b && not (eqb k.source k.target)) _ y in
      record {
        source_listed = and_left a _ x;
        source_low = and_right a _ x;
        target_listed = and_left b _ z;
        two = not-true (eqb k.source k.target) (and_right b _ z);
        target_low = and_right (b && not (eqb k.source k.target)) _ y;
      }
