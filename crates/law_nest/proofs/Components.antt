-- What the checked components of a model are: the root and the coupled ones have no phases, an atomic has its fields, a parent is an earlier
-- coupled component; so the leaves of the root's tree are the atomics. Everything about the nest and its flat form starts here.
-- Assumes nothing.
use mathlib.Core.Path.{◌≡◌, refl, sym, ap, ◌∙◌}
use Prim.Native.Nat.{ℕ, zero, suc, ◌+◌, ◌≤◌, ◌<◌}
use mathlib.Core.List.{List, map, Permᴰ}
use mathlib.Core.Bool.{Bool, true, false, ◌&&◌, ◌||◌, cond}
use native.Mathlib.Omega.{arith}
use lib.Dec.{leb, ltb, eqb}
use lib.ListN.{length, get_or-eq_default}
use borrow.Author.Tests.{ltb-true, ltb-false, eqb-true, eq-eqb, ne_eqb}
use Rattle.definition.specs.Lists.{all, up_from}
use Rattle.definition.specs.Limits.{max_ancestors}
use Rattle.definition.specs.Model.{Tree, Component, Model, no_component, component_at, is_atomic, atomics, is_child, children, Forest, leaf, node, forest, tree_at, tree}
use Rattle.definition.specs.Pinned.Decoder.{coupled_fields, atomic_fields, kind_fields, root_fields, root_within, place_fits, component_fits}
use Rattle.law_base.proofs.Tests.{clash, and_left, and_right}
use Rattle.law_base.proofs.Bags.{points-perm}
use Rattle.law_base.proofs.Lists.{all_keep, count_none}
use Rattle.law_model.proofs.WellFormed.{ComponentsFit, WellFormed}
use Rattle.law_nest.proofs.Occurs.{occurs, kept-tests, kept-once}
use Rattle.law_nest.proofs.Trees.{leaves_t, forest-all}
use Rattle.law_nest.proofs.Kin.{par, Rooted, leaf-once, child-above}

-- ---- one component

-- a kind is 0 or 1, and has its fields
kinds : (k : Component) → kind_fields k ≡ true → (t : Bool) → eqb k.kind 1 ≡ t → cond t (atomic_fields k) (coupled_fields k) ≡ true
unfolding kind_fields
kinds k h true e =
    let z : eqb k.kind 0 ≡ false = ne_eqb k.kind 0 (λ d. omega (arith, eqb-true k.kind 1 e)) in
    rw (z, e) at h
kinds k h false e = go (eqb k.kind 0) refl
  where
    alone : (b : Bool) → b || false ≡ true → b ≡ true
    alone true h = refl
    alone false h = h

    go : (t : Bool) → eqb k.kind 0 ≡ t → coupled_fields k ≡ true
    go true f = alone (coupled_fields k) (rw (f, e) at h)
    go false f = absurd (clash (rw (f, e) at h) refl)

not-atomic : (cs : List Component) (c : ℕ) → (component_at cs c).kind ≡ 0 → is_atomic cs c ≡ false
unfolding is_atomic
not-atomic cs c e = rw e

none-coupled : coupled_fields no_component ≡ true
unfolding coupled_fields no_component
none-coupled = refl

-- an atomic is a component of the file
pub atomic-below : (cs : List Component) (c : ℕ) → is_atomic cs c ≡ true → c < length cs
unfolding is_atomic component_at no_component
atomic-below cs c e = go (ltb c (length cs)) refl
  where
    go : (t : Bool) → ltb c (length cs) ≡ t → c < length cs
    go true f = ltb-true c (length cs) f
    go false f = absurd (clash e (ap (λ k. eqb k.kind 1) (get_or-eq_default cs no_component (ltb-false c (length cs) f))))

pub root-not : (cs : List Component) (c : ℕ) → Rooted cs → is_atomic cs c ≡ true → eqb 0 c ≡ false
root-not cs c w e = ne_eqb 0 c (λ d. clash e (ap (is_atomic cs) (sym d) ∙ w.root_coupled))

module _ (cs : List Component) (h : ComponentsFit cs) (l : 0 < length cs) where
  -- ---- each component, by its number

  kind-fields : (c : ℕ) → c < length cs → kind_fields (component_at cs c) ≡ true
  unfolding component_fits
  kind-fields c b = and_left (kind_fields (component_at cs c)) _ (h c b)

  root-kind : (component_at cs 0).kind ≡ 0
  unfolding component_fits root_fields
  root-kind =
      let k = component_at cs 0 in
      eqb-true k.kind 0 (and_left (eqb k.kind 0) _ (and_right (kind_fields k) _ (h 0 l)))

  place : (c : ℕ) → 0 < c → c < length cs → place_fits cs c ≡ true
  unfolding component_fits
  place c z b =
      let e : eqb c 0 ≡ false = ne_eqb c 0 (λ d. omega arith) in
      ap (λ t. cond t (root_fields (component_at cs c)) (place_fits cs c)) (sym e) ∙ and_right (kind_fields (component_at cs c)) _ (h c b)

  -- "Any other parent is an earlier coupled component. At most 8 ancestors."
  pub rooted : Rooted cs
  unfolding place_fits par
  rooted = record {
    root_coupled = not-atomic cs 0 root-kind;
    parent_below = λ c z b. ltb-true (par cs c) c (and_left (ltb (par cs c) c) _ (and_left (ltb (par cs c) c && eqb (component_at cs (par cs c)).kind 0) _ (place c z b)));
    parent_coupled = λ c z b.
        not-atomic cs (par cs c) (eqb-true _ 0 (and_right (ltb (par cs c) c) _ (and_left (ltb (par cs c) c && eqb (component_at cs (par cs c)).kind 0) _ (place c z b))));
  }

  pub near-root : (c : ℕ) → c < length cs → root_within max_ancestors cs c ≡ true
  unfolding place_fits par
  near-root zero b = unfold root_within in refl
  near-root (suc c) b = and_right (ltb (par cs (suc c)) (suc c) && eqb (component_at cs (par cs (suc c))).kind 0) _ (place (suc c) (omega arith) b)

  pub atomic-fields : (c : ℕ) → is_atomic cs c ≡ true → atomic_fields (component_at cs c) ≡ true
  unfolding is_atomic
  atomic-fields c e = kinds (component_at cs c) (kind-fields c (atomic-below cs c e)) true e

  coupled-fields : (c : ℕ) → is_atomic cs c ≡ false → coupled_fields (component_at cs c) ≡ true
  unfolding is_atomic component_at
  coupled-fields c e = go (ltb c (length cs)) refl
    where
      go : (t : Bool) → ltb c (length cs) ≡ t → coupled_fields (component_at cs c) ≡ true
      go true f = kinds (component_at cs c) (kind-fields c (ltb-true c (length cs) f)) false e
      go false f = ap coupled_fields (get_or-eq_default cs no_component (ltb-false c (length cs) f)) ∙ none-coupled

  -- a coupled component has no phases
  pub no-phases : (c : ℕ) → is_atomic cs c ≡ false → (component_at cs c).phases ≡ 0
  unfolding coupled_fields
  no-phases c e =
      let k = component_at cs c in
      eqb-true k.phases 0 (and_left (eqb k.phases 0) _ (and_left (eqb k.phases 0 && eqb k.initial 0) _ (coupled-fields c e)))

  -- ---- the atomics and the leaves

  pub atomic-once : (c : ℕ) → is_atomic cs c ≡ true → occurs c (atomics cs) ≡ 1
  unfolding atomics
  atomic-once c e = kept-once (is_atomic cs) c 0 (length cs) (omega arith) (let k = atomic-below cs c e in omega arith) e

  pub atomics-atomic : all (is_atomic cs) (atomics cs) ≡ true
  unfolding atomics
  atomics-atomic = all_keep (is_atomic cs) (up_from 0 (length cs))

  -- every leaf of the tree is an atomic
  leaves_at : (fuel r : ℕ) → r < length cs → length cs ≤ fuel + r → all (is_atomic cs) (leaves_t (tree_at fuel cs r)) ≡ true
  unfolding tree_at leaves_t all children
  leaves_at zero r b g = absurd (omega arith)
  leaves_at (suc fuel) r b g = go (is_atomic cs r) refl (λ d k. leaves_at fuel d k)
    where
      go : (t : Bool) → is_atomic cs r ≡ t → ((d : ℕ) → d < length cs → length cs ≤ fuel + d → all (is_atomic cs) (leaves_t (tree_at fuel cs d)) ≡ true)
          → all (is_atomic cs) (leaves_t (cond (is_atomic cs r) (leaf r) (node r (forest (map (λ d. tree_at fuel cs d) (children cs r)))))) ≡ true
      go true f ih = rw (f, f)
      go false f ih =
          rw f (forest-all (is_atomic cs) (λ d. is_child cs r d && (leb 0 d && ltb d (0 + length cs))) (λ d. tree_at fuel cs d) (children cs r)
          (kept-tests (is_child cs r) 0 (length cs))
          (λ d e.
          let q = ltb-true d (0 + length cs) (and_right (leb 0 d) _ (and_right (is_child cs r d) _ e)) in
          let p = child-above cs rooted r d (and_left (is_child cs r d) _ e) (omega arith) in
          ih d (omega arith) (omega arith)))

  pub leaves-atomic : all (is_atomic cs) (leaves_t (tree_at (suc (length cs)) cs 0)) ≡ true
  leaves-atomic = leaves_at (suc (length cs)) 0 l (omega arith)

  apart : (a c : ℕ) → is_atomic cs a ≡ false → is_atomic cs c ≡ true → eqb a c ≡ false
  apart a c e f = ne_eqb a c (λ d. clash f (ap (is_atomic cs) (sym d) ∙ e))

  pub atomic-most : (a : ℕ) → occurs a (atomics cs) ≤ 1
  atomic-most a = go (is_atomic cs a) refl
    where
      go : (t : Bool) → is_atomic cs a ≡ t → occurs a (atomics cs) ≤ 1
      go true e = omega (arith, atomic-once a e)
      go false e = omega (arith, count_none (is_atomic cs) (λ c. eqb a c) (atomics cs) atomics-atomic (λ c. apart a c e))

  pub leaf-occurs : (a : ℕ) → occurs a (leaves_t (tree_at (suc (length cs)) cs 0)) ≡ occurs a (atomics cs)
  leaf-occurs a = go (is_atomic cs a) refl
    where
      ls : List ℕ
      ls = leaves_t (tree_at (suc (length cs)) cs 0)

      go : (t : Bool) → is_atomic cs a ≡ t → occurs a ls ≡ occurs a (atomics cs)
      go true e = leaf-once cs rooted a e (atomic-below cs a e) ∙ sym (atomic-once a e)
      go false e =
          count_none (is_atomic cs) (λ c. eqb a c) ls leaves-atomic (λ c. apart a c e)
          ∙ sym (count_none (is_atomic cs) (λ c. eqb a c) (atomics cs) atomics-atomic (λ c. apart a c e))

  -- the leaves are the atomics, in another order
  pub leaves-perm : Permᴰ (leaves_t (tree_at (suc (length cs)) cs 0)) (atomics cs)
  leaves-perm = points-perm eqb (λ a b. eqb-true a b) (λ a. eq-eqb a a refl) _ _ leaf-occurs

-- the parts of the root
unfoldable pub parts_of_root : Model → Forest
parts_of_root m = forest (map (λ d. tree_at (length m.components) m.components d) (children m.components 0))

pub tree_shape : (m : Model) → is_atomic m.components 0 ≡ false → tree m ≡ node 0 (parts_of_root m)
unfolding tree tree_at parts_of_root
tree_shape m e = rw e

-- the root's tree, node by node
abbrev pub root : Model → Tree
root m = node 0 (parts_of_root m)

module _ (m : Model) (w : WellFormed m) where
  pub shape : tree m ≡ root m
  shape = tree_shape m (rooted m.components w.components.fit w.some_component).root_coupled

  pub leaves : all (is_atomic m.components) (leaves_t (root m)) ≡ true
  unfolding tree
  leaves = ap (λ t. all (is_atomic m.components) (leaves_t t)) (sym shape) ∙ leaves-atomic m.components w.components.fit w.some_component

  pub root-occurs : (a : ℕ) → occurs a (leaves_t (root m)) ≡ occurs a (atomics m.components)
  unfolding tree
  root-occurs a = ap (λ t. occurs a (leaves_t t)) (sym shape) ∙ leaf-occurs m.components w.components.fit w.some_component a
