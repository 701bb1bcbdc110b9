-- The routes of a model whose atomics all stand under the root are its couplings, in another order: any weight sums to the same over both.
-- So the flat form has no more routes than couplings, and flattening it again gives the same rows. Assumes nothing.
use mathlib.Core.Path.{◌≡◌, refl, sym, ap, ap₂, ◌∙◌}
use mathlib.Core.Logic.{◌⊎◌, inl, inr}
use Prim.Native.Nat.{ℕ, ◌+◌, ◌<◌}
use mathlib.Core.List.{List, [], ◌∷◌, ◌++◌, map, Permᴰ}
use mathlib.Core.Bool.{Bool, true, false, ◌&&◌, cond}
use native.Mathlib.Omega.{arith}
use native.Mathlib.Nat.{add-zero}
use lib.Dec.{eqb}
use lib.ListN.{length}
use borrow.Author.Tests.{eqb-true, eqb-false, eq-eqb, ne_eqb}
use Rattle.definition.specs.Lists.{concat, up_from}
use Rattle.definition.specs.Limits.{port_count}
use Rattle.definition.specs.Model.{Component, Coupling, Model, is_atomic, atomics, coupling_le, leaf, node, forest}
use Rattle.definition.specs.Routes.{Port, ports_to, ends_in, ends_from, joined, joined_all, ways_from, ways_from_all, root_ends, routes}
use Rattle.definition.specs.Pinned.Decoder.{coupling_fields}
use Rattle.law_base.proofs.Sorting.{coupling-order}
use Rattle.law_base.proofs.Tests.{clash, and_left, and_right}
use Rattle.law_base.proofs.Sums.{sum_of, sum-append, sum-map, sum-concat, sum-add, sum-cong, sum-swap, sum-if}
use Rattle.law_base.proofs.Bags.{points-perm}
use Rattle.law_base.proofs.Lists.{sum-cong-if, count_none, count-sum}
use Rattle.law_model.proofs.WellFormed.{WellFormed, couplings-fit, kept}
use Rattle.law_nest.proofs.Occurs.{once-up, pick-none, pick-one}
use Rattle.law_nest.proofs.Kin.{Rooted}
use Rattle.law_nest.proofs.Components.{rooted, atomic-once, atomics-atomic, parts_of_root, tree_shape}
use Rattle.law_nest.proofs.Renumber.{is_listed}
use Rattle.law_flat.proofs.FlatComponents.{listed-cases}
use Rattle.law_flat.proofs.Couplings.{not-self}

-- ---- a weight over the routes, as one over the couplings

module _ (g : Coupling → ℕ) where
  -- a coupling counts where it goes from port n of s to d
  here : ℕ → ℕ → ℕ → Coupling → ℕ
  here s n d k = cond (eqb k.source s) (cond (eqb k.target d) (cond (eqb k.source_port n) (g k) 0) 0) 0

  -- what it gives as a way from s to one of l, and to the root
  across : List ℕ → ℕ → Coupling → ℕ
  across l s k = sum_of (λ n. sum_of (λ d. here s n d k) l) (up_from 0 port_count)

  up : ℕ → Coupling → ℕ
  up s k = sum_of (λ n. here s n 0 k) (up_from 0 port_count)

  -- the ports that couplings reach, as a sum over the couplings
  reached : (s n d : ℕ) (l : List Coupling)
      → sum_of (λ r. g (record { source = s; source_port = n; target = d; target_port = r })) (ports_to l s d n) ≡ sum_of (here s n d) l
  unfolding ports_to sum_of here
  reached s n d [] = refl
  reached s n d (k ∷ l) = go (eqb k.source s) refl (eqb k.target d) refl (eqb k.source_port n) refl (reached s n d l)
    where
      h : ℕ → ℕ
      h r = g (record { source = s; source_port = n; target = d; target_port = r })

      go : (a : Bool) → eqb k.source s ≡ a → (b : Bool) → eqb k.target d ≡ b → (c : Bool) → eqb k.source_port n ≡ c
          → sum_of h (ports_to l s d n) ≡ sum_of (here s n d) l
          → sum_of h (cond (a && b && c) (k.target_port ∷ ports_to l s d n) (ports_to l s d n)) ≡ cond a (cond b (cond c (g k) 0) 0) 0 + sum_of (here s n d) l
      go true e true f true i ih =
          let p = eqb-true k.source s e in
          let q = eqb-true k.source_port n i in
          let r = eqb-true k.target d f in
          ap₂ ◌+◌ (sym (ap g (λ j. record { source = p j; source_port = q j; target = r j; target_port = k.target_port }))) ih
      go true e true f false i ih = omega arith
      go true e false f c i ih = omega arith
      go false e b f c i ih = omega arith

  joined-sum : (c : ℕ) (ends : ℕ → List Port) → sum_of g (joined_all c ends) ≡ sum_of (λ n. sum_of (λ e. g (joined c n e)) (ends n)) (up_from 0 port_count)
  unfolding joined_all
  joined-sum c ends = sum-concat g (λ n. map (joined c n) (ends n)) (up_from 0 port_count) ∙ sum-cong _ _ (up_from 0 port_count) (λ n. sum-map g (joined c n) (ends n))

  module _ (ks : List Coupling) where
    -- the ends at the component d alone
    single-sum : (s n d : ℕ) (end : ℕ → List Port) → ((r : ℕ) → end r ≡ record { component = d; port = r } ∷ [])
        → sum_of (λ e. g (joined s n e)) (concat (map end (ports_to ks s d n))) ≡ sum_of (here s n d) ks
    unfolding joined sum_of
    single-sum s n d end one =
        sum-concat (λ e. g (joined s n e)) end (ports_to ks s d n)
        ∙ sum-cong _ _ (ports_to ks s d n) (λ r. ap (sum_of (λ e. g (joined s n e))) (one r) ∙ add-zero _) ∙ reached s n d ks

    ends-sum : (s n : ℕ) (l : List ℕ) → sum_of (λ e. g (joined s n e)) (ends_from ks s (forest (map leaf l)) n) ≡ sum_of (λ d. sum_of (here s n d) ks) l
    unfolding ends_from forest sum_of
    ends-sum s n [] = refl
    ends-sum s n (d ∷ l) =
        sum-append (λ e. g (joined s n e)) (concat (map (λ r. ends_in ks (leaf d) r) (ports_to ks s d n))) (ends_from ks s (forest (map leaf l)) n)
        ∙ ap₂ ◌+◌ (single-sum s n d (λ r. ends_in ks (leaf d) r) (λ r. unfold ends_in in refl)) (ends-sum s n l)

    up-sum : (s n : ℕ) → sum_of (λ e. g (joined s n e)) (concat (map root_ends (ports_to ks s 0 n))) ≡ sum_of (here s n 0) ks
    up-sum s n = single-sum s n 0 root_ends (λ r. unfold root_ends in refl)

    ways-sum : (ends : ℕ → ℕ → List Port) (l : List ℕ) → sum_of g (ways_from_all ks ends (forest (map leaf l))) ≡ sum_of (λ c. sum_of g (joined_all c (ends c))) l
    unfolding ways_from_all forest sum_of
    ways-sum ends [] = refl
    ways-sum ends (c ∷ l) = sum-append g (joined_all c (ends c)) (ways_from_all ks ends (forest (map leaf l))) ∙ ap (λ n. sum_of g (joined_all c (ends c)) + n) (ways-sum ends l)

    module _ (l : List ℕ) where
      abbrev ports : List ℕ
      ports = up_from 0 port_count

      across-sum : (s : ℕ) → sum_of (λ n. sum_of (λ d. sum_of (here s n d) ks) l) (up_from 0 port_count) ≡ sum_of (across l s) ks
      unfolding across
      across-sum s = sum-cong _ _ ports (λ n. sum-swap (λ d k. here s n d k) l ks) ∙ sum-swap (λ n k. sum_of (λ d. here s n d k) l) ports ks

      from-atomic : (c : ℕ) → sum_of g (joined_all c (λ n. ends_from ks c (forest (map leaf l)) n ++ concat (map root_ends (ports_to ks c 0 n)))) ≡ sum_of (λ k. across l c k + up c k) ks
      unfolding up
      from-atomic c =
          joined-sum c _
          ∙ sum-cong _ _ ports (λ n. sum-append (λ e. g (joined c n e)) (ends_from ks c (forest (map leaf l)) n) (concat (map root_ends (ports_to ks c 0 n))) ∙ ap₂ ◌+◌ (ends-sum c n l) (up-sum c n))
          ∙ sum-add _ _ ports ∙ ap₂ ◌+◌ (across-sum c) (sum-swap (λ n k. here c n 0 k) ports ks) ∙ sym (sum-add (across l c) (up c) ks)

      level-sum : sum_of g (joined_all 0 (ends_in ks (node 0 (forest (map leaf l)))) ++ ways_from ks root_ends (node 0 (forest (map leaf l))))
          ≡ sum_of (λ k. across l 0 k + sum_of (λ c. across l c k + up c k) l) ks
      unfolding ends_in ways_from
      level-sum =
          sum-append g (joined_all 0 (ends_from ks 0 (forest (map leaf l)))) (ways_from ks root_ends (node 0 (forest (map leaf l))))
          ∙ ap₂ ◌+◌ (joined-sum 0 (ends_from ks 0 (forest (map leaf l))) ∙ sum-cong _ _ ports (λ n. ends-sum 0 n l) ∙ across-sum 0)
          (ways-sum _ l ∙ sum-cong _ _ l from-atomic ∙ sum-swap (λ c k. across l c k + up c k) l ks)
          ∙ sym (sum-add (across l 0) (λ k. sum_of (λ c. across l c k + up c k) l) ks)

-- ---- each coupling is one route

module _ (m : Model) (w : WellFormed m) (level : parts_of_root m ≡ forest (map leaf (atomics m.components)))
    (known : (c : ℕ) → c < length m.components → is_listed m.components c ≡ true) where
  abbrev cs : List Component
  cs = m.components

  abbrev wood : Rooted m.components
  wood = rooted m.components w.components.fit w.some_component

  -- one of the atomics
  pick-atomic : (h : ℕ → ℕ) (c : ℕ) → sum_of (λ d. cond (eqb c d) (h d) 0) (atomics m.components) ≡ cond (is_atomic m.components c) (h c) 0
  pick-atomic h c = go (is_atomic cs c) refl
    where
      go : (b : Bool) → is_atomic cs c ≡ b → sum_of (λ d. cond (eqb c d) (h d) 0) (atomics cs) ≡ cond b (h c) 0
      go true e = pick-one h c (atomics cs) (atomic-once cs w.components.fit w.some_component c e)
      go false e =
          pick-none h c (atomics cs)
          (count_none (is_atomic cs) (λ d. eqb c d) (atomics cs) (atomics-atomic cs w.components.fit w.some_component)
          (λ d f. ne_eqb c d (λ q. clash f (ap (is_atomic cs) (sym q) ∙ e))))

  module _ (g : Coupling → ℕ) (k : Coupling) (h : coupling_fields m.components k ≡ true) where
    pick-port : sum_of (λ n. cond (eqb k.source_port n) (g k) 0) (up_from 0 port_count) ≡ g k
    pick-port =
        pick-one (λ n. g k) k.source_port (up_from 0 port_count)
        (once-up k.source_port 0 port_count (omega arith) (omega (arith, (kept cs k h).source_port_lem)))

    across-one : (s : ℕ) → across g (atomics m.components) s k ≡ cond (eqb k.source s) (cond (is_atomic m.components k.target) (g k) 0) 0
    unfolding across here
    across-one s =
        let P = up_from 0 port_count in
        sum-cong _ _ P (λ n. sum-if _ (eqb k.source s) (atomics cs) ∙ ap (λ v. cond (eqb k.source s) v 0) (pick-atomic (λ d. cond (eqb k.source_port n) (g k) 0) k.target))
        ∙ sum-if _ (eqb k.source s) P ∙ ap (λ v. cond (eqb k.source s) v 0) (sum-if _ (is_atomic cs k.target) P ∙ ap (λ v. cond (is_atomic cs k.target) v 0) pick-port)

    up_one : (s : ℕ) → up g s k ≡ cond (eqb k.source s) (cond (eqb k.target 0) (g k) 0) 0
    unfolding up here
    up_one s =
        let P = up_from 0 port_count in
        sum-if _ (eqb k.source s) P ∙ ap (λ v. cond (eqb k.source s) v 0) (sum-if _ (eqb k.target 0) P ∙ ap (λ v. cond (eqb k.target 0) v 0) pick-port)

    -- it begins at the root or at one atomic, and ends likewise, but not at the root both times
    one-route : across g (atomics m.components) 0 k
        + sum_of (λ c. across g (atomics m.components) c k + up g c k) (atomics m.components) ≡ g k
    one-route =
        let f = kept cs k h in
        ap₂ ◌+◌ (across-one 0)
        (sum-cong _ (λ c. cond (eqb k.source c) there 0) (atomics cs) (λ c. ap₂ ◌+◌ (across-one c) (up_one c) ∙ both (eqb k.source c))
        ∙ pick-atomic (λ c. there) k.source)
        ∙ go (listed-cases cs k.source (known k.source f.source)) (listed-cases cs k.target (known k.target f.target))
      where
        there : ℕ
        there = cond (is_atomic cs k.target) (g k) 0 + cond (eqb k.target 0) (g k) 0

        both : (b : Bool) → cond b (cond (is_atomic cs k.target) (g k) 0) 0 + cond b (cond (eqb k.target 0) (g k) 0) 0 ≡ cond b there 0
        both true = refl
        both false = refl

        plain : (c : ℕ) → 0 ≡ c → is_atomic cs c ≡ false
        plain c e = ap (is_atomic cs) (sym e) ∙ wood.root_coupled

        other : (c : ℕ) → is_atomic cs c ≡ true → eqb c 0 ≡ false
        other c e = ne_eqb c 0 (λ q. clash e (plain c (sym q)))

        go : (0 ≡ k.source) ⊎ (is_atomic cs k.source ≡ true) → (0 ≡ k.target) ⊎ (is_atomic cs k.target ≡ true)
            → cond (eqb k.source 0) (cond (is_atomic cs k.target) (g k) 0) 0 + cond (is_atomic cs k.source) there 0 ≡ g k
        go (inl e) (inl f) = absurd (eqb-false k.source k.target (not-self cs wood k h) (sym e ∙ f))
        go (inl e) (inr f) = rw (eq-eqb k.source 0 (sym e), plain k.source e, f) (add-zero (g k))
        go (inr e) (inl f) = rw (other k.source e, e, plain k.target f, eq-eqb k.target 0 (sym f)) (omega arith)
        go (inr e) (inr f) = rw (other k.source e, e, f, other k.target f) (omega arith)

  -- equal rows, by their order
  equal : Coupling → Coupling → Bool
  equal x k = coupling_le x k && coupling_le k x

  equal-same : (x k : Coupling) → equal x k ≡ true → x ≡ k
  unfolding equal
  equal-same x k h = coupling-order.antisym x k (and_left (coupling_le x k) _ h) (and_right (coupling_le x k) _ h)

  equal-refl : (x : Coupling) → equal x x ≡ true
  unfolding equal
  equal-refl x = go (coupling_le x x) refl
    where
      go : (b : Bool) → coupling_le x x ≡ b → coupling_le x x && coupling_le x x ≡ true
      go true e = rw e
      go false e = absurd (clash (coupling-order.total x x e) e)

  routes-sum : (g : Coupling → ℕ) → sum_of g (routes m) ≡ sum_of g m.couplings
  unfolding routes
  routes-sum g =
      let ks = m.couplings in
      ap (λ t. sum_of g (joined_all 0 (ends_in ks t) ++ ways_from ks root_ends t)) (tree_shape m wood.root_coupled ∙ ap (node 0) level)
      ∙ level-sum g ks (atomics cs) ∙ sum-cong-if (coupling_fields cs) _ g ks (couplings-fit m w) (one-route g)

  pub level-routes : Permᴰ (routes m) m.couplings
  level-routes =
      points-perm equal equal-same equal-refl (routes m) m.couplings
      (λ x. count-sum (equal x) (routes m) ∙ routes-sum (λ k. cond (equal x k) 1 0) ∙ sym (count-sum (equal x) m.couplings))
