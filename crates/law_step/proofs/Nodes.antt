-- The ports of a model as nodes, and the pulled account on them. The couplings that end at a node, summed over, are those that the nest's own
-- account translates by: from children at an output, from siblings and the parent at an input. Assumes nothing.
use mathlib.Core.Path.{◌≡◌, refl, sym, ap, ◌∙◌}
use Prim.Native.Nat.{ℕ, ◌+◌}
use mathlib.Core.List.{List, map}
use mathlib.Core.Bool.{Bool, true, false, ◌&&◌, ◌||◌, not, cond}
use native.Mathlib.Omega.{arith}
use native.Mathlib.Nat.{add-zero, zero-add}
use lib.Dec.{eqb, ltb}
use lib.ListN.{length}
use borrow.Author.Tests.{eqb-true, eq-eqb, ne_eqb, lt-ltb, not-true}
use Rattle.definition.specs.Lists.{all, keep}
use Rattle.definition.specs.Model.{Bag, Component, Coupling, Model, component_at, is_atomic, is_child, is_sibling, leaf}
use Rattle.definition.specs.Pinned.Decoder.{related, coupling_fields}
use Rattle.definition.specs.SavedRun.{Entry}
use Rattle.law_base.proofs.Tests.{clash, and_left, and_right, refuted, or-first, or-second}
use Rattle.law_base.proofs.Sums.{sum_of, sum-map, sum-keep}
use Rattle.law_base.proofs.Lists.{sum-cong-if}
use Rattle.law_nest.proofs.Nest.{out_due}
use Rattle.spec_step.specs.Pull.{coupled_out, input_in}
use Rattle.spec_step.specs.Put.{values_on}
use Rattle.law_routes.specs.Ways.{Rising}
use Rattle.law_model.proofs.WellFormed.{kept}

-- A port of a component, for its output or its input.
pub record Node : Type 0 where
  pub component : ℕ
  pub port : ℕ
  pub output : Bool

abbrev pub inn : ℕ → ℕ → Node
inn c q = record { component = c; port = q; output = false }

abbrev pub out : ℕ → ℕ → Node
out c q = record { component = c; port = q; output = true }

-- Where a coupling begins, and whether it ends at a node.
unfoldable pub source_node : List Component → Coupling → Node
source_node cs k = record { component = k.source; port = k.source_port; output = not (is_child cs k.source k.target) }

unfoldable pub ends_at : List Component → Node → Coupling → Bool
ends_at cs x k =
    eqb k.target x.component && eqb x.port k.target_port && cond x.output (is_child cs k.target k.source) (not (is_child cs k.target k.source))

-- The nodes that lead to a node, in file order.
unfoldable pub rows_at : Model → Node → List Node
rows_at m x = map (source_node m.components) (keep (ends_at m.components x) m.couplings)

unfoldable pub atomic_at : Model → Node → Bool
atomic_at m x = is_atomic m.components x.component

-- The values that an atomic that is due puts out there.
unfoldable pub sent_at : Model → (ℕ → Entry) → ℕ → Node → List ℕ
sent_at m at now x = values_on x.port (out_due m at now (leaf x.component))

unfoldable pub given_at : Bag → Node → List ℕ
given_at x y = values_on y.port x

unfoldable pub root_at : Node → Bool
root_at y = eqb y.component 0

unfoldable pub output_at : Node → Bool
output_at y = y.output

-- What is pulled from an output port of a coupled component, and from an input port.
abbrev pub pulled_out : Model → (ℕ → Entry) → ℕ → ℕ → Node → List ℕ
pulled_out m at now d = coupled_out (rows_at m) (atomic_at m) (sent_at m at now) d

abbrev pub pulled_in : Model → (ℕ → Entry) → ℕ → Bag → ℕ → Node → List ℕ
pulled_in m at now x d = input_in (rows_at m) (atomic_at m) (sent_at m at now) (given_at x) root_at output_at d

-- ---- sums over rows

rows-sum : (m : Model) (f : Node → ℕ) (x : Node)
    → sum_of f (rows_at m x) ≡ sum_of (λ k. cond (ends_at m.components x k) (f (source_node m.components k)) 0) m.couplings
unfolding rows_at
rows-sum m f x = sum-map f (source_node m.components) (keep (ends_at m.components x) m.couplings) ∙ sum-keep _ (ends_at m.components x) m.couplings

pub child-parent : (cs : List Component) (c d : ℕ) → is_child cs c d ≡ true → (component_at cs d).parent ≡ c
unfolding is_child
child-parent cs c d h = eqb-true (component_at cs d).parent c (and_right (not (eqb d 0)) (eqb (component_at cs d).parent c) h)

pub own-child : (cs : List Component) (c : ℕ) → eqb c 0 ≡ false → is_child cs (component_at cs c).parent c ≡ true
unfolding is_child
own-child cs c h = rw (h, eq-eqb (component_at cs c).parent (component_at cs c).parent refl)

-- siblings have one parent
sibling-up : (cs : List Component) (s t : ℕ) → is_sibling cs s t ≡ true → is_child cs (component_at cs t).parent s ≡ true
unfolding is_sibling
sibling-up cs s t h =
    let a = and_right (not (eqb s t) && not (eqb s 0)) (is_child cs (component_at cs s).parent t) h in
    let n = and_right (not (eqb s t)) (not (eqb s 0)) (and_left (not (eqb s t) && not (eqb s 0)) (is_child cs (component_at cs s).parent t) h) in
    let p = child-parent cs (component_at cs s).parent t a in
    rw p (own-child cs s (not-true (eqb s 0) n))

module _ (cs : List Component) (rising : Rising cs) (f : Node → ℕ) where
  -- one coupling that ends at c, where q is its port
  module _ (k : Coupling) (fits : coupling_fields cs k ≡ true) where
    -- at an output: the children's outputs
    out_one : (b : Bool) → is_child cs k.target k.source ≡ b
        → cond b (f (source_node cs k)) 0 ≡ cond (b && ltb k.source (length cs)) (f (out k.source k.source_port)) 0
    unfolding source_node
    out_one true e =
        let i = kept cs k fits in
        let n : is_child cs k.source k.target ≡ false
        = refuted (is_child cs k.source k.target) (λ g. omega (arith, rising k.source k.target g i.target, rising k.target k.source e i.source)) in
        rw (n, lt-ltb k.source (length cs) i.source)
    out_one false e = refl

    up : ℕ
    up = (component_at cs k.target).parent

    -- at an input: the siblings' outputs and the parent's inputs
    in_one : eqb k.target 0 ≡ false → (a b : Bool) → is_child cs k.target k.source ≡ a → is_child cs k.source k.target ≡ b
        → cond (not a) (f (record { component = k.source; port = k.source_port; output = not b })) 0
        ≡ cond (is_child cs up k.source && ltb k.source (length cs)) (f (out k.source k.source_port)) 0 + cond (eqb k.source up) (f (inn up k.source_port)) 0
    unfolding up
    in_one z true b e g =
        let i = kept cs k fits in
        let lower = rising (component_at cs k.target).parent k.target (own-child cs k.target z) i.target in
        let higher = rising k.target k.source e i.source in
        let u : is_child cs (component_at cs k.target).parent k.source ≡ false
        = refuted _ (λ h. omega (arith, child-parent cs _ k.source h, child-parent cs k.target k.source e)) in
        rw (u, ne_eqb k.source (component_at cs k.target).parent (omega arith))
    in_one z false true e g =
        let i = kept cs k fits in
        let same = child-parent cs k.source k.target g in
        let u : is_child cs (component_at cs k.target).parent k.source ≡ false
        = refuted _ (λ h. omega (arith, rising _ k.source h i.source)) in
        rw (u, eq-eqb k.source (component_at cs k.target).parent (sym same), zero-add) (ap (λ c. f (inn c k.source_port)) (sym same))
    in_one z false false e g =
        let i = kept cs k fits in
        let r = or-second _ _ (one_of i.kin e) g in
        let u = sibling-child r in
        let n : eqb k.source (component_at cs k.target).parent ≡ false
        = ne_eqb k.source _ (λ h. clash (ap (λ c. is_child cs c k.target) h ∙ own-child cs k.target z) g) in
        rw (u, lt-ltb k.source (length cs) i.source, n, add-zero)
      where
        one_of : related cs k.source k.target ≡ true → is_child cs k.target k.source ≡ false
            → is_child cs k.source k.target || is_sibling cs k.source k.target ≡ true
        one_of h e = unfold related in (or-first (is_child cs k.source k.target || is_sibling cs k.source k.target) (is_child cs k.target k.source) h e)

        sibling-child : is_sibling cs k.source k.target ≡ true → is_child cs (component_at cs k.target).parent k.source ≡ true
        sibling-child h = sibling-up cs k.source k.target h

-- ---- all of them

module _ (m : Model) (rising : Rising m.components) (fit : all (coupling_fields m.components) m.couplings ≡ true) (f : Node → ℕ) where
  pub out-rows : (c q : ℕ) → sum_of f (rows_at m (out c q))
      ≡ sum_of (λ k. cond (eqb k.target c && eqb q k.target_port && (is_child m.components c k.source && ltb k.source (length m.components))) (f (out k.source k.source_port)) 0) m.couplings
  unfolding ends_at
  out-rows c q =
      rows-sum m f (out c q)
      ∙ sum-cong-if (coupling_fields m.components) _ _ m.couplings fit (λ k h. go k h (eqb k.target c) (eqb q k.target_port) refl)
    where
      go : (k : Coupling) → coupling_fields m.components k ≡ true → (a b : Bool) → eqb k.target c ≡ a
          → cond (a && b && is_child m.components k.target k.source) (f (source_node m.components k)) 0
          ≡ cond (a && b && (is_child m.components c k.source && ltb k.source (length m.components))) (f (out k.source k.source_port)) 0
      go k h true true e =
          out_one m.components rising f k h (is_child m.components k.target k.source) refl
          ∙ ap (λ d. cond (is_child m.components d k.source && ltb k.source (length m.components)) (f (out k.source k.source_port)) 0) (eqb-true k.target c e)
      go k h true false e = refl
      go k h false b e = refl

  pub in_rows : (c q : ℕ) → eqb c 0 ≡ false → sum_of f (rows_at m (inn c q))
      ≡ sum_of (λ k. cond (eqb k.target c && eqb q k.target_port
      && (is_child m.components (component_at m.components c).parent k.source && ltb k.source (length m.components))) (f (out k.source k.source_port)) 0
      + cond (eqb k.source (component_at m.components c).parent && eqb k.target c && eqb q k.target_port) (f (inn (component_at m.components c).parent k.source_port)) 0) m.couplings
  unfolding ends_at
  in_rows c q z =
      rows-sum m f (inn c q)
      ∙ sum-cong-if (coupling_fields m.components) _ _ m.couplings fit (λ k h. go k h (eqb k.target c) (eqb q k.target_port) refl)
    where
      no_both : (a : Bool) (n : ℕ) → cond (a && false) n 0 ≡ 0
      no_both true n = refl
      no_both false n = refl

      both : (a : Bool) (n : ℕ) → cond (a && true && true) n 0 ≡ cond a n 0
      both true n = refl
      both false n = refl

      go : (k : Coupling) → coupling_fields m.components k ≡ true → (a b : Bool) → eqb k.target c ≡ a
          → cond (a && b && not (is_child m.components k.target k.source)) (f (source_node m.components k)) 0
          ≡ cond (a && b && (is_child m.components (component_at m.components c).parent k.source && ltb k.source (length m.components))) (f (out k.source k.source_port)) 0
          + cond (eqb k.source (component_at m.components c).parent && a && b) (f (inn (component_at m.components c).parent k.source_port)) 0
      go k h true true e = at_target k h (eqb-true k.target c e)
        where
          at_target : (k : Coupling) → coupling_fields m.components k ≡ true → k.target ≡ c
              → cond (not (is_child m.components k.target k.source)) (f (source_node m.components k)) 0
              ≡ cond (is_child m.components (component_at m.components c).parent k.source && ltb k.source (length m.components)) (f (out k.source k.source_port)) 0
              + cond (eqb k.source (component_at m.components c).parent && true && true) (f (inn (component_at m.components c).parent k.source_port)) 0
          at_target k h e =
              unfold source_node up in
              (in_one m.components rising f k h (ap (λ d. eqb d 0) e ∙ z) _ _ refl refl
              ∙ ap (λ d. cond (is_child m.components (component_at m.components d).parent k.source && ltb k.source (length m.components)) (f (out k.source k.source_port)) 0
              + cond (eqb k.source (component_at m.components d).parent) (f (inn (component_at m.components d).parent k.source_port)) 0) e
              ∙ ap (λ n. cond (is_child m.components (component_at m.components c).parent k.source && ltb k.source (length m.components)) (f (out k.source k.source_port)) 0 + n)
              (sym (both (eqb k.source (component_at m.components c).parent) _)))
      go k h true false e = rw (no_both (eqb k.source (component_at m.components c).parent && true) (f (inn (component_at m.components c).parent k.source_port)))
      go k h false b e = rw (nothing (eqb k.source (component_at m.components c).parent) b (f (inn (component_at m.components c).parent k.source_port)))
        where
          nothing : (a b : Bool) (n : ℕ) → cond (a && false && b) n 0 ≡ 0
          nothing true b n = refl
          nothing false b n = refl
