-- The order of rows by source is the order in which two passes reach every node: a coupling to an output goes up, one from an input goes
-- down. Assumes nothing.
use mathlib.Core.Path.{◌≡◌, refl, sym, ap, ◌∙◌}
use Prim.Native.Nat.{ℕ, ◌-◌, ◌<◌, ◌≤◌}
use mathlib.Core.List.{List}
use mathlib.Core.Bool.{Bool, true, false, not}
use native.Mathlib.Omega.{arith}
use lib.ListN.{length, get_or}
use Rattle.definition.specs.Model.{Component, Coupling, no_coupling, is_child}
use Rattle.definition.specs.Pinned.Decoder.{coupling_fits}
use Rattle.law_base.proofs.Tests.{clash}
use Rattle.law_routes.specs.Nodes.{source_number, target_number}
use Rattle.law_routes.specs.Ways.{Rising}
use Rattle.law_routes.proofs.Placed.{by-source}
use Rattle.law_model.proofs.WellFormed.{Kept}
use Rattle.spec_step.specs.Tables.{node_component, is_output}
use Rattle.table_couplings.specs.declared.End.TheVariants.{Source, Target}
use Rattle.table_couplings.specs.Links.{link_end}
use Rattle.table_couplings.proofs.Nodes.{source-component, target-component, source-side, target-side, kept-link}

module _ (cs : List Component) (k : Coupling) (w : Kept cs k) (rising : Rising cs) where
  -- a coupling to an output goes up
  goes-up : is_output (target_number cs k) ≡ true → k.target < k.source
  goes-up e = rising k.target k.source (sym (target-side cs k w) ∙ e) w.source

  -- a coupling from an input goes down
  goes_down : is_output (source_number cs k) ≡ false → k.source < k.target
  goes_down e = go (is_child cs k.source k.target) refl (sym (source-side cs k w) ∙ e)
    where
      go : (b : Bool) → is_child cs k.source k.target ≡ b → not b ≡ false → k.source < k.target
      go true h z = rising k.source k.target h w.target
      go false h z = absurd (clash refl z)

module _ (cs : List Component) (ks : List Coupling) (rising : Rising cs) (fit : (i : ℕ) → i < length ks → coupling_fits cs ks i ≡ true) where
  pub up-order : (i j : ℕ) → 0 < i → i ≤ j → j ≤ length ks → is_output (link_end Source cs ks j) ≡ true → link_end Source cs ks j ≡ link_end Target cs ks i → ⊥
  unfolding link_end
  up-order i j a b h o e =
      let k = get_or ks (i - 1) no_coupling in
      let l = get_or ks (j - 1) no_coupling in
      let v = kept-link cs ks fit i a (omega arith) in
      let w = kept-link cs ks fit j (omega arith) h in
      let c = sym (source-component cs l w) ∙ ap node_component e ∙ target-component cs k v in
      omega (arith, goes-up cs k v rising (sym (ap is_output e) ∙ o), by-source cs ks fit (i - 1) (j - 1) (omega arith) (omega arith), c)

  pub down-order : (i j : ℕ) → 0 < j → j ≤ i → i ≤ length ks → is_output (link_end Source cs ks i) ≡ false → link_end Source cs ks j ≡ link_end Target cs ks i → ⊥
  unfolding link_end
  down-order i j a b h o e =
      let k = get_or ks (i - 1) no_coupling in
      let l = get_or ks (j - 1) no_coupling in
      let v = kept-link cs ks fit i (omega arith) h in
      let w = kept-link cs ks fit j a (omega arith) in
      let c = sym (source-component cs l w) ∙ ap node_component e ∙ target-component cs k v in
      omega (arith, goes_down cs k v rising o, by-source cs ks fit (j - 1) (i - 1) (omega arith) (omega arith), c)

  pub down-input : (i : ℕ) → 0 < i → i ≤ length ks → is_output (link_end Source cs ks i) ≡ false → is_output (link_end Target cs ks i) ≡ false
  unfolding link_end
  down-input i a b o = go (is_output (target_number cs (get_or ks (i - 1) no_coupling))) refl
    where
      go : (q : Bool) → is_output (target_number cs (get_or ks (i - 1) no_coupling)) ≡ q → q ≡ false
      go true e =
          let k = get_or ks (i - 1) no_coupling in
          let v = kept-link cs ks fit i a b in
          absurd (omega (arith, goes-up cs k v rising e, goes_down cs k v rising o))
      go false e = refl
