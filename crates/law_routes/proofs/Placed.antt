-- What the checks of components and couplings let through, as far as ways go: children stand above their parents, parents are coupled,
-- and every coupling joins two ports of kin, the rows by source. Assumes nothing.
use mathlib.Core.Path.{◌≡◌, refl}
use mathlib.Core.List.{List}
use mathlib.Core.Bool.{Bool, true, false, ◌&&◌, ◌||◌, not}
use Prim.Native.Nat.{ℕ, zero, suc, ◌≤◌, ◌<◌}
use native.Mathlib.Omega.{arith}
use lib.Dec.{ltb, eqb}
use lib.ListN.{length, get_or}
use borrow.Author.Tests.{ltb-true, eqb-true, eqb-false, ne_eqb}
use Rattle.definition.specs.Lists.{all, lex_le}
use Rattle.definition.specs.Limits.{max_ancestors}
use Rattle.definition.specs.Model.{Component, Coupling, component_at, no_coupling, is_atomic, is_child, coupling_le, coupling_row}
use Rattle.definition.specs.Pinned.Decoder.{kind_fields, root_within, place_fits, component_fits, coupling_fields, not_falling, coupling_fits}
use Rattle.law_base.proofs.Tests.{clash, and_left, and_right}
use Rattle.law_base.proofs.Lists.{all-places}
use Rattle.law_routes.specs.Ways.{Rising}
use Rattle.law_model.proofs.WellFormed.{Kept, kept}

-- ---- components

module _ (cs : List Component) (fit : (i : ℕ) → i < length cs → component_fits cs i ≡ true) where
  pub parents : (i : ℕ) → 0 < i → i < length cs → ((component_at cs i).parent < i) × (is_atomic cs (component_at cs i).parent ≡ false)
  unfolding component_fits place_fits is_atomic
  parents i h l =
      let k = component_at cs i in
      let f : (kind_fields k && (ltb k.parent i && eqb (component_at cs k.parent).kind 0 && root_within max_ancestors cs i)) ≡ true = rw (ne_eqb i 0 (omega arith)) at (fit i l) in
      let p = and_left (ltb k.parent i && eqb (component_at cs k.parent).kind 0) _ (and_right (kind_fields k) _ f) in
      let q : (component_at cs k.parent).kind ≡ 0 = eqb-true _ _ (and_right (ltb k.parent i) _ p) in
      (ltb-true _ _ (and_left (ltb k.parent i) _ p), rw q)

  child-of : (c d : ℕ) → is_child cs c d ≡ true → (0 < d) × ((component_at cs d).parent ≡ c)
  unfolding is_child
  child-of c zero e = absurd (clash e refl)
  child-of c (suc d) e = (omega arith, eqb-true _ _ (and_right (not (eqb (suc d) 0)) _ e))

  pub rising : Rising cs
  rising c d e l = let a = child-of c d e in let b = parents d a.0 l in omega arith

  pub coupled-parents : (c d : ℕ) → is_child cs c d ≡ true → d < length cs → is_atomic cs c ≡ false
  coupled-parents c d e l = let a = child-of c d e in rw (← a.1) (parents d a.0 l).1

-- ---- couplings

le-source : (k l : Coupling) → coupling_le k l ≡ true → k.source ≤ l.source
unfolding coupling_le coupling_row lex_le
le-source k l e = go (ltb k.source l.source) refl (eqb k.source l.source) refl e
  where
    rest : Bool
    rest = ltb k.source_port l.source_port
        || (eqb k.source_port l.source_port && (ltb k.target l.target
        || (eqb k.target l.target && (ltb k.target_port l.target_port || (eqb k.target_port l.target_port && true)))))

    go : (a : Bool) → ltb k.source l.source ≡ a → (b : Bool) → eqb k.source l.source ≡ b → (a || (b && rest)) ≡ true → k.source ≤ l.source
    go true f b g e = let h = ltb-true k.source l.source f in omega arith
    go false f true g e = let h = eqb-true k.source l.source g in omega arith
    go false f false g e = absurd (clash e refl)

module _ (cs : List Component) (ks : List Coupling) (fit : (i : ℕ) → i < length ks → coupling_fits cs ks i ≡ true) where
  pub couplings-keep : all (coupling_fields cs) ks ≡ true
  unfolding coupling_fits
  couplings-keep = all-places (coupling_fields cs) no_coupling ks (λ i l. and_left _ _ (fit i l))

  pub kept_at : (i : ℕ) → i < length ks → Kept cs (get_or ks i no_coupling)
  unfolding coupling_fits
  kept_at i l = kept cs (get_or ks i no_coupling) (and_left _ _ (fit i l))

  -- Rows stand by their source.
  pub by-source : (a b : ℕ) → a ≤ b → b < length ks → (get_or ks a no_coupling).source ≤ (get_or ks b no_coupling).source
  unfolding coupling_fits not_falling
  by-source a zero h l = let e : a ≡ 0 = omega arith in rw e (omega arith)
  by-source a (suc b) h l = go (eqb a (suc b)) refl (λ w. by-source a b w (omega arith))
    where
      go : (t : Bool) → eqb a (suc b) ≡ t → (a ≤ b → (get_or ks a no_coupling).source ≤ (get_or ks b no_coupling).source) → (get_or ks a no_coupling).source ≤ (get_or ks (suc b) no_coupling).source
      go true e ih = let f = eqb-true a (suc b) e in rw f (omega arith)
      go false e ih =
          let n = eqb-false a (suc b) e in
          let s = le-source (get_or ks b no_coupling) (get_or ks (suc b) no_coupling) (and_right (coupling_fields cs (get_or ks (suc b) no_coupling)) _ (fit (suc b) l)) in
          omega (arith, ih (omega arith))
