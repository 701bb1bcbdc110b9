-- What the lines for a coupling give: ports that there are, and no coupling from a component to itself. Ways are followed by these.
-- Assumes nothing.
use mathlib.Core.Path.{◌≡◌, refl, sym, ◌∙◌}
use Prim.Native.Nat.{ℕ, zero, suc, ◌<◌}
use mathlib.Core.List.{List, [], ◌∷◌}
use mathlib.Core.Bool.{Bool, true, false, ◌&&◌, ◌||◌, not, cond, and-false}
use native.Mathlib.Omega.{arith}
use lib.Dec.{ltb, eqb}
use lib.ListN.{length}
use borrow.Author.Tests.{eqb-true, eqb-false, eq-eqb, ne_eqb, lt-ltb}
use Rattle.definition.specs.Lists.{all}
use Rattle.definition.specs.Model.{Coupling, Component, is_child, is_sibling, component_at}
use Rattle.definition.specs.Routes.{ports_to}
use Rattle.definition.specs.Pinned.Decoder.{coupling_fields, related}
use Rattle.definition.specs.Limits.{port_count}
use Rattle.law_base.proofs.Tests.{clash, and_left, and_right, and-true}
use Rattle.law_nest.proofs.Kin.{par, Rooted}
use Rattle.law_model.proofs.WellFormed.{kept}

-- ---- the couplings of a sound model

module _ (cs : List Component) (w : Rooted cs) where
  own : (c d : ℕ) → c ≡ d → c < length cs → is_child cs c d ≡ false
  unfolding is_child par
  own zero d e l = rw (← e)
  own (suc c) d e l =
      let p = w.parent_below (suc c) (omega arith) l in
      rw (← e, ne_eqb (component_at cs (suc c)).parent (suc c) (λ q. omega arith)) (and-false (not (eqb (suc c) 0)))

  alone : (c d : ℕ) → c ≡ d → is_sibling cs c d ≡ false
  unfolding is_sibling
  alone c d e = rw (eq-eqb c d e)

  -- no coupling joins a component to itself
  pub not-self : (k : Coupling) → coupling_fields cs k ≡ true → eqb k.source k.target ≡ false
  unfolding related
  not-self k h =
      let f = kept cs k h in
      ne_eqb k.source k.target
      (λ e. three _ _ _ (own k.source k.target e f.source) (alone k.source k.target e) (own k.target k.source (sym e) f.target) f.kin)
    where
      three : (x y z : Bool) → x ≡ false → y ≡ false → z ≡ false → x || y || z ≡ true → ⊥
      three x y z e f g h = clash h (rw (e, f, g))

  pub to-self : (ks : List Coupling) → all (coupling_fields cs) ks ≡ true → (i n : ℕ) → ports_to ks i i n ≡ []
  unfolding all ports_to
  to-self [] h i n = refl
  to-self (k ∷ ks) h i n = go (eqb k.source i) refl (eqb k.target i) refl (to-self ks (and_right (coupling_fields cs k) _ h) i n)
    where
      go : (a : Bool) → eqb k.source i ≡ a → (b : Bool) → eqb k.target i ≡ b → ports_to ks i i n ≡ []
          → cond (eqb k.source i && eqb k.target i && eqb k.source_port n) (k.target_port ∷ ports_to ks i i n) (ports_to ks i i n) ≡ []
      go false e b f ih = rw e ih
      go true e false f ih = rw (e, f) ih
      go true e true f ih =
          absurd (eqb-false k.source k.target (not-self k (and_left (coupling_fields cs k) _ h)) (eqb-true k.source i e ∙ sym (eqb-true k.target i f)))

  pub ports-reached : (ks : List Coupling) → all (coupling_fields cs) ks ≡ true → (i d n : ℕ) → all (λ r. ltb r port_count) (ports_to ks i d n) ≡ true
  unfolding all ports_to
  ports-reached [] h i d n = refl
  ports-reached (k ∷ ks) h i d n =
      go (eqb k.source i && eqb k.target d && eqb k.source_port n) (ports-reached ks (and_right (coupling_fields cs k) _ h) i d n)
    where
      go : (b : Bool) → all (λ r. ltb r port_count) (ports_to ks i d n) ≡ true → all (λ r. ltb r port_count) (cond b (k.target_port ∷ ports_to ks i d n) (ports_to ks i d n)) ≡ true
      go true ih = and-true _ _ (lt-ltb k.target_port port_count (kept cs k (and_left (coupling_fields cs k) _ h)).target_port_lem) ih
      go false ih = ih
