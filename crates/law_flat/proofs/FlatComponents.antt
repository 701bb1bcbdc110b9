-- The components of the flat form: the root and the atomics, which keep their phases and get numbers below a byte's limit; they keep the
-- lines for components. Assumes nothing.
use mathlib.Core.Path.{◌≡◌, refl, sym, ap, ◌∙◌, fun_ext}
use Prim.Native.Nat.{ℕ, zero, suc, ◌≤◌, ◌<◌}
use mathlib.Core.List.{List, [], ◌∷◌, ◌++◌, map, map-map}
use mathlib.Core.Bool.{Bool, true, false, cond}
use native.Mathlib.Omega.{arith}
use lib.ListN
use lib.ListN.{length, take, get_or, length-map, replicate}
use lib.Seq.{take-length}
use mathlib.Core.Logic.{◌⊎◌, inl, inr}
use lib.Dec.{eqb}
use borrow.Author.Tests.{eqb-true, lt-ltb, ne_eqb}
use Rattle.definition.specs.Lists.{concat, keep, up_from}
use Rattle.definition.specs.Limits.{max_components}
use Rattle.definition.specs.Model.{Component, Model, no_component, component_at, is_atomic, atomics}
use Rattle.definition.specs.Records.{component_bytes}
use Rattle.definition.specs.Pinned.Decoder.{coupled_fields, atomic_fields, kind_fields, component_fits, bounds, to_component, place_fits, root_within, root_fields}
use Rattle.definition.specs.Flatten.{renumbered, flat_atomic, flat_components}
use Rattle.definition.specs.Bytes.{number_at, little_endian, bytes_of, laid_out}
use Rattle.law_base.proofs.Lists.{get_d_map, all-at, length_up, length-keep}
use Rattle.law_model.proofs.WellFormed.{WellFormed, ComponentsFit, Checked}
use Rattle.law_nest.proofs.Places.{place-below, place-most, take-up}
use Rattle.law_nest.proofs.Components.{rooted, atomic-fields, atomics-atomic, no-phases}
use Rattle.law_nest.proofs.Renumber.{is_listed, listed-occurs, flat-component}

-- a record at a place, also past the end, is kept by its bytes
held_at : {A : Type 0} (f : A → A) (xs : List A) (d : A) → map f xs ≡ xs → f d ≡ d → (i : ℕ) → f (get_or xs i d) ≡ get_or xs i d
held_at f xs d h e i = sym (ListN.get_or-map f xs i d) ∙ ap (get_or (map f xs) i) e ∙ ap (λ l. get_or l i d) h

-- ---- the root or an atomic

pub listed-cases : (cs : List Component) (c : ℕ) → is_listed cs c ≡ true → (0 ≡ c) ⊎ (is_atomic cs c ≡ true)
unfolding is_listed
listed-cases cs c h = go (eqb 0 c) refl
  where
    go : (b : Bool) → eqb 0 c ≡ b → (0 ≡ c) ⊎ (is_atomic cs c ≡ true)
    go true e = inl (eqb-true 0 c e)
    go false e = inr (rw e at h)

-- ---- fewer components

-- there is a component that is no atomic
fewer : (cs : List Component) → 0 < length cs → is_atomic cs 0 ≡ false → length (atomics cs) < length cs
unfolding atomics keep up_from
fewer [] l e = absurd (omega arith)
fewer (k ∷ cs) l e = rw e (omega (arith, length-keep (is_atomic (k ∷ cs)) (up_from 1 (length cs)), length_up 1 (length cs)))

-- ---- phase counts: what is left out has none

concat-keep : {A B : Type 0} (f : A → List B) (p : A → Bool) (l : List A) → ((a : A) → p a ≡ false → f a ≡ []) → concat (map f (keep p l)) ≡ concat (map f l)
unfolding concat keep
concat-keep {A} {B} f p [] h = refl
concat-keep {A} {B} f p (a ∷ l) h = go (p a) refl (concat-keep f p l h)
  where
    go : (b : Bool) → p a ≡ b → concat (map f (keep p l)) ≡ concat (map f l) → concat (map f (cond b (a ∷ keep p l) (keep p l))) ≡ f a ++ concat (map f l)
    go true e ih = ap (λ k. f a ++ k) ih
    go false e ih = rw (h a e) ih

module _ (m : Model) (w : WellFormed m) where
  abbrev cs : List Component
  cs = m.components

  abbrev fit : ComponentsFit m.components
  fit = w.components.fit

  abbrev some : 0 < length m.components
  some = w.some_component

  pub few-atomics : length (atomics m.components) < length m.components
  few-atomics = fewer m.components some (rooted m.components fit some).root_coupled

  pub flat-length : length (flat_components m.components) ≡ suc (length (atomics m.components))
  unfolding flat_components
  flat-length = ap suc (length-map (atomics cs) (flat_atomic cs))

  -- the phase counts, as one row each
  pub flat-bounds : bounds (flat_components m.components) ≡ bounds m.components
  unfolding bounds flat_components no_component atomics concat
  flat-bounds =
      let g : ℕ → List ℕ = λ c. replicate (component_at cs c).phases (component_at cs c).phases in
      ap concat (map-map (λ k. replicate k.phases k.phases) (flat_atomic cs) (atomics cs) ∙ same (atomics cs))
      ∙ concat-keep g (is_atomic cs) (up_from 0 (length cs)) (λ c e. ap (λ n. replicate n n) (no-phases cs fit some c e))
      ∙ ap concat (sym (ap (map (λ k. replicate k.phases k.phases)) (sym (take-length cs)) ∙ up (omega arith)))
    where
      same : (l : List ℕ) → map (λ c. replicate (flat_atomic cs c).phases (flat_atomic cs c).phases) l ≡ map (λ c. replicate (component_at cs c).phases (component_at cs c).phases) l
      same l = unfold flat_atomic in refl

      up : length cs ≤ length cs
          → map (λ k. replicate k.phases k.phases) (take (length cs) cs) ≡ map (λ c. replicate (component_at cs c).phases (component_at cs c).phases) (up_from 0 (length cs))
      up h = unfold component_at in (take-up (λ k. replicate k.phases k.phases) cs no_component (length cs) h)

  -- ---- numbers

  pub new-low : (c : ℕ) → is_listed m.components c ≡ true → renumbered m.components c < length (flat_components m.components)
  unfolding renumbered
  new-low c e = omega (arith, flat-length, place-below c (0 ∷ atomics cs) (listed-occurs cs fit some c e))

  pub new-byte : (c : ℕ) → renumbered m.components c < 256
  unfolding renumbered
  new-byte c = omega (arith, place-most c (0 ∷ atomics cs), few-atomics, w.components.few)

  pub flat-kind : (c : ℕ) → is_atomic m.components c ≡ true → is_atomic (flat_components m.components) (renumbered m.components c) ≡ true
  unfolding is_atomic flat_atomic
  flat-kind c e = rw (flat-component cs fit some c e)

  pub flat-parent : (c : ℕ) → is_atomic m.components c ≡ true → (component_at (flat_components m.components) (renumbered m.components c)).parent ≡ 0
  unfolding flat_atomic
  flat-parent c e = ap (λ k. k.parent) (flat-component cs fit some c e)

  pub flat-phases : (c : ℕ) → is_atomic m.components c ≡ true
      → (component_at (flat_components m.components) (renumbered m.components c)).phases ≡ (component_at m.components c).phases
  unfolding flat_atomic
  flat-phases c e = ap (λ k. k.phases) (flat-component cs fit some c e)

  -- ---- components

  component-held : (c : ℕ) → to_component (component_bytes (flat_atomic m.components c)) ≡ flat_atomic m.components c
  unfolding flat_atomic component_at to_component component_bytes number_at little_endian laid_out bytes_of
  component-held c =
      let h = held_at (λ k. to_component (component_bytes k)) cs no_component w.components.held none c in
      λ i. record { kind = 1; parent = 0; phases = (h i).phases; initial = (h i).initial; order = (h i).order }
    where
      none : to_component (component_bytes no_component) ≡ no_component
      none = unfold no_component to_component component_bytes number_at little_endian laid_out bytes_of in refl

  -- an atomic under the root
  atomic-fits : (i c : ℕ) → is_atomic m.components c ≡ true → component_at (flat_components m.components) (suc i) ≡ flat_atomic m.components c
      → component_fits (flat_components m.components) (suc i) ≡ true
  unfolding component_fits kind_fields place_fits root_within flat_atomic
  atomic-fits i c e f =
      let a : atomic_fields (flat_atomic cs c) ≡ true = unfold flat_atomic atomic_fields in (atomic-fields cs fit some c e) in
      rw f (simp (a, root-kind, ne_eqb (suc i) 0 (λ d. omega arith), lt-ltb 0 (suc i) (omega arith)))
    where
      root-kind : (component_at (flat_components cs) 0).kind ≡ 0
      root-kind = unfold component_at flat_components no_component in refl

  components-held : map (λ k. to_component (component_bytes k)) (flat_components m.components) ≡ flat_components m.components
  unfolding flat_components no_component to_component component_bytes number_at little_endian laid_out bytes_of
  components-held =
      ap (λ l. no_component ∷ l)
      (map-map (λ k. to_component (component_bytes k)) (flat_atomic cs) (atomics cs) ∙ ap (λ (g : ℕ → Component). map g (atomics cs)) (fun_ext component-held))

  component-at : (i : ℕ) → i < length (atomics m.components) → component_at (flat_components m.components) (suc i) ≡ flat_atomic m.components (get_or (atomics m.components) i 0)
  unfolding component_at flat_components
  component-at i l = get_d_map (flat_atomic cs) (atomics cs) i 0 no_component l

  components-fit : ComponentsFit (flat_components m.components)
  components-fit zero b = unfold component_fits kind_fields coupled_fields root_fields component_at flat_components no_component in refl
  components-fit (suc i) b =
      let l : i < length (atomics cs) = omega (arith, flat-length) in
      atomic-fits i (get_or (atomics cs) i 0) (all-at (is_atomic cs) (atomics cs) i 0 (atomics-atomic cs fit some) l) (component-at i l)

  pub components-checked : Checked max_components to_component component_bytes component_fits (flat_components m.components)
  components-checked = record { few = omega (arith, flat-length, few-atomics, w.components.few); held = components-held; fit = components-fit }
