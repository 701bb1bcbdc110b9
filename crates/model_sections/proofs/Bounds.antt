-- Right counts; and the phase records, which stand atomic by atomic: record `phases_before cs c + p` is phase p of component c. Assumes nothing.
use mathlib.Core.Path.{◌≡◌, refl, sym, ap, ◌∙◌}
use mathlib.Core.List.{List}
use mathlib.Core.Bool.{Bool, true, false, ◌||◌, not}
use Prim.Native.Nat.{ℕ, ◌+◌, ◌≤◌, ◌<◌}
use native.Mathlib.Omega.{arith}
use lib.Dec.{ltb, eqb}
use lib.ListN.{length, get_or}
use borrow.Author.Tests.{ltb-false, eqb-true, eqb-false}
use Rattle.definition.specs.Bytes.{Result}
use Rattle.definition.specs.Limits.{max_components, max_own_phases, max_phases}
use Rattle.definition.specs.Model.{Component, Phase, component_at, no_phase, phases_before}
use Rattle.definition.specs.File.{phase_total}
use Rattle.definition.specs.Pinned.Decoder.{bounds, component_fits, phase_fields, phase_fits, or_else, component_count_refusal, phase_count_refusal}
use Rattle.law_model.proofs.PhaseRange.{length-bounds, bound_at}
use Rattle.model_checks.specs.Reads.{checked}
use Rattle.model_checks.proofs.Kept.{phases-few}
use Rattle.model_records.proofs.Before.{before_more}

-- A right count of components.
pub component-count : (n : ℕ) → component_count_refusal n ≡ 0 → (0 < n) × (n ≤ max_components)
unfolding component_count_refusal
component-count n e = go (ltb max_components n) refl (eqb n 0) refl e
  where
    go : (a : Bool) → ltb max_components n ≡ a → (b : Bool) → eqb n 0 ≡ b → or_else (a || b) 3 0 ≡ 0 → (0 < n) × (n ≤ max_components)
    go true f b g e = absurd (omega arith)
    go false f true g e = absurd (omega arith)
    go false f false g e = let u = ltb-false max_components n f in let v = eqb-false n 0 g in (omega arith, omega arith)

-- A right count is the sum.
pub count-total : (total n : ℕ) → phase_count_refusal total n ≡ 0 → n ≡ total
unfolding phase_count_refusal
count-total total n e = go (ltb max_phases n) (eqb n total) refl e
  where
    go : (a b : Bool) → eqb n total ≡ b → or_else a 3 (or_else (not b) 5 0) ≡ 0 → n ≡ total
    go true b f e = absurd (omega arith)
    go false true f e = eqb-true n total f
    go false false f e = absurd (omega arith)

-- Record i is phase p of component c, which has `bound` phases; it is past them where p is `bound`.
pub record Standing (cs : List Component) (c bound p i : ℕ) : Type 0 where
  pub own : bound ≡ (component_at cs c).phases
  pub few : bound ≤ max_own_phases
  pub below : p ≤ bound
  pub place : i ≡ phases_before cs c + p

pub standing-first : {cs : List Component} {c bound i : ℕ} → bound ≡ (component_at cs c).phases → component_fits cs c ≡ true → i ≡ phases_before cs c
    → Standing cs c bound 0 i
standing-first {cs} {c} e f g = record { own = e; few = rw e (phases-few cs c f); below = omega arith; place = omega arith }

module _ {cs : List Component} {c bound p i : ℕ} (at : Standing cs c bound p i) where
  -- After its last phase comes the next component.
  pub standing-last : bound ≤ p → i ≡ phases_before cs (c + 1)
  standing-last l = omega (arith, before_more cs c, at.own, at.below, at.place)

  module _ (l : p < bound) where
    pub standing-next : Standing cs c bound (p + 1) (i + 1)
    standing-next = record { own = at.own; few = at.few; below = omega arith; place = omega (arith, at.place) }

    is_bound : (get_or (bounds cs) (phases_before cs c + p) 0 ≡ (component_at cs c).phases) × (phases_before cs c + p < length (bounds cs))
    is_bound = bound_at cs c p (rw (← at.own) l)

    -- It is tested as a phase of the component,
    pub standing-checked : (ps : List Phase) {q : Result Phase} → q ≡ checked (phase_fields bound (get_or ps i no_phase)) 6 (get_or ps i no_phase)
        → q ≡ checked (phase_fits cs ps i) 6 (get_or ps i no_phase)
    standing-checked ps e = e ∙ ap (λ b. checked b 6 (get_or ps i no_phase)) fits
      where
        fits : phase_fields bound (get_or ps i no_phase) ≡ phase_fits cs ps i
        fits = unfold phase_fits in ap (λ b. phase_fields b (get_or ps i no_phase)) (at.own ∙ sym (ap (λ i. get_or (bounds cs) i 0) at.place ∙ is_bound.0))

    -- and it is among the records of a right count.
    pub standing-below : (count : ℕ) → phase_count_refusal (phase_total cs) count ≡ 0 → i < count
    standing-below count e = omega (arith, at.place, is_bound.1, length-bounds cs, count-total (phase_total cs) count e)
