-- The decoder's tests of a phase record decide the lines of document 01 for it, with the phase count of the atomic that it belongs to.
-- Assumes nothing.
use mathlib.Core.Path.{◌≡◌, refl, sym, ap, ◌∙◌, subst}
use mathlib.Core.Logic.{◌⊎◌}
use Prim.Native.Nat.{ℕ, suc, ◌+◌, ◌-◌, ◌≤◌, ◌<◌}
use mathlib.Core.List.{List, [], ◌∷◌}
use mathlib.Core.Bool.{Bool, true, false, ◌&&◌}
use native.Mathlib.Omega.{arith}
use lib.Dec.{ltb, eqb}
use lib.ListN.{length, drop, get_or, length-drop, get_or-eq_default}
use lib.Seq.{length-take-le, get_or-take, get_or-drop}
use borrow.Author.Tests.{ltb-true, ltb-false, eqb-true, eqb-false}
use Rattle.definition.specs.Lists.{sum, all, rises}
use Rattle.definition.specs.Limits.{max_phases, max_outputs, port_count, max_advance, never_field}
use Rattle.definition.specs.Model.{Message, Component, Phase, no_message, no_phase, component_at, phases_before, slots, outputs, message_le}
use Rattle.definition.specs.Records.{port_fits}
use Rattle.definition.specs.File.{phase_total}
use Rattle.definition.specs.Pinned.Decoder.{to_phase, advance_fits, used_fit, unused_fit, phase_fields, bounds, phase_fits, phase_count_refusal}
use Rattle.definition.specs.Sound.{NotAbove, slot_at, PhaseKeeps, phase_form}
use Rattle.law_model.proofs.PhaseRange.{bound_at}
use Rattle.law_refusals.proofs.Tests.{Decides, less, most, equal, reworded, both, both-then, either, every, rising, not-above}
use Rattle.law_model.proofs.Spellings.{phase-spelled}
use Rattle.law_refusals.proofs.Sections.{Counted, none_applies, over_limit, other_sum, Reads}

-- ---- one phase

port-test : (x : Message) → Decides (port_fits x) (x.port < port_count)
unfolding port_fits
port-test x = less x.port port_count

-- "in rising order of port, then value"
abbrev InOrder : Message → Message → Type 0
InOrder x y = NotAbove (x.port ∷ x.value ∷ []) (y.port ∷ y.value ∷ [])

order-test : (x y : Message) → Decides (message_le x y) (InOrder x y)
unfolding message_le
order-test x y = not-above (x.port ∷ x.value ∷ []) (y.port ∷ y.value ∷ [])

zero_test : (x : Message) → Decides (eqb x.port 0 && eqb x.value 0) (x ≡ no_message)
unfolding no_message
zero_test x =
    reworded (both (equal x.port 0) (equal x.value 0)) (λ h. λ i. record { port = h.0 i; value = h.1 i })
    (λ e. (ap (λ y. y.port) e, ap (λ y. y.value) e))

module _ (k : Phase) where
  abbrev used : ℕ
  used = k.output_count

  module _ (few : used ≤ max_outputs) where
    used-length : length (outputs k) ≡ used
    unfolding outputs slots
    used-length = length-take-le used (slots k) few

    used-slot : (i : ℕ) → i < used → get_or (outputs k) i no_message ≡ slot_at k i
    unfolding outputs
    used-slot i l = get_or-take used (slots k) i no_message l

    ports-test : Decides (all port_fits (outputs k)) ((i : ℕ) → i < used → (slot_at k i).port < port_count)
    ports-test =
        reworded (every no_message port_fits (λ x. x.port < port_count) port-test (outputs k))
        (λ h i l. subst (λ x. x.port < port_count) (used-slot i l) (h i (omega (arith, used-length))))
        (λ h i l. let b : i < used = omega (arith, used-length) in subst (λ x. x.port < port_count) (sym (used-slot i b)) (h i b))

    orders-test : Decides (rises message_le (outputs k)) ((i : ℕ) → suc i < used → InOrder (slot_at k i) (slot_at k (suc i)))
    orders-test =
        reworded (rising no_message message_le InOrder order-test (outputs k))
        (λ h i l. rw (← used-slot i (omega arith), ← used-slot (suc i) l) (h i (omega (arith, used-length))))
        (λ h i l.
        let b : suc i < used = omega (arith, used-length) in
        rw (used-slot i (omega arith), used-slot (suc i) b) (h i b))

    used-test : Decides (used_fit k) (((i : ℕ) → i < used → (slot_at k i).port < port_count) × ((i : ℕ) → suc i < used → InOrder (slot_at k i) (slot_at k (suc i))))
    unfolding used_fit
    used-test = both ports-test orders-test

  unused-test : Decides (unused_fit k) ((i : ℕ) → used ≤ i → slot_at k i ≡ no_message)
  unfolding unused_fit
  unused-test =
      reworded (every no_message (λ x. eqb x.port 0 && eqb x.value 0) (λ x. x ≡ no_message) zero_test (drop used (slots k))) behind
      (λ h i l. get_or-drop used (slots k) i no_message ∙ h (used + i) (omega arith))
    where
      behind : ((i : ℕ) → i < length (drop used (slots k)) → get_or (drop used (slots k)) i no_message ≡ no_message)
          → (i : ℕ) → used ≤ i → slot_at k i ≡ no_message
      behind h i l = go (ltb i (length (slots k))) refl
        where
          go : (t : Bool) → ltb i (length (slots k)) ≡ t → slot_at k i ≡ no_message
          go true e =
              let n : i ≡ used + (i - used) = omega arith in
              ap (slot_at k) n ∙ sym (get_or-drop used (slots k) (i - used) no_message)
              ∙ h (i - used) (omega (arith, length-drop used (slots k), ltb-true i (length (slots k)) e))
          go false e = get_or-eq_default (slots k) no_message (ltb-false i (length (slots k)) e)

  advance-test : Decides (advance_fits k.advance) ((k.advance ≤ max_advance) ⊎ (k.advance ≡ never_field))
  unfolding advance_fits
  advance-test = either (most k.advance max_advance) (equal k.advance never_field)

  phase-test : (own : ℕ) → Decides (phase_fields own k) (PhaseKeeps own k)
  unfolding phase_fields
  phase-test own =
      reworded (both (both-then (both (both advance-test (less k.next own)) (most used max_outputs)) (λ h. used-test h.1)) unused-test)
      (λ h. record {
        advance = h.0.0.0.0;
        next = h.0.0.0.1;
        outputs = h.0.0.1;
        ports = h.0.1.0;
        used = h.0.1.1;
        unused = h.1;
      })
      (λ h. ((((h.advance, h.next), h.outputs), (h.ports, h.used)), h.unused))

-- ---- the atomic that a phase record belongs to

-- Record i is phase p of component c.
pub record Owner (cs : List Component) (i : ℕ) : Type 0 where
  pub component : ℕ
  pub phase : ℕ
  pub there : component < length cs
  pub own : phase < (component_at cs component).phases
  pub place : i ≡ phases_before cs component + phase

owner : (cs : List Component) (i : ℕ) → i < phase_total cs → Owner cs i
unfolding phase_total phases_before component_at sum
owner [] i l = absurd (omega arith)
owner (k ∷ cs) i l = go (ltb i k.phases) refl (owner cs (i - k.phases))
  where
    go : (t : Bool) → ltb i k.phases ≡ t → (i - k.phases < phase_total cs → Owner cs (i - k.phases)) → Owner (k ∷ cs) i
    go true e ih = record { component = 0; phase = i; there = omega arith; own = ltb-true i k.phases e; place = omega arith }
    go false e ih =
        let o = ih (omega (arith, ltb-false i k.phases e)) in
        record {
          component = suc o.component;
          phase = o.phase;
          there = omega arith;
          own = o.own;
          place = omega (arith, o.place, ltb-false i k.phases e);
        }

-- ---- the section

module _ (cs : List Component) where
  phase-line : (ps : List Phase) (i : ℕ) → length ps ≡ phase_total cs → i < length ps → Decides (phase_fits cs ps i) ((phase_form cs).Keeps ps i)
  unfolding phase_fits
  phase-line ps i right l =
      let k = get_or ps i no_phase in
      let bound : (c p : ℕ) → p < (component_at cs c).phases → i ≡ phases_before cs c + p → get_or (bounds cs) i 0 ≡ (component_at cs c).phases
      = λ c p b e. ap (λ j. get_or (bounds cs) j 0) e ∙ (bound_at cs c p b).0 in
      let o = owner cs i (omega arith) in
      reworded (phase-test k (get_or (bounds cs) i 0))
      (λ h c p a b e. subst (λ n. PhaseKeeps n k) (bound c p b e) h)
      (λ h. subst (λ n. PhaseKeeps n k) (sym (bound o.component o.phase o.own o.place)) (h o.component o.phase o.there o.own o.place))

  phase-counted : (n : ℕ) → Counted (phase_form cs) (phase_count_refusal (phase_total cs)) n
  unfolding phase_count_refusal
  phase-counted n = go (ltb max_phases n) refl (eqb n (phase_total cs)) refl
    where
      go : (t : Bool) → ltb max_phases n ≡ t → (u : Bool) → eqb n (phase_total cs) ≡ u → Counted (phase_form cs) (phase_count_refusal (phase_total cs)) n
      go true e u g = over_limit (λ h. omega (arith, ltb-true max_phases n e)) (rw e)
      go false e true g = none_applies (ltb-false max_phases n e) (eqb-true n (phase_total cs) g) (rw (e, g))
      go false e false g = other_sum (ltb-false max_phases n e) (eqb-false n (phase_total cs) g) (rw (e, g))

  pub phase-reads : Reads (phase_form cs) (phase_count_refusal (phase_total cs)) to_phase (phase_fits cs)
  phase-reads = record { spelled = phase-spelled; small = λ n h. omega arith; counted = phase-counted; line = phase-line }
