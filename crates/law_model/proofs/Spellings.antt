-- The four kinds of record of a model, a bag's messages and a run's entries are spelled by their layouts: the facts that reading and
-- writing take of them. Assumes nothing.
use mathlib.Core.Path.{◌≡◌, refl, ap}
use Prim.Native.Nat.{ℕ}
use mathlib.Core.List.{[], ◌∷◌}
use lib.ListN.{get_or}
use Rattle.definition.specs.Lists.{concat, sum}
use Rattle.definition.specs.Bytes.{Layout}
use Rattle.definition.specs.Limits.{component_size, phase_size, rule_size, coupling_size, message_size, entry_size}
use Rattle.definition.specs.Model.{slots}
use Rattle.definition.specs.Records.{message_at, message_layout, component_layout, phase_layout, rule_layout, coupling_layout}
use Rattle.definition.specs.Pinned.Decoder.{to_component, to_phase, to_rule, to_coupling}
use Rattle.definition.specs.SavedRun.{Entry, to_entry}
use Rattle.law_model.proofs.Layouts.{fields_at, Spelled}

-- The number in the field at a place of a layout.
field : ℕ → Layout → ℕ
field i fs = (get_or fs i (0, 0)).1

pub component-spelled : Spelled component_size component_layout to_component
unfolding sum fields_at to_component field
component-spelled = record {
  widths = 1 ∷ 1 ∷ 1 ∷ 1 ∷ 1 ∷ [];
  total = refl;
  as_laid = λ x. refl;
  as_read = λ r. refl;
  apart = λ x y e.
      let at : (i : ℕ) → field i (component_layout x) ≡ field i (component_layout y) = λ i. ap (field i) e in
      λ i. record { kind = at 0 i; parent = at 1 i; phases = at 2 i; initial = at 3 i; order = at 4 i };
}

pub phase-spelled : Spelled phase_size phase_layout to_phase
unfolding sum fields_at to_phase message_at slots concat field
phase-spelled = record {
  widths = 4 ∷ 1 ∷ 1 ∷ 1 ∷ 2 ∷ 1 ∷ 2 ∷ 1 ∷ 2 ∷ 1 ∷ 2 ∷ [];
  total = refl;
  as_laid = λ x. refl;
  as_read = λ r. refl;
  apart = λ x y e.
      let at : (i : ℕ) → field i (phase_layout x) ≡ field i (phase_layout y) = λ i. ap (field i) e in
      λ i. record {
        advance = at 0 i;
        next = at 1 i;
        output_count = at 2 i;
        slot0 = record { port = at 3 i; value = at 4 i };
        slot1 = record { port = at 5 i; value = at 6 i };
        slot2 = record { port = at 7 i; value = at 8 i };
        slot3 = record { port = at 9 i; value = at 10 i };
      };
}

pub rule-spelled : Spelled rule_size rule_layout to_rule
unfolding sum fields_at to_rule field
rule-spelled = record {
  widths = 1 ∷ 1 ∷ 1 ∷ 1 ∷ 2 ∷ 2 ∷ 2 ∷ 4 ∷ 4 ∷ [];
  total = refl;
  as_laid = λ x. refl;
  as_read = λ r. refl;
  apart = λ x y e.
      let at : (i : ℕ) → field i (rule_layout x) ≡ field i (rule_layout y) = λ i. ap (field i) e in
      λ i. record {
        component = at 0 i;
        phase = at 1 i;
        next = at 2 i;
        port = at 3 i;
        low = at 4 i;
        high = at 5 i;
        least = at 6 i;
        low_elapsed = at 7 i;
        high_elapsed = at 8 i;
      };
}

pub coupling-spelled : Spelled coupling_size coupling_layout to_coupling
unfolding sum fields_at to_coupling field
coupling-spelled = record {
  widths = 1 ∷ 1 ∷ 1 ∷ 1 ∷ [];
  total = refl;
  as_laid = λ x. refl;
  as_read = λ r. refl;
  apart = λ x y e.
      let at : (i : ℕ) → field i (coupling_layout x) ≡ field i (coupling_layout y) = λ i. ap (field i) e in
      λ i. record { source = at 0 i; source_port = at 1 i; target = at 2 i; target_port = at 3 i };
}

pub message-spelled : Spelled message_size message_layout (message_at 0)
unfolding sum fields_at message_at field
message-spelled = record {
  widths = 1 ∷ 2 ∷ [];
  total = refl;
  as_laid = λ x. refl;
  as_read = λ r. refl;
  apart = λ x y e.
      let at : (i : ℕ) → field i (message_layout x) ≡ field i (message_layout y) = λ i. ap (field i) e in
      λ i. record { port = at 0 i; value = at 1 i };
}

-- An entry of a run: its phase (1) and its last moment (8).
abbrev pub entry_layout : Entry → Layout
entry_layout r = (1, r.phase) ∷ (8, r.last) ∷ []

pub entry-spelled : Spelled entry_size entry_layout to_entry
unfolding sum fields_at to_entry field
entry-spelled = record {
  widths = 1 ∷ 8 ∷ [];
  total = refl;
  as_laid = λ x. refl;
  as_read = λ r. refl;
  apart = λ x y e.
      let at : (i : ℕ) → field i (entry_layout x) ≡ field i (entry_layout y) = λ i. ap (field i) e in
      λ i. record { phase = at 0 i; last = at 1 i };
}
