-- A sound model's bytes decode to it: every record has its section's size, so that each section is read back, one behind the other.
-- Assumes nothing.
use mathlib.Core.Path.{◌≡◌, refl}
use Prim.Native.Nat.{ℕ, ◌+◌, ◌*◌, ◌≤◌, ◌<◌}
use mathlib.Core.List.{List, ◌++◌, map, append_assoc}
use native.Mathlib.Omega.{arith}
use lib.ListN.{length, length-append}
use borrow.Author.Tests.{le-ltb, eq-eqb, ne_eqb}
use Rattle.definition.specs.Lists.{concat}
use Rattle.definition.specs.Bytes.{Bytes, ok, bytes_of, laid_out}
use Rattle.definition.specs.Limits.{max_components, max_phases, max_rules, max_couplings, count_size, component_size, phase_size, rule_size, coupling_size}
use Rattle.definition.specs.Model.{Component, Phase, Rule, Coupling, Model, slots}
use Rattle.definition.specs.Records.{component_bytes, phase_bytes, rule_bytes, coupling_bytes}
use Rattle.definition.specs.File.{phase_total, section_bytes, ranges_bytes, model_bytes}
use Rattle.definition.specs.Pinned.Decoder.{to_component, component_fits, to_phase, phase_fits, to_rule, rule_fits, to_coupling, coupling_fits, component_count_refusal, phase_count_refusal, limit_refusal, component_section, phase_section, rule_section, coupling_section, decode}
use Rattle.law_model.proofs.Codec.{length-bytes, rows-length}
use Rattle.law_model.proofs.WellFormed.{WellFormed}
use Rattle.law_model.proofs.Sections.{section-back}
use Rattle.law_model.proofs.Further.{further-back}

-- ---- sizes

pub component-size : (k : Component) → length (component_bytes k) ≡ component_size
unfolding component_bytes laid_out bytes_of
component-size k = refl

pub phase-size : (k : Phase) → length (phase_bytes k) ≡ phase_size
unfolding phase_bytes slots laid_out bytes_of concat
phase-size k = refl

pub rule-size : (k : Rule) → length (rule_bytes k) ≡ rule_size
unfolding rule_bytes laid_out bytes_of
rule-size k = refl

pub coupling-size : (k : Coupling) → length (coupling_bytes k) ≡ coupling_size
unfolding coupling_bytes laid_out bytes_of
coupling-size k = refl

pub section-length : {A : Type 0} (size : ℕ) (bytes : A → Bytes) → ((x : A) → length (bytes x) ≡ size) → (xs : List A)
    → length (section_bytes bytes xs) ≡ count_size + length xs * size
unfolding section_bytes
section-length size bytes sized xs =
    omega (arith, length-append (bytes_of count_size (length xs)) (concat (map bytes xs)), length-bytes count_size (length xs), rows-length size bytes sized xs)

-- ---- counts

most-right : (limit n : ℕ) → n ≤ limit → limit_refusal limit n ≡ 0
unfolding limit_refusal
most-right limit n h = rw (le-ltb limit n h)

components-right : (n : ℕ) → 0 < n → n ≤ max_components → component_count_refusal n ≡ 0
unfolding component_count_refusal
components-right n z h = rw (le-ltb max_components n h, ne_eqb n 0 (λ e. omega arith))

phases-right : (total n : ℕ) → n ≤ max_phases → n ≡ total → phase_count_refusal total n ≡ 0
unfolding phase_count_refusal
phases-right total n h e = rw (le-ltb max_phases n h, eq-eqb n total e)

-- ---- the file

module _ (m : Model) (w : WellFormed m) (rest : Bytes) where
  components-back : component_section (section_bytes component_bytes m.components ++ rest) ≡ ok (record { records = m.components; rest = rest })
  unfolding component_section
  components-back =
      section-back component_size component_count_refusal to_component component_bytes component_fits 4 max_components component-size (omega arith) m.components rest
      (components-right (length m.components) w.some_component w.components.few) w.components

  phases-back : phase_section m.components (section_bytes phase_bytes m.phases ++ rest) ≡ ok (record { records = m.phases; rest = rest })
  unfolding phase_section
  phases-back =
      let total = phase_total m.components in
      section-back phase_size (phase_count_refusal total) to_phase phase_bytes (phase_fits m.components) 6 max_phases phase-size (omega arith) m.phases rest
      (phases-right total (length m.phases) w.phases.few w.phase_count) w.phases

  rules-back : rule_section m.components (section_bytes rule_bytes m.rules ++ rest) ≡ ok (record { records = m.rules; rest = rest })
  unfolding rule_section
  rules-back =
      section-back rule_size (limit_refusal max_rules) to_rule rule_bytes (rule_fits m.components) 7 max_rules rule-size (omega arith) m.rules rest
      (most-right max_rules (length m.rules) w.rules.few) w.rules

  couplings-back : coupling_section m.components (section_bytes coupling_bytes m.couplings ++ rest) ≡ ok (record { records = m.couplings; rest = rest })
  unfolding coupling_section
  couplings-back =
      section-back coupling_size (limit_refusal max_couplings) to_coupling coupling_bytes (coupling_fits m.components) 8 max_couplings coupling-size (omega arith)
      m.couplings rest (most-right max_couplings (length m.couplings) w.couplings.few) w.couplings

pub decode-back : (m : Model) → WellFormed m → decode (model_bytes m) ≡ ok m
unfolding decode model_bytes
decode-back m w =
    let d = section_bytes coupling_bytes m.couplings ++ ranges_bytes m.ranges in
    let c = section_bytes rule_bytes m.rules ++ d in
    let b = section_bytes phase_bytes m.phases ++ c in
    let shape : model_bytes m ≡ section_bytes component_bytes m.components ++ b = simp append_assoc in
    rw (shape, components-back m w b, phases-back m w c, rules-back m w d, couplings-back m w (ranges_bytes m.ranges), further-back m.rules m.ranges w.ranges)
