-- Decoding cut at each section: what is still to be read, given the records read so far. Assumes nothing.
use mathlib.Core.Path.{◌≡◌, refl, sym, ap, ◌∙◌}
use mathlib.Core.List.{List}
use mathlib.Core.Bool.{Bool}
use Prim.Native.Nat.{ℕ, ◌≤◌, ◌<◌}
use native.Mathlib.Omega.{arith}
use lib.ListN.{length}
use Rattle.definition.specs.Bytes.{Bytes, Result, ok, refused, ◌>>=◌}
use Rattle.definition.specs.Limits.{max_components, component_size, phase_size, rule_size, coupling_size}
use Rattle.definition.specs.Model.{Component, Phase, Rule, Coupling, Model}
use Rattle.definition.specs.Pinned.Decoder.{to_component, to_phase, to_rule, to_coupling, component_fits, Section, component_count_refusal, component_section, phase_section, rule_section, coupling_section, further_sections, decode}
use Rattle.law_base.specs.Ranges.{ranges_of}
use Rattle.law_bytes.specs.Parts.{records_in, part_of, rest_after}
use Rattle.law_bytes.proofs.Sections.{section-gives}
use Rattle.law_bytes.proofs.Refusals.{then_ok, then-refused}
use Rattle.model_records.specs.Values.{components_in, phases_in, rules_in, couplings_in, model_in}
use Rattle.model_sections.specs.Answers.{section_of}
use Rattle.model_sections.proofs.Bounds.{component-count}
use Rattle.model_file.specs.declared.Counts as N
use Rattle.model_file.specs.Checked.{model_of, components_part, phases_part, rules_part, couplings_part, after_components, after_phases, after_rules}

unfoldable pub from_end : List Component → List Phase → List Rule → List Coupling → Bytes → Result Model
from_end cs ps rs ks s = further_sections rs s >>= λ r. ok (record { components = cs; phases = ps; rules = rs; couplings = ks; ranges = r })

unfoldable pub from_couplings : List Component → List Phase → List Rule → Bytes → Result Model
from_couplings cs ps rs s = coupling_section cs s >>= λ d. from_end cs ps rs d.records d.rest

unfoldable pub from_rules : List Component → List Phase → Bytes → Result Model
from_rules cs ps s = rule_section cs s >>= λ c. from_couplings cs ps c.records c.rest

unfoldable pub from_phases : List Component → Bytes → Result Model
from_phases cs s = phase_section cs s >>= λ b. from_rules cs b.records b.rest

pub decode-from : (s : Bytes) → decode s ≡ (component_section s >>= λ a. from_phases a.records a.rest)
unfolding decode from_phases from_rules from_couplings from_end
decode-from s = refl

-- So many components an accepted section has.
pub component-limit : (s : Bytes) {x : Section Component} → component_section s ≡ ok x → (0 < length x.records) × (length x.records ≤ max_components)
unfolding component_section
component-limit s {x} e =
    let g = section-gives 5 component_count_refusal to_component component_fits 4 s (omega arith) e in
    let f : length x.records ≡ _ = ap (λ y. length y.records) g.is ∙ g.count in
    rw f (component-count _ g.right)

-- The records are those of the file's four parts.
pub model_is : (file : Bytes) (n : N.Counts) {part phases rules couplings : Bytes} → part ≡ part_of component_size n.components file
    → phases ≡ rest_after component_size n.components file → rules ≡ rest_after phase_size n.phases phases
    → couplings ≡ rest_after rule_size n.rules rules
    → ◌≡◌ {A = Model} (record {
      components = components_in part;
      phases = phases_in (part_of phase_size n.phases phases);
      rules = rules_in (part_of rule_size n.rules rules);
      couplings = couplings_in (part_of coupling_size n.couplings couplings);
      ranges = ranges_of n.half_open;
    }) (model_of file n)
unfolding model_of model_in components_part phases_part rules_part couplings_part after_components after_phases after_rules
model_is file n e f g h = rw (e, h, g, f)

-- ---- a section read: what follows its records, and what follows its refusal

module _ {A B : Type 0} (size : ℕ) (to : Bytes → A) (s : Bytes) (f : Section A → Result B) {q : Result (Section A)} {all : Result B} (before : all ≡ (q >>= f)) where
  section-on : (n : ℕ) → ok (section_of size to s n) ≡ q → {rest : Bytes} → rest ≡ rest_after size n s
      → all ≡ f (record { records = records_in size to (part_of size n s); rest = rest })
  section-on n e g = before ∙ then_ok f e refl ∙ sym (ap (λ r. f (record { records = records_in size to (part_of size n s); rest = r })) g)

  section-off : {m : ℕ} → refused m ≡ q → refused m ≡ all
  section-off e = sym (before ∙ then-refused f e refl)

abbrev pub phases_after : ℕ → Bytes → List Phase
phases_after n s = phases_in (part_of phase_size n s)

abbrev pub rules_after : ℕ → Bytes → List Rule
rules_after n s = rules_in (part_of rule_size n s)

abbrev pub couplings_after : ℕ → Bytes → List Coupling
couplings_after n s = couplings_in (part_of coupling_size n s)

-- The components are refused, or they are read, and then the phases are; and so on. After each section the definition has left to do what the
-- code has left.
module _ (file : Bytes) where
  pub components-off : {m : ℕ} → refused m ≡ component_section file → refused m ≡ decode file
  components-off e = section-off component_size to_component file _ (decode-from file) e

  module _ (components : ℕ) {part rest-1 : Bytes} (first : ok (section_of component_size to_component file components) ≡ component_section file)
      (is : part ≡ part_of component_size components file) (behind : rest-1 ≡ rest_after component_size components file) where
    read-1 : decode file ≡ from_phases (components_in part) rest-1
    unfolding components_in
    read-1 = section-on component_size to_component file _ (decode-from file) components first behind ∙ rw is

    pub phases-off : {m : ℕ} → refused m ≡ phase_section (components_in part) rest-1 → refused m ≡ decode file
    unfolding from_phases
    phases-off e = section-off phase_size to_phase rest-1 _ read-1 e

    module _ (phases : ℕ) {rest-2 : Bytes} (second : ok (section_of phase_size to_phase rest-1 phases) ≡ phase_section (components_in part) rest-1)
        (behind-2 : rest-2 ≡ rest_after phase_size phases rest-1) where
      read-2 : decode file ≡ from_rules (components_in part) (phases_after phases rest-1) rest-2
      unfolding from_phases phases_in
      read-2 = section-on phase_size to_phase rest-1 _ read-1 phases second behind-2

      pub rules-off : {m : ℕ} → refused m ≡ rule_section (components_in part) rest-2 → refused m ≡ decode file
      unfolding from_rules
      rules-off e = section-off rule_size to_rule rest-2 _ read-2 e

      module _ (rules : ℕ) {rest-3 : Bytes} (third : ok (section_of rule_size to_rule rest-2 rules) ≡ rule_section (components_in part) rest-2)
          (behind-3 : rest-3 ≡ rest_after rule_size rules rest-2) where
        read-3 : decode file ≡ from_couplings (components_in part) (phases_after phases rest-1) (rules_after rules rest-2) rest-3
        unfolding from_rules rules_in
        read-3 = section-on rule_size to_rule rest-2 _ read-2 rules third behind-3

        pub couplings-off : {m : ℕ} → refused m ≡ coupling_section (components_in part) rest-3 → refused m ≡ decode file
        unfolding from_couplings
        couplings-off e = section-off coupling_size to_coupling rest-3 _ read-3 e

        module _ (couplings : ℕ) {rest-4 rule_records : Bytes}
            (fourth : ok (section_of coupling_size to_coupling rest-3 couplings) ≡ coupling_section (components_in part) rest-3)
            (behind-4 : rest-4 ≡ rest_after coupling_size couplings rest-3) (own : rule_records ≡ part_of rule_size rules rest-2) where
          read-4 : decode file ≡ from_end (components_in part) (phases_after phases rest-1) (rules_after rules rest-2) (couplings_after couplings rest-3) rest-4
          unfolding from_couplings couplings_in
          read-4 = section-on coupling_size to_coupling rest-3 _ read-3 couplings fourth behind-4

          further_is : further_sections (rules_in rule_records) rest-4 ≡ further_sections (rules_after rules rest-2) rest-4
          further_is = ap (λ (s : Bytes). further_sections (rules_in s) rest-4) own

          pub further-off : {m : ℕ} → refused m ≡ further_sections (rules_in rule_records) rest-4 → refused m ≡ decode file
          unfolding from_end
          further-off e = sym (read-4 ∙ then-refused _ (e ∙ further_is) refl)

          pub further-on : (b : Bool) → ok (ranges_of b) ≡ further_sections (rules_in rule_records) rest-4
              → ok (model_of file (record { components = components; phases = phases; rules = rules; couplings = couplings; half_open = b })) ≡ decode file
          unfolding from_end
          further-on b e = sym (read-4 ∙ then_ok _ (e ∙ further_is) refl ∙ ap ok (model_is file _ is behind behind-2 behind-3))
