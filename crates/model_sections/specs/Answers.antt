-- What the answer of a section reader stands for: the records that stand after the count, and the rest of the file; or the number.
-- Assumes nothing.
use Rattle.std.specs.Prelude.{ℕ, ◌≡◌, List, length}
use Rattle.std.specs.Prelude.{Result, Ok, Err}
use Rattle.definition.specs.Bytes.{Bytes}
use Rattle.definition.specs.Bytes as Definition
use Rattle.definition.specs.Limits.{max_components, component_size}
use Rattle.definition.specs.Model.{Component}
use Rattle.definition.specs.Pinned.Decoder.{Section, to_component, component_section}
use Rattle.law_bytes.specs.Parts.{records_in, part_of, rest_after}
use Rattle.model_records.specs.Values.{components_in}
use Rattle.model_checks.specs.Known.{CountsKnown, Placed}
use Rattle.refusals.specs.Refusals.{result_as}
use Rattle.refusals.specs.declared.Refusal.{Refusal}

-- The records of a section that announces n of them, and the rest of the file.
abbrev pub section_of : {A : Type 0} → ℕ → (Bytes → A) → Bytes → ℕ → Section A
section_of size to s n = record { records = records_in size to (part_of size n s); rest = rest_after size n s }

abbrev pub section_read : {A : Type 0} → ℕ → (Bytes → A) → Bytes → Result ℕ Refusal → Definition.Result (Section A)
section_read size to s read = result_as (section_of size to s) read

-- An entry for each component in either array.
pub record Room (parents counts : List ℕ) : Type 0 where
  pub parents_room : length parents ≡ max_components
  pub counts_room : length counts ≡ max_components

-- What the arrays hold of all components of an accepted section,
pub record AllKnown (cs : List Component) (parents counts : List ℕ) : Type 0 where
  pub placed : Placed cs parents
  pub counted : CountsKnown cs counts

-- and so after an answer.
abbrev pub Learnt : Bytes → Result ℕ Refusal → List ℕ → List ℕ → Type 0
Learnt s (Ok n) parents counts = AllKnown (components_in (part_of component_size n s)) parents counts
Learnt s (Err r) parents counts = Unit {0}

-- The components are the definition's, and known.
pub record ComponentsRead (s : Bytes) (read : Result ℕ Refusal) (parents counts : List ℕ) : Type 0 where
  pub answer : section_read component_size to_component s read ≡ component_section s
  pub learnt : Learnt s read parents counts
