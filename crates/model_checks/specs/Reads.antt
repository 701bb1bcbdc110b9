-- What the record readers answer: "Reading one record yields either the record or a refusal number."
-- Assumes nothing.
use Rattle.std.specs.Prelude.{ℕ, Bool, not, List, get_or}
use Rattle.definition.specs.Bytes.{Result, ok, ◌>>=◌, refuse_if}
use Rattle.definition.specs.Model.{Component, Message, Phase, Rule, Coupling, component_at, no_phase, no_rule, no_coupling}
use Rattle.definition.specs.Pinned.Decoder.{component_fits, phase_fields, rule_fields, coupling_fits}
use Rattle.law_base.specs.Keys as Keys

-- The message, and the coupling, that a key stands for.
abbrev pub message_of_key : ℕ → Message
message_of_key n = Keys.message_of n

abbrev pub coupling_of_key : ℕ → Coupling
coupling_of_key n = Keys.coupling_of n

-- The record where its lines are kept, or the number of those that are not.
unfoldable pub checked : {A : Type 0} → Bool → ℕ → A → Result A
checked keeps n a = refuse_if (not keeps) n >>= λ _. ok a

-- ---- what is asked for: record i of a section, tested

abbrev pub component_asked : List Component → ℕ → Result Component
component_asked cs i = checked (component_fits cs i) 4 (component_at cs i)

-- A phase of an atomic that has `bound` phases.
abbrev pub phase_asked : ℕ → List Phase → ℕ → Result Phase
phase_asked bound ps i = checked (phase_fields bound (get_or ps i no_phase)) 6 (get_or ps i no_phase)

abbrev pub rule_asked : List Component → List Rule → ℕ → Result Rule
rule_asked cs rs i = checked (rule_fields cs (get_or rs i no_rule)) 7 (get_or rs i no_rule)

abbrev pub coupling_asked : List Component → List Coupling → ℕ → Result Coupling
coupling_asked cs ks i = checked (coupling_fits cs ks i) 8 (get_or ks i no_coupling)
