-- What the structs of the code and the four slices of an accepted file stand for: the records of the definitions, and the model.
-- Assumes nothing.
use Rattle.std.specs.Prelude.{List}
use Rattle.definition.specs.Bytes.{Bytes}
use Rattle.definition.specs.Limits.{component_size, phase_size, rule_size, coupling_size}
use Rattle.definition.specs.Model.{Component, Message, Phase, Rule, Coupling, RangeReading, Model}
use Rattle.definition.specs.Pinned.Decoder.{to_component, to_phase, to_rule, to_coupling}
use Rattle.law_bytes.specs.Parts.{records_in}
use Rattle.model_records.specs.declared.Component as C
use Rattle.model_records.specs.declared.Message as M
use Rattle.model_records.specs.declared.Phase as P
use Rattle.model_records.specs.declared.Rule as R
use Rattle.model_records.specs.declared.Coupling as K

-- ---- structs

abbrev pub component_of : C.Component → Component
component_of c = record { kind = c.kind; parent = c.parent; phases = c.phases; initial = c.initial; order = c.order }

abbrev pub message_of : M.Message → Message
message_of m = record { port = m.port; value = m.value }

abbrev pub phase_of : P.Phase → Phase
phase_of p = record {
  advance = p.advance;
  next = p.next;
  output_count = p.output_count;
  slot0 = message_of p.slot0;
  slot1 = message_of p.slot1;
  slot2 = message_of p.slot2;
  slot3 = message_of p.slot3;
}

abbrev pub rule_of : R.Rule → Rule
rule_of k = record {
  component = k.component;
  phase = k.phase;
  next = k.next;
  port = k.port;
  low = k.low;
  high = k.high;
  least = k.least;
  low_elapsed = k.low_elapsed;
  high_elapsed = k.high_elapsed;
}

abbrev pub coupling_of : K.Coupling → Coupling
coupling_of k = record { source = k.source; source_port = k.source_port; target = k.target; target_port = k.target_port }

-- ---- slices that hold exactly the records of a section

unfoldable pub components_in : Bytes → List Component
components_in s = records_in component_size to_component s

unfoldable pub phases_in : Bytes → List Phase
phases_in s = records_in phase_size to_phase s

unfoldable pub rules_in : Bytes → List Rule
rules_in s = records_in rule_size to_rule s

unfoldable pub couplings_in : Bytes → List Coupling
couplings_in s = records_in coupling_size to_coupling s

-- The model of four such slices and a reading of its elapsed ranges.
unfoldable pub model_in : Bytes → Bytes → Bytes → Bytes → RangeReading → Model
model_in components phases rules couplings ranges = record {
  components = components_in components;
  phases = phases_in phases;
  rules = rules_in rules;
  couplings = couplings_in couplings;
  ranges = ranges;
}
