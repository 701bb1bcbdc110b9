-- The bytes of messages and of the four kinds of record of a model file, as layouts. Assumes nothing.
use Rattle.std.specs.Prelude.{ℕ, ◌+◌, [], ◌∷◌, map, Bool, ltb}
use Rattle.definition.specs.Lists.{concat}
use Rattle.definition.specs.Bytes.{Bytes, number_at, Layout, laid_out}
use Rattle.definition.specs.Limits.{port_count}
use Rattle.definition.specs.Model.{Message, Component, Phase, Rule, Coupling, slots}

-- ---- messages: port (1) and value (2)

unfoldable pub message_at : ℕ → Bytes → Message
message_at at r = record { port = number_at 1 at r; value = number_at 2 (at + 1) r }

abbrev pub message_layout : Message → Layout
message_layout x = (1, x.port) ∷ (2, x.value) ∷ []

unfoldable pub message_bytes : Message → Bytes
message_bytes x = laid_out (message_layout x)

-- "Ports are 0 to 3"
unfoldable pub port_fits : Message → Bool
port_fits x = ltb x.port port_count

-- ---- components

-- "kind (0 coupled, 1 atomic), parent, phase count, initial phase, order"
abbrev pub component_layout : Component → Layout
component_layout k = (1, k.kind) ∷ (1, k.parent) ∷ (1, k.phases) ∷ (1, k.initial) ∷ (1, k.order) ∷ []

unfoldable pub component_bytes : Component → Bytes
component_bytes k = laid_out (component_layout k)

-- ---- phases

-- "advance (4 bytes, ..), next phase (1), output count (1, 0 to 4), four slots of port (1) and value (2)"
abbrev pub phase_layout : Phase → Layout
phase_layout k = (4, k.advance) ∷ (1, k.next) ∷ (1, k.output_count) ∷ concat (map message_layout (slots k))

unfoldable pub phase_bytes : Phase → Bytes
phase_bytes k = laid_out (phase_layout k)

-- ---- rules

-- "atomic component (1), phase (1), next phase (1), port (1), low and high value (2 each), least count (2), low and high elapsed (4 each)"
abbrev pub rule_layout : Rule → Layout
rule_layout k =
    (1, k.component) ∷ (1, k.phase) ∷ (1, k.next) ∷ (1, k.port) ∷ (2, k.low) ∷ (2, k.high) ∷ (2, k.least)
    ∷ (4, k.low_elapsed) ∷ (4, k.high_elapsed) ∷ []

unfoldable pub rule_bytes : Rule → Bytes
rule_bytes k = laid_out (rule_layout k)

-- ---- couplings

-- "source component, source port, target component, target port"
abbrev pub coupling_layout : Coupling → Layout
coupling_layout k = (1, k.source) ∷ (1, k.source_port) ∷ (1, k.target) ∷ (1, k.target_port) ∷ []

unfoldable pub coupling_bytes : Coupling → Bytes
coupling_bytes k = laid_out (coupling_layout k)
