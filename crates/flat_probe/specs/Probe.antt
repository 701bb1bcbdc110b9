-- One step that probes the nest: every atomic puts out, on each of its output ports, one message whose value
-- is the number of that very port, and the root is given one on each of its input ports. What is then pulled at an end has one message for each
-- route that ends there, and its value names the port where the route begins. Assumes nothing.
use Rattle.std.specs.Prelude.{ℕ, List, map}
use Rattle.definition.specs.Lists.{up_from}
use Rattle.definition.specs.Limits.{max_components, max_outputs, port_count}
use Rattle.definition.specs.Model.{Message, Bag, Phase}
use Rattle.spec_step.specs.Tables.{input_node, output_node}
use Rattle.spec_step.specs.Flags.{flags_size, marks_in, reached_in}

-- ---- the probing step

-- Output port q of component c, as a message on that port.
unfoldable pub own_port : ℕ → ℕ → Message
own_port c q = record { port = q; value = output_node c q }

-- What component c puts out.
unfoldable pub probe_of : ℕ → Phase
probe_of c = record { advance = 0; next = 0; output_count = max_outputs; slot0 = own_port c 0; slot1 = own_port c 1; slot2 = own_port c 2; slot3 = own_port c 3 }

-- A record for each component.
unfoldable pub probes : List Phase
probes = map probe_of (up_from 0 max_components)

-- The flags: a component's mark is its record and 1, and every component may be reached.
unfoldable pub probe_flags : List ℕ
probe_flags = up_from 1 flags_size

abbrev pub probe_marks : List ℕ
probe_marks = marks_in probe_flags

abbrev pub probe_reached : List ℕ
probe_reached = reached_in probe_flags

-- What the root is given.
unfoldable pub probe_given : Bag
probe_given = map (λ q. record { port = q; value = input_node 0 q }) (up_from 0 port_count)
