-- The ports of a model as numbers, for tables: component × 8, and 4 more for an output, and the port. Assumes nothing.
use Rattle.std.specs.Prelude.{ℕ, ◌+◌, ◌*◌, List, cond}
use Rattle.definition.specs.Limits.{port_count}
use Rattle.definition.specs.Model.{Component, Coupling, is_child}

abbrev pub port_nodes : ℕ
port_nodes = 8

unfoldable pub input_node : ℕ → ℕ → ℕ
input_node c q = port_nodes * c + q

unfoldable pub output_node : ℕ → ℕ → ℕ
output_node c q = port_nodes * c + (port_count + q)

-- "A coupling from a parent joins input to input, one between siblings output to input, one to a parent output to output": the node
-- where it begins, and the node where it ends.
unfoldable pub source_number : List Component → Coupling → ℕ
source_number cs k = cond (is_child cs k.source k.target) (input_node k.source k.source_port) (output_node k.source k.source_port)

unfoldable pub target_number : List Component → Coupling → ℕ
target_number cs k = cond (is_child cs k.target k.source) (output_node k.target k.target_port) (input_node k.target k.target_port)
