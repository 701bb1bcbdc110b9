-- Eight nodes a component, inputs first and outputs after them. Assumes nothing.
use Rattle.spec_step.specs.Tables.{input_node, output_node}
use Rattle.table_couplings.specs.Links.{side_node}
use Rattle.table_couplings.proofs.side_node.Goals as goal

pub returns-then-output : goal.returns-then-output
unfolding side_node output_node
returns-then-output c = rw c.if-output.true

pub returns-else-output : goal.returns-else-output
unfolding side_node input_node
returns-else-output c = rw c.if-output.false
