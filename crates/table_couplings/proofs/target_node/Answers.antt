-- A coupling to a parent ends at an output, any other at an input: the definition's test. Assumes nothing.
use Rattle.spec_step.specs.Tables.{target_number}
use Rattle.table_couplings.specs.Links.{side_node}
use Rattle.table_couplings.proofs.target_node.Goals as goal

pub returns : goal.returns
unfolding target_number side_node
returns c = rw (c.side_node.ensures, c.is_child-outward.ensures)
