-- The value's component by its rank, its port, the end and the message's port: the row, field by field.
use Rattle.flat_rows.specs.Rows.{row_of}
use Rattle.spec_step.specs.Tables.{node_component, node_port}
use Rattle.flat_rows.proofs.row_of.Goals as goal

pub returns : goal.returns
unfolding row_of node_component node_port
returns c = rw (c.row_number.ensures, c.rank_of-rank.ensures)
