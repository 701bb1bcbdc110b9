-- The port is the node's remainder by four.
use borrow.Author.Rules.{rules}
use Rattle.spec_step.specs.Tables.{node_port}
use Rattle.step_collect.proofs.port_of.Goals as goal

pub returns : goal.returns
unfolding node_port
returns c = search rules
