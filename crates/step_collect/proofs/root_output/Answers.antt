-- The node's number, as the definition has it.
use borrow.Author.Rules.{rules}
use Rattle.law_routes.specs.Nodes.{output_node}
use Rattle.step_collect.proofs.root_output.Goals as goal

pub returns : goal.returns
unfolding output_node
returns c = search rules
