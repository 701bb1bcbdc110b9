-- The node's number, as the definition has it.
use borrow.Author.Rules.{rules}
use Rattle.law_routes.specs.Nodes.{input_node}
use Rattle.step_collect.proofs.input_node.Goals as goal

pub returns : goal.returns
unfolding input_node
returns c = search rules
