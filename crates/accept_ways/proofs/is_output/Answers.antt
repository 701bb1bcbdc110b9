-- The definition's test on the node's number among the eight of its component. Assumes nothing.
use borrow.Author.Rules.{rules}
use Rattle.spec_step.specs.Tables.{is_output}
use Rattle.accept_ways.proofs.is_output.Goals as goal

pub returns : goal.returns
unfolding is_output
returns c = (search rules)
