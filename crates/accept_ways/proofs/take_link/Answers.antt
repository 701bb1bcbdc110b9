-- The entry of the link's beginning becomes the capped sum. Assumes nothing.
use borrow.Author.Rules.{rules}
use Rattle.accept_ways.specs.Words.{link_taken}
use Rattle.accept_ways.proofs.take_link.Goals as goal

pub returns : goal.returns
unfolding link_taken
returns c = (rw c.capped.ensures)
