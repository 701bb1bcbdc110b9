-- The last word.
use borrow.Author.Rules.{rules}
use Rattle.run_state.specs.Held.{next_in}
use Rattle.run_state.proofs.next_due.Goals as goal

pub returns : goal.returns
unfolding next_in
returns c = search rules
