-- The last word.
use borrow.Author.Rules.{rules}
use Rattle.run_state.specs.Held.{bits_in}
use Rattle.run_state.proofs.bits_in.Goals as goal

pub returns : goal.returns
unfolding bits_in
returns c = search rules
