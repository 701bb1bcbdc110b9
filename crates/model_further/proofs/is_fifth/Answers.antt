-- `model_further::is_fifth` meets its contract. The definition's three tests. Assumes nothing.
use borrow.Author.Rules.{rules}
use Rattle.definition.specs.Pinned.Decoder.{is_fifth}
use Rattle.model_further.proofs.is_fifth.Goals as goal

pub returns : goal.returns
unfolding is_fifth
returns c = cc
