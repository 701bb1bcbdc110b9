use Rattle.columns_records.specs.Places.{pair_above}
use borrow.Author.Rules.{rules}
use Rattle.columns_records.proofs.pair_above.Goals as goal

pub returns-in_default : goal.returns-in_default
unfolding pair_above
returns-in_default c = search rules

pub returns : goal.returns
unfolding pair_above
returns c = search rules
