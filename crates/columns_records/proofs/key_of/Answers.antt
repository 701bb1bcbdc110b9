-- The port above the value.
use borrow.Author.Rules.{rules}
use Rattle.law_base.specs.Keys.{key_of}
use Rattle.columns_records.proofs.key_of.Goals as goal

pub returns : goal.returns
unfolding key_of
returns c = search rules
