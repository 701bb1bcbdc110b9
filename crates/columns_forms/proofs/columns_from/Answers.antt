-- The places, field by field.
use borrow.Author.Rules.{rules}
use Rattle.columns_forms.specs.Forms.{columns_from}
use Rattle.columns_forms.proofs.columns_from.Goals as goal

pub returns : goal.returns
unfolding columns_from
returns c = search rules
