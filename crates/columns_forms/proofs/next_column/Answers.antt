-- The places, field by field.
use borrow.Author.Rules.{rules}
use Rattle.columns_forms.specs.Forms.{next_column}
use Rattle.columns_forms.proofs.next_column.Goals as goal

pub returns : goal.returns
unfolding next_column
returns c = search rules
