-- The places, field by field.
use borrow.Author.Rules.{rules}
use Rattle.columns_forms.specs.Forms.{row_places}
use Rattle.columns_forms.proofs.row_places.Goals as goal

pub returns : goal.returns
unfolding row_places
returns c = search rules
