-- The field of the record read at that number. Assumes nothing.
use borrow.Author.Rules.{rules}
use Rattle.table_components.specs.Columns.{field_at, field_of}
use mathlib.Core.Path.{ap, ◌∙◌}
use Rattle.table_components.proofs.field_at.Goals as goal

pub returns : goal.returns
unfolding field_at
returns c = c.field_of.ensures ∙ ap (field_of c.args.which) c.component_at.ensures
