-- Six parts, one after the other, each over the table that the one before it left. Assumes nothing.
use borrow.Author.Rules.{rules}
use Rattle.table_components.specs.declared.Field.TheVariants.{Kind, Parent, Order, Phases, Atomic}
use Rattle.table_components.specs.Columns.{by_component, field_at, fields_before}
use Rattle.table_words.specs.Writes.{column}
use Rattle.spec_step.specs.Tables.{positions_at, kinds_at, orders_at, phases_at, parents_at}
use Rattle.model_records.specs.Values.{components_in}
use lib.ListN.{length}
use mathlib.Core.Path.{ap, ◌∙◌}
use Rattle.table_components.proofs.fill_components.Goals as goal

pub returns : goal.returns
unfolding by_component
returns c =
    let cs = components_in c.args.components.now in
    let n = length cs in
    c.put_fields-3.ensures ∙ ap (column parents_at (field_at Parent cs) n 0)
    (c.put_sums-2.ensures ∙ ap (column phases_at (fields_before Phases cs) n 0)
    (c.put_fields-2.ensures ∙ ap (column orders_at (field_at Order cs) n 0)
    (c.put_fields.ensures ∙ ap (column kinds_at (field_at Kind cs) n 0)
    (c.put_sums.ensures ∙ ap (column positions_at (fields_before Atomic cs) n 0) c.put_numbers.ensures))))
