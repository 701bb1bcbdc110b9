-- `model_records::is_child` meets its contract. The definition's own test, on the component that was read. Assumes nothing.
use Rattle.definition.specs.Model.{is_child}
use Rattle.model_records.proofs.is_child.Goals as goal

pub returns : goal.returns
unfolding is_child
returns c = rw (← c.component_at-component.ensures)
