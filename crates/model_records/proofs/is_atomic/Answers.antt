-- `model_records::is_atomic` meets its contract. The definition's own test, on the component that was read. Assumes nothing.
use Rattle.definition.specs.Model.{is_atomic}
use Rattle.model_records.proofs.is_atomic.Goals as goal

pub returns : goal.returns
unfolding is_atomic
returns c = rw (← c.component_at-component.ensures)
