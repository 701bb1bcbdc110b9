-- An atomic is stored at the position and takes it; any other component changes nothing. Assumes nothing.
use Rattle.table_components.specs.Columns.{number_at}
use mathlib.Core.Path.{sym, ◌∙◌}
use Rattle.table_components.proofs.put_number.Goals as goal

pub returns-then-is_atomic : goal.returns-then-is_atomic
unfolding number_at
returns-then-is_atomic c = rw (sym c.is_atomic.ensures ∙ c.if-is_atomic.true)

pub returns-else-is_atomic : goal.returns-else-is_atomic
unfolding number_at
returns-else-is_atomic c = rw (sym c.is_atomic.ensures ∙ c.if-is_atomic.false)
