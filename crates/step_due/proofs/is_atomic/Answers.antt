use Rattle.spec_step.specs.Tables.{atomic_at}
use Rattle.step_due.proofs.is_atomic.Goals as goal

pub returns : goal.returns
unfolding atomic_at
returns c = rw c.row_in.ensures
