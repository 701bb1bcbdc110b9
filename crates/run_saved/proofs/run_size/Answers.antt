-- The sum is the definition.
use Rattle.definition.specs.SavedRun.{run_length}
use mathlib.Core.Path.{refl}
use Rattle.run_saved.proofs.run_size.Goals as goal

pub returns : goal.returns
unfolding run_length
returns c = refl
