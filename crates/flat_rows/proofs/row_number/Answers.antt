-- The sum of the definition; each byte below 256, so that nothing is lost.
use Rattle.flat_rows.specs.Rows.{row_number}
use mathlib.Core.Path.{refl}
use Rattle.flat_rows.proofs.row_number.Goals as goal

pub returns : goal.returns
unfolding row_number
returns c = refl
