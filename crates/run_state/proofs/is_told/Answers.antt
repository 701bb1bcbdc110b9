-- The bit of a position in the word of the bits.
use mathlib.Core.Path.{refl}
use Rattle.run_state.specs.Held.{is_told}
use Rattle.run_state.proofs.is_told.Goals as goal

pub returns : goal.returns
unfolding is_told
returns c = rw (c.bit_of.ensures, c.bits_in.ensures) refl
