-- A byte of a word of the first region.
use mathlib.Core.Path.{refl}
use Rattle.run_state.specs.Held.{byte_of, held_in}
use Rattle.run_state.proofs.Laws.{view-read}
use Rattle.run_state.proofs.phase_at.Goals as goal

pub returns : goal.returns
unfolding held_in byte_of
returns c = view-read byte_of c.args.position c.args.state.now refl c.requires
