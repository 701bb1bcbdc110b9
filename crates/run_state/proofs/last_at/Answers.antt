-- A word of the region of last moments.
use mathlib.Core.Path.{sym, refl}
use Prim.Native.Nat.{◌+◌}
use Rattle.run_state.specs.Held.{last_at, held_in}
use Rattle.run_state.proofs.Laws.{row_read}
use Rattle.run_state.proofs.last_at.Goals as goal

pub returns : goal.returns
unfolding held_in
returns c = sym (row_read last_at c.args.position (last_at + c.args.position) c.args.state.now refl c.requires)
