-- A word of the region of due moments.
use mathlib.Core.Path.{sym, refl}
use Prim.Native.Nat.{◌+◌}
use Rattle.run_state.specs.Held.{end_at, ends_in}
use Rattle.run_state.proofs.Laws.{row_read}
use Rattle.run_state.proofs.end_at.Goals as goal

pub returns : goal.returns
unfolding ends_in
returns c = sym (row_read end_at c.args.position (end_at + c.args.position) c.args.state.now refl c.requires)
