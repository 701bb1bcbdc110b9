use Rattle.run_saved.proofs.Entries.{Wide}
use Rattle.run_state.specs.Held.{held_in, entries_of}
use Rattle.definition.specs.SavedRun.{to_run}
use mathlib.Core.Path.{◌≡◌}
use Rattle.run_saved.proofs.load.Given as goal

-- the entries before i are those of the bytes
abbrev pub invariant-loop-i : goal.invariant-loop-i
invariant-loop-i l = Wide (held_in l.state) × (entries_of l.i (held_in l.state) ≡ (to_run l.i l.run).entries)
