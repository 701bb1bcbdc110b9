use Rattle.run_state.specs.Held.{held_in}
use Rattle.run_saved.specs.Runs.{entry_rows}
use Rattle.definition.specs.SavedRun.{run_length}
use lib.Seq.{sets}
use Prim.Native.Nat.{◌-◌}
use mathlib.Core.Path.{◌≡◌}
use Rattle.run_saved.proofs.put_entries.Given as goal

-- the rows still to be put from position i on make up the whole
abbrev pub invariant-loop-i : goal.invariant-loop-i
invariant-loop-i l = sets l.run (run_length l.i) (entry_rows (held_in l.state) l.i (l.n - l.i)) ≡ sets l.initial.run (run_length 0) (entry_rows (held_in l.state) 0 l.n)
