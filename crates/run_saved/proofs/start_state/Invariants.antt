use Rattle.run_saved.proofs.Starting.{started_to}
use Rattle.run_saved.proofs.Entries.{Wide}
use Rattle.run_state.specs.Held.{held_in, entries_of}
use Rattle.model_records.specs.Values.{components_in}
use Rattle.definition.specs.Model.{is_atomic}
use Rattle.definition.specs.Lists.{keep, up_from}
use lib.ListN.{length}
use Prim.Native.Nat.{◌≤◌}
use mathlib.Core.Path.{◌≡◌}
use Rattle.run_saved.proofs.start_state.Given as goal

-- the first k entries are those of the atomics before component c
abbrev pub invariant-loop-c : goal.invariant-loop-c
invariant-loop-c l = let cs = components_in l.components in
    (l.k ≤ l.c) × (l.k ≡ length (keep (is_atomic cs) (up_from 0 l.c))) × Wide (held_in l.state) × (entries_of l.k (held_in l.state) ≡ started_to cs l.c)
