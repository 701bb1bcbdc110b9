use Rattle.run_saved.proofs.Fitting.{atomics_from, fit_from}
use Rattle.run_saved.specs.Runs.{entries_fit_in}
use Rattle.model_records.specs.Values.{components_in}
use Rattle.definition.specs.Model.{atomics, phases_before}
use lib.ListN.{length}
use Prim.Native.Nat.{◌≤◌, ◌+◌, ◌*◌}
use mathlib.Core.Path.{◌≡◌}
use Rattle.run_saved.proofs.entries_fit.Given as goal

-- the rest of the test from component c on, with k atomics and the first phases before it, is the whole test
abbrev pub invariant-loop-c : goal.invariant-loop-c
invariant-loop-c l = let cs = components_in l.components in
    (l.k ≤ l.c) × (l.first ≤ 255 * l.c) × (l.first ≡ phases_before cs l.c) × (l.k + length (atomics_from cs l.c) ≡ length (atomics cs)) × (fit_from l.components l.phases l.run l.c l.k ≡ entries_fit_in l.components l.phases l.run)
