use Rattle.model_records.specs.Values.{components_in}
use Rattle.definition.specs.Model.{is_atomic}
use Rattle.definition.specs.Lists.{keep, up_from}
use lib.ListN.{length}
use Prim.Native.Nat.{◌≤◌}
use mathlib.Core.Path.{◌≡◌}
use Rattle.model_records.proofs.atomic_count.Given as goal

abbrev pub invariant-loop-c : goal.invariant-loop-c
invariant-loop-c l = (l.k ≤ l.c) × (l.k ≡ length (keep (is_atomic (components_in l.components)) (up_from 0 l.c)))
