use Prim.Native.Nat.{◌≤◌, ◌*◌}
use mathlib.Core.Path.{◌≡◌}
use Rattle.definition.specs.Model.{phases_before}
use Rattle.model_records.specs.Values.{components_in}
use Rattle.model_records.proofs.phases_before.Given as goal

abbrev pub invariant-loop-i : goal.invariant-loop-i
invariant-loop-i l = (l.total ≤ 255 * l.i) × (l.total ≡ phases_before (components_in l.components) l.i)
