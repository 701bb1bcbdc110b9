use mathlib.Core.Path.{◌≡◌}
use Prim.Native.Nat.{◌≤◌, ◌*◌}
use Rattle.definition.specs.Model.{phases_before}
use Rattle.model_records.specs.Values.{components_in}
use Rattle.model_sections.proofs.phase_total.Given as goal

abbrev pub invariant-loop-c : goal.invariant-loop-c
invariant-loop-c l = (l.total ≤ 64 * l.c) × (l.total ≡ phases_before (components_in l.components) l.c)
