use Rattle.std.proofs.Common.{◌≤◌, length}
use Rattle.definition.specs.Engine.{to_bag}
use Rattle.model_records.specs.Values.{phases_in}
use Rattle.flat_rows.proofs.Collected.{So}
use Rattle.flat_rows.proofs.add_all.Given as goal

abbrev pub invariant-loop-i : goal.invariant-loop-i
invariant-loop-i l = record {
  within : l.at ≤ length l.rows;
  so : So (phases_in l.phases) l.tables l.flags (to_bag l.given) l.n l.i l.at l.rows;
}
