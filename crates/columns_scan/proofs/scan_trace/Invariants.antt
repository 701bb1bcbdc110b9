use mathlib.Core.Path.{◌≡◌}
use Prim.Native.Nat.{◌-◌, ◌≤◌}
use lib.ListN.{length}
use Rattle.law_columns.specs.ByPosition.{none_yet}
use Rattle.columns_scan.proofs.Laws.{carried, scan_rest}
use Rattle.columns_scan.proofs.scan_trace.Given as goal

abbrev pub invariant-loop-at : goal.invariant-loop-at
invariant-loop-at l = (l.at ≤ length l.s) × (l.records ≤ l.at) × (l.messages ≤ l.at) × (scan_rest l.s l.at (carried l.last l.records l.messages) ≡ scan_rest l.s 0 none_yet)

abbrev pub decreases-loop-at : goal.decreases-loop-at
decreases-loop-at l = length l.s - l.at
