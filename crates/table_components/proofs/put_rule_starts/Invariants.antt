use Prim.Native.Nat.{◌≤◌}
use lib.ListN.{length}
use mathlib.Core.Path.{◌≡◌}
use Rattle.model_records.specs.Values.{rules_in}
use Rattle.table_components.specs.Columns.{rule_starts}
use Rattle.table_components.proofs.put_rule_starts.Given as goal

-- the rules left, over the table as it stands, give the whole
abbrev pub invariant-loop-i : goal.invariant-loop-i
invariant-loop-i l = (l.i ≤ length (rules_in l.rules)) × (rule_starts (rules_in l.rules) l.i l.t ≡ rule_starts (rules_in l.rules) (length (rules_in l.rules)) l.initial.t)
