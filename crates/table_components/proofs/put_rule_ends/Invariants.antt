use Prim.Native.Nat.{◌-◌}
use mathlib.Core.Path.{◌≡◌}
use Rattle.model_records.specs.Values.{rules_in}
use Rattle.table_components.specs.Columns.{rule_ends}
use Rattle.table_components.proofs.put_rule_ends.Given as goal

-- the rules left, over the table as it stands, give the whole
abbrev pub invariant-loop-i : goal.invariant-loop-i
invariant-loop-i l = rule_ends (rules_in l.rules) (l.n - l.i) l.i l.t ≡ rule_ends (rules_in l.rules) l.n 0 l.initial.t
