use Rattle.std.proofs.Common.{◌≡◌, ◌+◌, ◌≤◌, drop}
use Rattle.definition.specs.Lists.{count}
use Rattle.step_rule.specs.Search.{between}
use Rattle.step_rule.proofs.count_between.Given as goal

abbrev pub invariant-loop-i : goal.invariant-loop-i
invariant-loop-i l = (l.n ≤ l.i) × (l.n + count (between l.low l.high) (drop l.i l.bag) ≡ count (between l.low l.high) l.bag)
