-- One turn puts the start of the last rule that is left (starts_more); at the end none is left. Assumes nothing.
use native.Mathlib.Omega.{arith}
use mathlib.Core.Path.{sym, ap, ◌∙◌}
use Prim.Native.Nat.{◌-◌}
use Rattle.model_records.specs.Values.{rules_in}
use Rattle.table_components.specs.Columns.{rule_starts}
use Rattle.table_components.proofs.Loops.{starts_more, starts-end}
use Rattle.table_components.proofs.put_rule_starts.Goals as goal

pub loop-i-init : goal.loop-i-init
loop-i-init c = (omega arith, rw c.rule_word-i.ensures)

pub loop-i-preserved : goal.loop-i-preserved
loop-i-preserved c =
    let l = c.loop-i in
    let rs = rules_in c.args.rules.now in
    (omega arith, ap (rule_starts rs (l.i - 1)) c.put_named.ensures ∙ starts_more rs l.i l.t c.loop-i-test.true ∙ l.invariant.1)

pub returns : goal.returns
returns c =
    let l = c.loop-i in
    sym (starts-end (rules_in c.args.rules.now) l.i l.t (omega arith)) ∙ l.invariant.1
