-- One turn puts the end of one rule more (ends_more); at the end none is left. Assumes nothing.
use native.Mathlib.Omega.{arith}
use native.Mathlib.Nat.{sub-zero}
use mathlib.Core.Path.{sym, ap, ◌∙◌}
use Prim.Native.Nat.{◌-◌, ◌+◌}
use Rattle.model_records.specs.Values.{rules_in}
use Rattle.table_components.specs.Columns.{rule_ends}
use Rattle.table_components.proofs.Loops.{ends_more, ends-end}
use Rattle.table_components.proofs.put_rule_ends.Goals as goal

pub loop-i-init : goal.loop-i-init
loop-i-init c = rw sub-zero

pub loop-i-preserved : goal.loop-i-preserved
loop-i-preserved c =
    let l = c.loop-i in
    let rs = rules_in c.args.rules.now in
    let n = c.rule_word-n.result in
    ap (rule_ends rs (n - (l.i + 1)) (l.i + 1)) c.put_named.ensures ∙ ends_more rs n l.i l.t c.loop-i-test.true ∙ l.invariant

pub returns : goal.returns
returns c =
    let a = c.args in
    let l = c.loop-i in
    let rs = rules_in a.rules.now in
    let n = c.rule_word-n.result in
    sym (ends-end rs n l.i l.t (omega arith)) ∙ l.invariant ∙ ap (λ n. rule_ends rs n 0 a.t.now) c.rule_word-n.ensures
