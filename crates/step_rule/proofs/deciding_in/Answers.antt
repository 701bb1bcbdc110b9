-- No position is left; or the rule at the next one decides; or it does not, and a later one decides or none does.
use Rattle.std.proofs.Common.{map, sym, ◌∙◌, arith}
use Rattle.law_base.specs.Keys.{message_of}
use Rattle.law_base.specs.Ranges.{ranges_of}
use Rattle.step_rule.proofs.Structs.{found_here, found-later, found_none}
use Rattle.step_rule.proofs.deciding_in.Goals as goal

pub loop-i-preserved : goal.loop-i-preserved
loop-i-preserved c =
    let a = c.args in
    let l = c.loop-i in
    found-later a.rules.now (ranges_of a.elapsed.half_open) a.component a.phase a.elapsed.time.0 (map message_of a.bag.now) l.i a.end (omega arith)
    (sym c.rule_holds.ensures ∙ c.if-rule_holds.false) ∙ l.invariant

pub returns-then-rule_holds : goal.returns-then-rule_holds
returns-then-rule_holds c =
    let a = c.args in
    let l = c.loop-i in
    found_here a.rules.now (ranges_of a.elapsed.half_open) a.component a.phase a.elapsed.time.0 (map message_of a.bag.now) l.i a.end (omega arith)
    (sym c.rule_holds.ensures ∙ c.if-rule_holds.true) ∙ l.invariant

pub returns : goal.returns
returns c =
    let a = c.args in
    let l = c.loop-i in
    found_none a.rules.now (ranges_of a.elapsed.half_open) a.component a.phase a.elapsed.time.0 (map message_of a.bag.now) l.i a.end c.loop-i-test.false ∙ l.invariant
