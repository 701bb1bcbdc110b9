-- A rule's port and its two values are two keys, and a key lies between them where its message meets the rule.
use Rattle.std.proofs.Common.{◌+◌, ◌*◌, ◌<◌, ◌∙◌, arith}
use Rattle.definition.specs.Atomic.{meets}
use Rattle.model_records.specs.Values.{rule_of}
use Rattle.step_rule.specs.Search.{between}
use Rattle.step_rule.proofs.Laws.{count-keys, between_meets}
use Rattle.step_rule.proofs.count_meeting.Goals as goal

pub returns : goal.returns
returns c =
    let a = c.args in
    let low : (rule_of a.rule).low < 65536 = omega arith in
    let high : (rule_of a.rule).high < 65536 = omega arith in
    c.count_between.ensures ∙ count-keys (between (a.rule.port * 65536 + a.rule.low) (a.rule.port * 65536 + a.rule.high)) (meets (rule_of a.rule)) (between_meets (rule_of a.rule) low high) a.bag.now
