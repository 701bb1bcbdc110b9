-- A rule with another head does not hold; any other is read, and what is found in the slice of it alone is found at its position.
use Rattle.std.proofs.Common.{◌≡◌, ◌*◌, ◌<◌, cond, map, get_or, sym, ap, ◌∙◌, arith}
use mathlib.Core.Option.{none, some}
use Rattle.definition.specs.Limits.{rule_size}
use Rattle.definition.specs.Pinned.Decoder.{to_rule}
use Rattle.law_base.specs.Keys.{message_of}
use Rattle.law_base.specs.Ranges.{ranges_of}
use Rattle.law_bytes.proofs.Records.{length-records}
use Rattle.model_records.specs.Values.{rule_of, rules_in}
use Rattle.step_rule.specs.Search.{found_of}
use Rattle.step_rule.proofs.Heads.{other-head}
use Rattle.step_rule.proofs.OneRule.{one-position, first_alone, one-moved}
use Rattle.step_rule.proofs.decided_at.Goals as goal

pub returns-then-head_at-head : goal.returns-then-head_at-head
returns-then-head_at-head c =
    let a = c.args in
    let x = map message_of a.bag.now in
    let byte : get_or a.rules.now (18 * a.i) 0 < 256 = omega (arith, c.type_inv.rules (18 * a.i)) in
    let other = other-head a.rules.now (ranges_of a.elapsed.half_open) a.component a.phase a.elapsed.time.0 x a.i c.requires.0 byte (λ q. c.if-head_at-head.true (rw c.requires.1 at
    c.head_at.ensures ∙ q ∙ sym c.requires.2)) in
    sym (one-position (ranges_of a.elapsed.half_open) a.component a.phase a.elapsed.time.0 x (rules_in a.rules.now) a.i ∙ ap (λ b. cond b (some a.i) none) other)

pub rule_in-rule-requires : goal.rule_in-rule-requires
unfolding rules_in
rule_in-rule-requires c = rw (length-records rule_size to_rule c.args.rules.now) c.requires.0

pub returns-in_err-j : goal.returns-in_err-j
returns-in_err-j c =
    let a = c.args in
    ap found_of c.from_residual.ensures
    ∙ one-moved (ranges_of a.elapsed.half_open) a.component a.phase a.elapsed.time.0 (map message_of a.bag.now) (rules_in a.rules.now) a.i (rule_of c.rule_in-rule.result) none
    c.rule_in-rule.ensures c.in_err-j.ensures

pub overflow_add-position : goal.overflow_add-position
overflow_add-position c =
    let a = c.args in
    let j = c.in_ok-j.j in
    let z : j ≡ 0 = first_alone (ranges_of a.elapsed.half_open) a.component a.phase a.elapsed.time.0 (map message_of a.bag.now) _ j c.in_ok-j.ensures in
    record { fits = omega arith }

pub returns : goal.returns
returns c =
    let a = c.args in
    one-moved (ranges_of a.elapsed.half_open) a.component a.phase a.elapsed.time.0 (map message_of a.bag.now) (rules_in a.rules.now) a.i (rule_of c.rule_in-rule.result) (some
    c.in_ok-j.j)
    c.rule_in-rule.ensures c.in_ok-j.ensures
