-- `model_sections::read_rules` meets its contract. Invariant: record i is the next to be read (Reading). One that is refused ends the section
-- with its number (reading-refused), and with none left the section is accepted (reading-ends). Assumes nothing.
use native.Mathlib.Omega.{arith}
use Rattle.std.proofs.lemmas.Result.{err_from_is_err_and}
use Rattle.definition.specs.Pinned.Decoder.{rule_fits, rule_section}
use Rattle.model_records.specs.Values.{rules_in}
use Rattle.model_sections.proofs.Reading.{head-refused, reading-count, reading_refused, reading-more, reading-ends}
use Rattle.refusals.proofs.Numbers.{number-above}
use Rattle.model_sections.proofs.Forms.{rule_form}
use Rattle.model_sections.proofs.read_rules.Goals as goal

pub returns-in_err-check_head : goal.returns-in_err-check_head
unfolding rule_section
returns-in_err-check_head c =
    let p = err_from_is_err_and c.from_residual.result c.from_residual.ensures.1 in
    rw (p.1, p.2) (head-refused (rule_form _) _ c.u16_at-announced.ensures c.judge_limit.ensures c.in_err-check_head.ensures (number-above _))

pub read_rule-requires : goal.read_rule-requires
unfolding rules_in
read_rule-requires c = let there = reading-count c.loop-i.invariant in
    record { there = omega arith; known = c.requires }

pub returns-in_err-read_rule : goal.returns-in_err-read_rule
unfolding rules_in rule_section rule_fits
returns-in_err-read_rule c =
    let p = err_from_is_err_and c.from_residual-in_err-read_rule.result c.from_residual-in_err-read_rule.ensures.1 in
    rw (p.1, p.2) (reading_refused c.loop-i.invariant c.loop-i-test.true _ c.in_err-read_rule.ensures)

pub loop-i-preserved : goal.loop-i-preserved
unfolding rules_in rule_fits
loop-i-preserved c = reading-more c.loop-i.invariant c.loop-i-test.true _ c.in_ok-read_rule.ensures

pub returns : goal.returns
unfolding rule_section
returns c = reading-ends c.loop-i.invariant c.loop-i-test.false
