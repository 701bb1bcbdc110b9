-- `model_checks::read_rule` meets its contract. The record where its test passes (keeps), 7 where it does not (breaks). Assumes nothing.
use borrow.Author.Rules.{rules}
use mathlib.Core.Path.{sym, ◌∙◌}
use Rattle.model_checks.proofs.Laws.{keeps, breaks}
use Rattle.model_checks.proofs.read_rule.Goals as goal

pub returns-then-rule_fields : goal.returns-then-rule_fields
returns-then-rule_fields c = rw (← c.rule_in-rule.ensures) (sym (keeps _ 7 _ (sym c.rule_fields.ensures ∙ c.if-rule_fields.true)))

pub returns-else-rule_fields : goal.returns-else-rule_fields
returns-else-rule_fields c = rw (← c.rule_in-rule.ensures) (sym (breaks _ 7 _ (sym c.rule_fields.ensures ∙ c.if-rule_fields.false)))
