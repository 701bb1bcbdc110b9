-- `model_records::rule_at` meets its contract. A record that there is, or past the last the zeros that the definition has there too
-- (record-none). Assumes nothing.
use Rattle.definition.specs.Model.{no_rule}
use Rattle.model_records.specs.Values.{rules_in}
use Rattle.model_records.proofs.Fields.{record-none}
use mathlib.Core.Path.{◌≡◌, ◌∙◌}
use Rattle.model_records.specs.Values.{rule_of}
use Rattle.model_records.proofs.rule_at.Goals as goal

pub returns-else-i-rule_count : goal.returns-else-i-rule_count
unfolding no_rule
returns-else-i-rule_count c =
    let zeros : rule_of c.default.result ≡ no_rule = cc in
    zeros ∙ record-none (rules_in _) no_rule c.rule_count.ensures c.if-i-rule_count.false
