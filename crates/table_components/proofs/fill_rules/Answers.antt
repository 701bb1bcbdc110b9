-- The starts, then the ends over them. Assumes nothing.
use borrow.Author.Rules.{rules}
use Rattle.table_components.specs.Columns.{by_rule, rule_ends}
use Rattle.model_records.specs.Values.{rules_in}
use lib.ListN.{length}
use mathlib.Core.Path.{ap, ◌∙◌}
use Rattle.table_components.proofs.fill_rules.Goals as goal

pub returns : goal.returns
unfolding by_rule
returns c = c.put_rule_ends.ensures ∙ ap (rule_ends (rules_in c.args.rules.now) (length (rules_in c.args.rules.now)) 0) c.put_rule_starts.ensures
