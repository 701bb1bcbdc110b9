-- A count and the rules are the section (`section-puts`).
use Rattle.flat_writer.proofs.Sections.{section-puts}
use Rattle.flat_writer.specs.Written.{rule_by}
use Rattle.model_records.specs.Values.{rules_in}
use Rattle.definition.specs.Records.{rule_bytes}
use lib.ListN.{length-map}
use mathlib.Core.List.{map}
use mathlib.Core.Path.{sym, ◌∙◌}
use Rattle.flat_writer.proofs.put_rules.Goals as goal

pub returns : goal.returns
returns c =
    let a = c.args in
    rw (c.put_rule_list.ensures, c.put_number.ensures)
    (section-puts rule_bytes (map (rule_by a.tables.now) (rules_in a.rules.now)) c.rule_count-n.result a.at a.out.now
    (c.rule_count-n.ensures ∙ sym (length-map (rules_in a.rules.now) (rule_by a.tables.now))))
