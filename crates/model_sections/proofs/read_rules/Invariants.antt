use Rattle.model_records.specs.Values.{components_in}
use Rattle.model_sections.proofs.Reading.{Reading}
use Rattle.model_sections.proofs.Forms.{rule_form}
use Rattle.model_sections.proofs.read_rules.Given as goal

abbrev pub invariant-loop-i : goal.invariant-loop-i
invariant-loop-i l = Reading (rule_form (components_in l.components)) l.rest_of_file l.announced l.records l.i
