use Rattle.model_records.specs.Values.{components_in}
use Rattle.model_checks.proofs.Keeping.{FirstKnown}
use Rattle.model_sections.proofs.Reading.{Reading}
use Rattle.model_sections.proofs.Forms.{component_form}
use Rattle.model_sections.proofs.read_components.Given as goal

abbrev pub invariant-loop-i : goal.invariant-loop-i
invariant-loop-i l = Reading component_form l.file l.announced l.records l.i × FirstKnown (components_in l.records) l.i l.parents l.phase_counts l.depths
