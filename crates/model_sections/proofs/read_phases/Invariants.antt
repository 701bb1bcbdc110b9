use mathlib.Core.Path.{◌≡◌}
use Rattle.definition.specs.Model.{phases_before}
use Rattle.model_records.specs.Values.{components_in}
use Rattle.model_sections.proofs.Bounds.{Standing}
use Rattle.model_sections.proofs.Reading.{Reading}
use Rattle.model_sections.proofs.Forms.{phase_form}
use Rattle.model_sections.proofs.read_phases.Given as goal

abbrev pub invariant-loop : goal.invariant-loop
invariant-loop l = Reading (phase_form (components_in l.components)) l.rest_of_file l.announced l.records l.i × Standing (components_in l.components) l.c l.bound l.counter l.i

abbrev pub invariant-loop-c : goal.invariant-loop-c
invariant-loop-c l = Reading (phase_form (components_in l.components)) l.rest_of_file l.announced l.records l.i × (l.i ≡ phases_before (components_in l.components) l.c)
