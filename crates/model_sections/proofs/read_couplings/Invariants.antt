use Rattle.model_records.specs.Values.{components_in, couplings_in}
use Rattle.model_checks.specs.Known.{Behind}
use Rattle.model_sections.proofs.Reading.{Reading}
use Rattle.model_sections.proofs.Forms.{coupling_form}
use Rattle.model_sections.proofs.read_couplings.Given as goal

abbrev pub invariant-loop-i : goal.invariant-loop-i
invariant-loop-i l = Reading (coupling_form (components_in l.components)) l.rest_of_file l.announced l.records l.i × Behind (couplings_in l.records) l.i l.before
