-- What the answer of a model's check stands for: the model of the file's four parts with its reading of ranges, or the number of the refusal.
-- Assumes nothing.
use Rattle.std.specs.Prelude.{Result}
use Rattle.definition.specs.Bytes.{Bytes}
use Rattle.definition.specs.Bytes as Definition
use Rattle.definition.specs.Limits.{component_size, phase_size, rule_size, coupling_size}
use Rattle.definition.specs.Model.{Model}
use Rattle.law_base.specs.Ranges.{ranges_of}
use Rattle.law_bytes.specs.Parts.{part_of, rest_after}
use Rattle.model_records.specs.Values.{model_in}
use Rattle.model_file.specs.declared.Counts as N
use Rattle.refusals.specs.Refusals.{result_as}
use Rattle.refusals.specs.declared.Refusal.{Refusal}

-- ---- each section is read from where the one before it ended

unfoldable pub after_components : Bytes → N.Counts → Bytes
after_components file n = rest_after component_size n.components file

unfoldable pub after_phases : Bytes → N.Counts → Bytes
after_phases file n = rest_after phase_size n.phases (after_components file n)

unfoldable pub after_rules : Bytes → N.Counts → Bytes
after_rules file n = rest_after rule_size n.rules (after_phases file n)

-- ---- the four parts: the bytes of the records alone

unfoldable pub components_part : Bytes → N.Counts → Bytes
components_part file n = part_of component_size n.components file

unfoldable pub phases_part : Bytes → N.Counts → Bytes
phases_part file n = part_of phase_size n.phases (after_components file n)

unfoldable pub rules_part : Bytes → N.Counts → Bytes
rules_part file n = part_of rule_size n.rules (after_phases file n)

unfoldable pub couplings_part : Bytes → N.Counts → Bytes
couplings_part file n = part_of coupling_size n.couplings (after_rules file n)

unfoldable pub model_of : Bytes → N.Counts → Model
model_of file n = model_in (components_part file n) (phases_part file n) (rules_part file n) (couplings_part file n) (ranges_of n.half_open)

abbrev pub checked_as : Bytes → Result N.Counts Refusal → Definition.Result Model
checked_as file read = result_as (model_of file) read
