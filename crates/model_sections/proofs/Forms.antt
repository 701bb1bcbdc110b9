-- The four sections as forms. Assumes nothing.
use mathlib.Core.List.{List}
use Rattle.definition.specs.Limits.{max_rules, max_couplings, component_size, phase_size, rule_size, coupling_size}
use Rattle.definition.specs.Model.{Component, Phase, Rule, Coupling}
use Rattle.definition.specs.File.{phase_total}
use Rattle.definition.specs.Pinned.Decoder.{to_component, to_phase, to_rule, to_coupling, component_fits, phase_fits, rule_fits, coupling_fits, component_count_refusal, phase_count_refusal, limit_refusal}
use Rattle.model_sections.proofs.Reading.{Form}

abbrev pub component_form : Form Component
component_form = record { size = component_size; wrong = component_count_refusal; to = to_component; fits = component_fits; bad = 4 }

abbrev pub phase_form : List Component → Form Phase
phase_form cs = record { size = phase_size; wrong = phase_count_refusal (phase_total cs); to = to_phase; fits = phase_fits cs; bad = 6 }

abbrev pub rule_form : List Component → Form Rule
rule_form cs = record { size = rule_size; wrong = limit_refusal max_rules; to = to_rule; fits = rule_fits cs; bad = 7 }

abbrev pub coupling_form : List Component → Form Coupling
coupling_form cs = record { size = coupling_size; wrong = limit_refusal max_couplings; to = to_coupling; fits = coupling_fits cs; bad = 8 }
