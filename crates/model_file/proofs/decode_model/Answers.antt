-- `model_file::decode_model` meets its contract. A section that is refused ends the definition's reading with the same number, by what has been
-- read before it (components-off to further-off); what the components' section has learnt is what the others ask for. The records are those of
-- the four parts (further-on). Assumes nothing.
use Rattle.std.proofs.lemmas.Result.{err_from_is_err_and}
use Rattle.model_file.proofs.Chain.{components-off, phases-off, rules-off, couplings-off, further-off, further-on}
use Rattle.model_file.proofs.decode_model.Goals as goal

pub returns-in_err-components : goal.returns-in_err-components
returns-in_err-components c =
    let p = err_from_is_err_and c.from_residual.result c.from_residual.ensures.1 in
    rw (p.1, p.2) (components-off _ c.in_err-components.ensures.answer)

pub returns-in_err-phases : goal.returns-in_err-phases
returns-in_err-phases c =
    let p = err_from_is_err_and c.from_residual-in_err-phases.result c.from_residual-in_err-phases.ensures.1 in
    rw (p.1, p.2)
    (phases-off _ _ c.in_ok-components.ensures.answer c.section_part-component_records.ensures c.section_rest-after_components.ensures c.in_err-phases.ensures)

pub returns-in_err-rules : goal.returns-in_err-rules
returns-in_err-rules c =
    let p = err_from_is_err_and c.from_residual-in_err-rules.result c.from_residual-in_err-rules.ensures.1 in
    rw (p.1, p.2)
    (rules-off _ _ c.in_ok-components.ensures.answer c.section_part-component_records.ensures c.section_rest-after_components.ensures
    _ c.in_ok-phases.ensures c.section_rest-after_phases.ensures c.in_err-rules.ensures)

pub returns-in_err-couplings : goal.returns-in_err-couplings
returns-in_err-couplings c =
    let p = err_from_is_err_and c.from_residual-in_err-couplings.result c.from_residual-in_err-couplings.ensures.1 in
    rw (p.1, p.2)
    (couplings-off _ _ c.in_ok-components.ensures.answer c.section_part-component_records.ensures c.section_rest-after_components.ensures
    _ c.in_ok-phases.ensures c.section_rest-after_phases.ensures _ c.in_ok-rules.ensures c.section_rest-after_rules.ensures c.in_err-couplings.ensures)

pub returns-in_err-half_open : goal.returns-in_err-half_open
returns-in_err-half_open c =
    let p = err_from_is_err_and c.from_residual-in_err-half_open.result c.from_residual-in_err-half_open.ensures.1 in
    rw (p.1, p.2)
    (further-off _ _ c.in_ok-components.ensures.answer c.section_part-component_records.ensures c.section_rest-after_components.ensures
    _ c.in_ok-phases.ensures c.section_rest-after_phases.ensures _ c.in_ok-rules.ensures c.section_rest-after_rules.ensures
    _ c.in_ok-couplings.ensures c.section_rest-after_couplings.ensures c.section_part-rule_records.ensures c.in_err-half_open.ensures)

pub returns : goal.returns
returns c =
    further-on _ _ c.in_ok-components.ensures.answer c.section_part-component_records.ensures c.section_rest-after_components.ensures
    _ c.in_ok-phases.ensures c.section_rest-after_phases.ensures _ c.in_ok-rules.ensures c.section_rest-after_rules.ensures
    _ c.in_ok-couplings.ensures c.section_rest-after_couplings.ensures c.section_part-rule_records.ensures _ c.in_ok-half_open.ensures
