-- `model_records::component_at` meets its contract. A record that there is, or past the last the zeros that the definition has there too
-- (record-none). Assumes nothing.
use Rattle.definition.specs.Model.{component_at, no_component}
use Rattle.model_records.specs.Values.{components_in}
use Rattle.model_records.proofs.Fields.{record-none}
use mathlib.Core.Path.{◌≡◌, ◌∙◌}
use Rattle.model_records.specs.Values.{component_of}
use Rattle.model_records.proofs.component_at.Goals as goal

pub returns-else-i-component_count : goal.returns-else-i-component_count
unfolding component_at no_component
returns-else-i-component_count c =
    let zeros : component_of c.default.result ≡ no_component = cc in
    zeros ∙ record-none (components_in _) no_component c.component_count.ensures c.if-i-component_count.false
