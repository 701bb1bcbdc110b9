-- `model_records::coupling_at` meets its contract. A record that there is, or past the last the zeros that the definition has there too
-- (record-none). Assumes nothing.
use Rattle.definition.specs.Model.{no_coupling}
use Rattle.model_records.specs.Values.{couplings_in}
use Rattle.model_records.proofs.Fields.{record-none}
use mathlib.Core.Path.{◌≡◌, ◌∙◌}
use Rattle.model_records.specs.Values.{coupling_of}
use Rattle.model_records.proofs.coupling_at.Goals as goal

pub returns-else-i-coupling_count : goal.returns-else-i-coupling_count
unfolding no_coupling
returns-else-i-coupling_count c =
    let zeros : coupling_of c.default.result ≡ no_coupling = cc in
    zeros ∙ record-none (couplings_in _) no_coupling c.coupling_count.ensures c.if-i-coupling_count.false
