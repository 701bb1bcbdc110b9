-- `model_records::phase_at` meets its contract. A record that there is, or past the last the zeros that the definition has there too
-- (record-none). Assumes nothing.
use Rattle.definition.specs.Model.{no_phase, no_message}
use Rattle.model_records.specs.Values.{phases_in}
use Rattle.model_records.proofs.Fields.{record-none}
use mathlib.Core.Path.{◌≡◌, ◌∙◌}
use Rattle.model_records.specs.Values.{phase_of}
use Rattle.model_records.proofs.phase_at.Goals as goal

pub returns-else-i-phase_count : goal.returns-else-i-phase_count
unfolding no_phase no_message
returns-else-i-phase_count c =
    let zeros : phase_of c.default.result ≡ no_phase = cc in
    zeros ∙ record-none (phases_in _) no_phase c.phase_count.ensures c.if-i-phase_count.false
