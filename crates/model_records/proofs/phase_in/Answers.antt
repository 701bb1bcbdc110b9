-- `model_records::phase_in` meets its contract. The bytes read are record i (record_is), field by field. Assumes nothing.
use Rattle.definition.specs.Limits.{phase_size}
use Rattle.definition.specs.Model.{no_phase}
use Rattle.definition.specs.Pinned.Decoder.{to_phase}
use Rattle.model_records.specs.Values.{phases_in}
use Rattle.model_records.proofs.Fields.{record-there, record_is}
use Rattle.model_records.proofs.phase_in.Goals as goal

pub returns : goal.returns
unfolding phases_in to_phase
returns c =
    rw (← record_is phase_size to_phase c.args.phases.now c.args.i no_phase c.requires c.record_bytes-bytes.ensures)
    (rw (c.u32_at.ensures, c.byte_at.ensures, c.byte_at-2.ensures, c.message_at.ensures)
    (rw (c.message_at-2.ensures, c.message_at-3.ensures, c.message_at-4.ensures)))

pub record_bytes-bytes-requires : goal.record_bytes-bytes-requires
unfolding phases_in
record_bytes-bytes-requires c = record-there _ to_phase _ _ c.requires
