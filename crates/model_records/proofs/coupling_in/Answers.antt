-- `model_records::coupling_in` meets its contract. The bytes read are record i (record_is), field by field. Assumes nothing.
use Rattle.definition.specs.Limits.{coupling_size}
use Rattle.definition.specs.Model.{no_coupling}
use Rattle.definition.specs.Pinned.Decoder.{to_coupling}
use Rattle.model_records.specs.Values.{couplings_in}
use Rattle.model_records.proofs.Fields.{record-there, record_is}
use Rattle.model_records.proofs.coupling_in.Goals as goal

pub returns : goal.returns
unfolding couplings_in to_coupling
returns c =
    rw (← record_is coupling_size to_coupling c.args.couplings.now c.args.i no_coupling c.requires c.record_bytes-bytes.ensures)
    (rw (c.byte_at.ensures, c.byte_at-2.ensures, c.byte_at-3.ensures, c.byte_at-4.ensures))

pub record_bytes-bytes-requires : goal.record_bytes-bytes-requires
unfolding couplings_in
record_bytes-bytes-requires c = record-there _ to_coupling _ _ c.requires
