-- `model_records::component_in` meets its contract. The bytes read are record i (record_is), field by field. Assumes nothing.
use Rattle.definition.specs.Limits.{component_size}
use Rattle.definition.specs.Model.{component_at, no_component}
use Rattle.definition.specs.Pinned.Decoder.{to_component}
use Rattle.model_records.specs.Values.{components_in}
use Rattle.model_records.proofs.Fields.{record-there, record_is}
use Rattle.model_records.proofs.component_in.Goals as goal

pub returns : goal.returns
unfolding components_in to_component component_at
returns c =
    rw (← record_is component_size to_component c.args.components.now c.args.i no_component c.requires c.record_bytes-bytes.ensures)
    (rw (c.byte_at.ensures, c.byte_at-2.ensures, c.byte_at-3.ensures, c.byte_at-4.ensures, c.byte_at-5.ensures))

pub record_bytes-bytes-requires : goal.record_bytes-bytes-requires
unfolding components_in
record_bytes-bytes-requires c = record-there _ to_component _ _ c.requires
