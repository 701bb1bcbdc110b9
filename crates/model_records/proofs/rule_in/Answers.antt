-- `model_records::rule_in` meets its contract. The bytes read are record i (record_is), field by field. Assumes nothing.
use Rattle.definition.specs.Limits.{rule_size}
use Rattle.definition.specs.Model.{no_rule}
use Rattle.definition.specs.Pinned.Decoder.{to_rule}
use Rattle.model_records.specs.Values.{rules_in}
use Rattle.model_records.proofs.Fields.{record-there, record_is}
use Rattle.model_records.proofs.rule_in.Goals as goal

pub returns : goal.returns
unfolding rules_in to_rule
returns c =
    rw (← record_is rule_size to_rule c.args.rules.now c.args.i no_rule c.requires c.record_bytes-bytes.ensures)
    (rw (c.byte_at.ensures, c.byte_at-2.ensures, c.byte_at-3.ensures, c.byte_at-4.ensures, c.u16_at.ensures)
    (rw (c.u16_at-2.ensures, c.u16_at-3.ensures, c.u32_at.ensures, c.u32_at-2.ensures)))

pub record_bytes-bytes-requires : goal.record_bytes-bytes-requires
unfolding rules_in
record_bytes-bytes-requires c = record-there _ to_rule _ _ c.requires
