-- `model_records::message_at` meets its contract. The definition's own two fields. Assumes nothing.
use Rattle.definition.specs.Records.{message_at}
use Rattle.model_records.proofs.message_at.Goals as goal

pub returns : goal.returns
unfolding message_at
returns c = rw (c.byte_at.ensures, c.u16_at.ensures)
