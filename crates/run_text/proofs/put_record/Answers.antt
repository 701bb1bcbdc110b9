-- The numbers at the record's front are those that its lines are made from.
use Rattle.run_text.specs.Text.{record_lines}
use Rattle.run_text.proofs.put_record.Goals as goal

pub returns : goal.returns
unfolding record_lines
returns c = rw (c.put_messages.ensures, c.rest.ensures, c.u16_at-2.ensures, c.u16_at.ensures, c.u64_at.ensures)
