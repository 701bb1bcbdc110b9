-- What was read is put, the port first.
use Rattle.law_bytes.proofs.Rows.{number-one}
use Rattle.columns_records.proofs.put_message.Goals as goal

pub returns : goal.returns
returns c = rw (c.put_two.ensures, c.put_number.ensures, ← number-one c.args.port c.args.s.now)
