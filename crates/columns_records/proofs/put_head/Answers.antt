-- What was read is put, number by number; no store changes the length.
use Rattle.columns_records.specs.Places.{head_put}
use Rattle.columns_records.proofs.put_head.Goals as goal

pub returns : goal.returns
unfolding head_put
returns c = rw (c.put_two-2.ensures, c.put_two.ensures, c.put_number.ensures, c.u64_within-moment.ensures)
