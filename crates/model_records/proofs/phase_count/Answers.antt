-- `model_records::phase_count` meets its contract. A slice has room for its length over the record's size (length-records). Assumes
-- nothing.
use mathlib.Core.Path.{sym}
use Rattle.model_records.specs.Values.{phases_in}
use Rattle.law_bytes.proofs.Records.{length-records}
use Rattle.model_records.proofs.phase_count.Goals as goal

pub returns : goal.returns
unfolding phases_in
returns c = sym (length-records _ _ _)
