-- `model_records::coupling_count` meets its contract. A slice has room for its length over the record's size (length-records). Assumes
-- nothing.
use mathlib.Core.Path.{sym}
use Rattle.model_records.specs.Values.{couplings_in}
use Rattle.law_bytes.proofs.Records.{length-records}
use Rattle.model_records.proofs.coupling_count.Goals as goal

pub returns : goal.returns
unfolding couplings_in
returns c = sym (length-records _ _ _)
