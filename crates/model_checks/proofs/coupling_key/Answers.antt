-- `model_checks::coupling_key` meets its contract. Four bytes make a number that gives them back (coupling-of-key). Assumes nothing.
use native.Mathlib.Omega.{arith}
use Rattle.model_records.specs.Values.{coupling_of}
use Rattle.sort.proofs.Keys.{coupling-of-key}
use Rattle.model_checks.proofs.coupling_key.Goals as goal

pub returns : goal.returns
returns c =
    coupling-of-key (coupling_of c.args.coupling) (omega arith) (omega arith) (omega arith)
