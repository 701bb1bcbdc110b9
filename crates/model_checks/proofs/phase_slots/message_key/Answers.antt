-- `model_checks::phase_slots::message_key` meets its contract. A port and a value make a number that gives them back (message-of-key). Assumes
-- nothing.
use native.Mathlib.Omega.{arith}
use Rattle.sort.proofs.Keys.{message-of-key}
use Rattle.model_records.specs.Values.{message_of}
use Rattle.model_checks.proofs.phase_slots.message_key.Goals as goal

pub returns : goal.returns
returns c = message-of-key (message_of c.args.message) (omega arith)
