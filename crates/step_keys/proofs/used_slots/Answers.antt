-- The used ones of four slots are as many as the record counts, and at most four.
use native.Mathlib.Omega.{arith}
use Rattle.step_keys.proofs.Laws.{length-outputs}
use Rattle.step_keys.proofs.used_slots.Goals as goal

pub returns-then-count-lt-SLOTS : goal.returns-then-count-lt-SLOTS
returns-then-count-lt-SLOTS c = omega (arith, length-outputs c.args.phase.now)

pub returns-else-count-lt-SLOTS : goal.returns-else-count-lt-SLOTS
returns-else-count-lt-SLOTS c = omega (arith, length-outputs c.args.phase.now)
