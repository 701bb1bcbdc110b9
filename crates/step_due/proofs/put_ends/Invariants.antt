use mathlib.Core.Path.{◌≡◌}
use lib.ListN.{length}
use Rattle.definition.specs.Limits.{max_components}
use Rattle.run_state.specs.Held.{held_in, ends_in}
use Rattle.step_due.specs.Due.{CarriedIn}
use Rattle.step_due.proofs.put_ends.Given as goal

abbrev pub invariant-loop-i : goal.invariant-loop-i
invariant-loop-i l = (length (ends_in l.state) ≡ max_components) × (held_in l.state ≡ held_in l.initial.state) × CarriedIn l.phases l.tables l.i l.state
