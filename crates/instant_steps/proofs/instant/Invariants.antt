use Prim.Native.Nat.{◌-◌}
use Rattle.definition.specs.Limits.{max_steps}
use Rattle.instant_steps.proofs.Sofar.{Stepping}
use Rattle.instant_steps.proofs.instant.Given as goal

abbrev pub invariant-loop-at : goal.invariant-loop-at
invariant-loop-at l = Stepping l.phases l.rules l.tables l.at.0 l.given l.initial.state l.initial.work l.initial.out l.from l.state l.work l.out l.used l.k

abbrev pub decreases-loop-at : goal.decreases-loop-at
decreases-loop-at l = max_steps - l.k
