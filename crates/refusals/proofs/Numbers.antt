-- No refusal has the number 0, which tells that nothing is refused. Assumes nothing.
use native.Mathlib.Omega.{arith}
use Prim.Native.Nat.{◌<◌}
use Rattle.refusals.specs.Refusals.{number_of}
use Rattle.refusals.specs.declared.Refusal.{Refusal}
use Rattle.refusals.specs.declared.Refusal.TheVariants as R

pub number-above : (r : Refusal) → 0 < number_of r
number-above R.ModelCut = omega arith
number-above R.ModelLeftOver = omega arith
number-above R.CountLimit = omega arith
number-above R.BadComponent = omega arith
number-above R.PhaseSum = omega arith
number-above R.BadPhase = omega arith
number-above R.BadRule = omega arith
number-above R.BadCoupling = omega arith
number-above R.TooManyRoutes = omega arith
number-above R.RunDoesNotFit = omega arith
number-above R.BadMoment = omega arith
number-above R.BadBag = omega arith
number-above R.StillDue = omega arith
number-above R.BufferTooShort = omega arith
number-above R.BadPosition = omega arith
number-above R.NotATrace = omega arith
number-above R.NotColumns = omega arith
number-above R.BadFeed = omega arith
number-above R.BadFifthSection = omega arith
number-above R.BadChannels = omega arith
number-above R.OutOfSteps = omega arith
