-- The number of each refusal, and what an answer of the code that may be one stands for in the definitions. Assumes nothing.
use Rattle.std.specs.Prelude.{ℕ, Option, Some, None, Result, Ok, Err}
use Rattle.definition.specs.Bytes as Definition
use Rattle.refusals.specs.declared.Refusal.{Refusal}
use Rattle.refusals.specs.declared.Refusal.TheVariants as R

abbrev pub number_of : Refusal → ℕ
number_of R.ModelCut = 1
number_of R.ModelLeftOver = 2
number_of R.CountLimit = 3
number_of R.BadComponent = 4
number_of R.PhaseSum = 5
number_of R.BadPhase = 6
number_of R.BadRule = 7
number_of R.BadCoupling = 8
number_of R.TooManyRoutes = 9
number_of R.RunDoesNotFit = 10
number_of R.BadMoment = 11
number_of R.BadBag = 12
number_of R.StillDue = 13
number_of R.BufferTooShort = 15
number_of R.BadPosition = 16
number_of R.NotATrace = 17
number_of R.NotColumns = 18
number_of R.BadFeed = 19
number_of R.BadFifthSection = 20
number_of R.BadChannels = 21
number_of R.OutOfSteps = 22

-- What is answered, seen by `of`, or the number of the refusal.
abbrev pub result_as : {T A : Type 0} → (T → A) → Result T Refusal → Definition.Result A
result_as of (Ok x) = Definition.ok (of x)
result_as of (Err r) = Definition.refused (number_of r)

-- The answer of a call, or the one that a refusal has by its number.
abbrev pub settled : {T : Type 0} → (ℕ → T) → Result T Refusal → T
settled refused (Ok x) = x
settled refused (Err r) = refused (number_of r)

-- The number that an answer tells, 0 where nothing is refused.
abbrev pub told_in : {T : Type 0} → Result T Refusal → ℕ
told_in (Ok x) = 0
told_in (Err r) = number_of r

-- The number of a refusal, 0 where there is none.
abbrev pub number_in : Option Refusal → ℕ
number_in None = 0
number_in (Some r) = number_of r
