-- What a due moment of the code stands for in the definitions. Assumes nothing.
use Rattle.std.specs.Prelude.{ℕ, Option, Some, None}
use Rattle.definition.specs.Devs.{Time, finite, never}
use Rattle.clock.specs.declared.Moment.{Moment}

-- The latest moment of 64 bits.
abbrev pub latest : ℕ
latest = 18446744073709551615

abbrev pub time_of : Option Moment → Time
time_of (Some m) = finite m.0
time_of None = never
