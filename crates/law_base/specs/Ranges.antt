-- How a model reads its elapsed ranges, as the code has it: a flag, up where the high ends are excluded. Assumes nothing.
use Rattle.std.specs.Prelude.{Bool, true, false}
use Rattle.definition.specs.Model.{RangeReading, inclusive, half_open}

abbrev pub ranges_of : Bool → RangeReading
ranges_of false = inclusive
ranges_of true = half_open
