-- The flags of a step, one list: first the mark of each component, then for each whether something may reach its inputs. Assumes nothing.
use Rattle.std.specs.Prelude.{ℕ, ◌*◌, List, take, drop}
use Rattle.definition.specs.Limits.{max_components}

abbrev pub flags_size : ℕ
flags_size = 2 * max_components

unfoldable pub marks_in : List ℕ → List ℕ
marks_in flags = take max_components flags

unfoldable pub reached_in : List ℕ → List ℕ
reached_in flags = drop max_components flags
