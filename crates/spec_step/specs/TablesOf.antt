-- The tables of a call for a model: they hold what the step's laws ask, and every look-up in them is in range. Assumes nothing.
use Rattle.std.specs.Prelude.{ℕ, ◌≤◌, List, length}
use Rattle.definition.specs.Limits.{max_components}
use Rattle.definition.specs.Model.{Model, atomics}
use Rattle.spec_step.specs.Tabled.{Tabled}
use Rattle.spec_step.specs.Ranges.{InRange, Seated}

pub record TablesOf (m : Model) (t : List ℕ) : Type 0 where
  pub tabled : Tabled m t
  pub few : length (atomics m.components) ≤ max_components
  pub in_range : InRange t
  pub seated : Seated (length (atomics m.components)) t
