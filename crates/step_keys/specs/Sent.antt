-- The values that an atomic puts out on a port, by its mark: 0 where it is not due, else its phase record's number and 1. Assumes nothing.
use Rattle.std.specs.Prelude.{ℕ, ◌-◌, List, [], ◌∷◌, Bool, cond, get_or, eqb}
use Rattle.definition.specs.Model.{Phase, no_phase, outputs}
use Rattle.spec_step.specs.Put.{values_on}

unfoldable pub sent_on : List Phase → ℕ → ℕ → List ℕ
sent_on ps mark q = cond (eqb mark 0) [] (values_on q (outputs (get_or ps (mark - 1) no_phase)))

-- A value, where it is wanted.
unfoldable pub wanted_value : Bool → ℕ → List ℕ
wanted_value wanted v = cond wanted (v ∷ []) []
