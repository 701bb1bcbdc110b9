-- The number of a component in the flat form, from the tables of a call. Assumes nothing.
use Rattle.std.specs.Prelude.{ℕ, suc, ◌+◌, List, cond, get_or, eqb}
use Rattle.spec_step.specs.Tables.{positions_at}

-- The root is 0, and the atomics follow by position.
unfoldable pub rank_of : List ℕ → ℕ → ℕ
rank_of t c = cond (eqb c 0) 0 (suc (get_or t (positions_at + c) 0))
