-- The table of ways while links are taken one by one, on their words alone: link j begins at node src j and ends at node tgt j. Assumes
-- nothing.
use Rattle.std.specs.Prelude.{ℕ, zero, suc, ◌+◌, min, List, Bool, true, false, cond, get_or, set}
use Rattle.std.specs.Bool.{beq}
use Rattle.law_routes.specs.Ways.{ways_cap}
use Rattle.spec_step.specs.Tables.{is_output}

-- A link taken: the ways on from where it ends, y, are ways on from where it begins, x.
unfoldable pub link_taken : ℕ → ℕ → List ℕ → List ℕ
link_taken x y ways = set ways x (min ways_cap (get_or ways x 0 + get_or ways y 0))

-- It is taken in the first pass where it begins at an input, and in the second where it begins at an output.
unfoldable pub link_on : Bool → ℕ → ℕ → List ℕ → List ℕ
link_on output x y ways = cond (beq (is_output x) output) (link_taken x y ways) ways

module _ (src tgt : ℕ → ℕ) where
  -- The links n to 1, in the first pass.
  unfoldable pub ways_down : ℕ → List ℕ → List ℕ
  ways_down zero ways = ways
  ways_down (suc j) ways = ways_down j (link_on false (src (suc j)) (tgt (suc j)) ways)

  -- m links from j on, in the second.
  unfoldable pub ways_up : ℕ → ℕ → List ℕ → List ℕ
  ways_up zero j ways = ways
  ways_up (suc m) j ways = ways_up m (j + 1) (link_on true (src j) (tgt j) ways)
