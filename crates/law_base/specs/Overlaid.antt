-- Positions of rules by place, with those of a step put over them: nothing where an atomic had no external part. Assumes nothing.
use Rattle.std.specs.Prelude.{ℕ, ◌+◌, List, [], ◌∷◌, set}
use Rattle.std.proofs.Math.Option.{Option, none, some}

-- The later one, where there is one.
unfoldable pub later_or : ℕ → Option ℕ → ℕ
later_or i none = i
later_or i (some j) = j

unfoldable pub overlaid : List ℕ → List (Option ℕ) → List ℕ
overlaid [] ps = []
overlaid (i ∷ is) [] = i ∷ is
overlaid (i ∷ is) (p ∷ ps) = later_or i p ∷ overlaid is ps

-- The same one after the other, from place i on.
unfoldable pub put_part : List ℕ → ℕ → Option ℕ → List ℕ
put_part is i none = is
put_part is i (some j) = set is i j

unfoldable pub put_parts : List ℕ → ℕ → List (Option ℕ) → List ℕ
put_parts is i [] = is
put_parts is i (p ∷ ps) = put_parts (put_part is i p) (i + 1) ps
