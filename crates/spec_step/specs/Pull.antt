-- What is pulled from a port: by recursion over the nodes that lead there. A node is a port of a component, for output or for input; the
-- account is over any type of nodes, so that the code's numbers and the model's ports are two instances of it. Assumes nothing.
use Rattle.std.specs.Prelude.{ℕ, zero, suc, List, [], ◌∷◌, ◌++◌, Bool, cond}
use Rattle.definition.specs.Limits.{max_ancestors}

-- f of each, one after the other
unfoldable pub joined : {A B : Type 0} → (A → List B) → List A → List B
joined f [] = []
joined f (x ∷ xs) = f x ++ joined f xs

-- `rows x` has the nodes that lead to x, `sent x` the values that an atomic that is due puts out at its output node x.
module _ {N : Type 0} (rows : N → List N) (atomic : N → Bool) (sent : N → List ℕ) where
  -- The values at an output node of a child, where `below` says what a coupled one puts out.
  unfoldable pub child_out : (N → List ℕ) → N → List ℕ
  child_out below y = cond (atomic y) (sent y) (below y)

  -- The values at an output node of a coupled component, at most d levels down.
  unfoldable pub coupled_out : ℕ → N → List ℕ
  coupled_out zero x = []
  coupled_out (suc d) x = joined (child_out (coupled_out d)) (rows x)

  -- `given x` has the values given at the root's input node x.
  module _ (given : N → List ℕ) (root : N → Bool) (output : N → Bool) where
    -- The values that come from a node that leads to an input node: a sibling's output, or the parent's input.
    unfoldable pub source_in : (N → List ℕ) → N → List ℕ
    source_in above y = cond (output y) (child_out (coupled_out max_ancestors) y) (above y)

    -- The values at an input node, at most d levels up.
    unfoldable pub input_in : ℕ → N → List ℕ
    input_in zero x = cond (root x) (given x) []
    input_in (suc d) x = cond (root x) (given x) (joined (source_in (input_in d)) (rows x))
