-- What a look-up in the tables of a call gives is again in range: a component, a position, a node or a link. About the words alone, never
-- about a model. Assumes nothing.
use Rattle.std.specs.Prelude.{◌≡◌, ℕ, ◌+◌, ◌*◌, ◌<◌, ◌≤◌, List, true, get_or}
use Rattle.definition.specs.Limits.{max_components, max_couplings}
use Rattle.spec_step.specs.Tables.{port_nodes, numbers_at, positions_at, parents_at, child_at, sibling_at, first_at, next_at, source_at, count_at, atomics_in, atomic_at}

-- How many nodes there may be.
abbrev pub max_nodes : ℕ
max_nodes = port_nodes * max_components

-- Every word of a region by component or position is a component or a position.
abbrev pub Below : List ℕ → ℕ → Type 0
Below t at = (c : ℕ) → c < max_components → get_or t (at + c) 0 < max_components

-- A word of a region by component is 0 for none, or a component that is numbered above.
abbrev pub Rising : List ℕ → ℕ → Type 0
Rising t at = (c : ℕ) → c < max_components → 0 < get_or t (at + c) 0 → c < get_or t (at + c) 0

pub record InRange (t : List ℕ) : Type 0 where
  pub numbers : Below t numbers_at
  pub positions : Below t positions_at
  pub parents : Below t parents_at
  pub children : Below t child_at
  pub siblings : Below t sibling_at
  pub children_rise : Rising t child_at
  pub siblings_rise : Rising t sibling_at
  pub firsts : (x : ℕ) → x < max_nodes → get_or t (first_at + x) 0 ≤ max_couplings
  pub nexts : (j : ℕ) → j ≤ max_couplings → get_or t (next_at + j) 0 ≤ max_couplings
  pub sources : (j : ℕ) → j ≤ max_couplings → get_or t (source_at + j) 0 < max_nodes
  pub count : get_or t count_at 0 ≤ max_components
  pub atomics : atomics_in t ≤ max_components

-- The positions of the atomics are those of n atomics.
abbrev pub Seated : ℕ → List ℕ → Type 0
Seated n t = (c : ℕ) → c < max_components → atomic_at t c ≡ true → get_or t (positions_at + c) 0 < n
