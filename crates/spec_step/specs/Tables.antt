-- The tables of a call: one list of numbers, with a region for each thing that a step looks up. Regions begin at named places and follow
-- from the limits. Past the end everything is 0. Assumes nothing.
use Rattle.std.specs.Prelude.{ℕ, zero, suc, ◌+◌, ◌*◌, ◌/◌, ◌%◌, List, [], ◌∷◌, map, Bool, not, cond, get_or, eqb, ltb}
use Rattle.definition.specs.Limits.{max_components, max_couplings, port_count}
use Rattle.definition.specs.Model.{RangeReading}
use Rattle.law_base.specs.Ranges.{ranges_of}
pub use Rattle.law_routes.specs.Nodes.{port_nodes}
unfoldable pub use Rattle.law_routes.specs.Nodes.{input_node, output_node, source_number, target_number}

-- ---- port nodes, as `Nodes` numbers them: component × 8, 4 more for an output, and the port

unfoldable pub node_component : ℕ → ℕ
node_component x = x / port_nodes

unfoldable pub node_port : ℕ → ℕ
node_port x = x % port_count

unfoldable pub is_output : ℕ → Bool
is_output x = not (ltb (x % port_nodes) port_count)

unfoldable pub is_root_node : ℕ → Bool
is_root_node x = ltb x port_nodes

-- ---- where the regions begin

-- by position among the atomics: its component number
abbrev pub numbers_at : ℕ
numbers_at = 0

-- by component: the position of an atomic; kind; order; first phase record; parent; first rule that names it, and one past the last
abbrev pub positions_at : ℕ
positions_at = max_components

abbrev pub kinds_at : ℕ
kinds_at = 2 * max_components

abbrev pub orders_at : ℕ
orders_at = 3 * max_components

abbrev pub phases_at : ℕ
phases_at = 4 * max_components

abbrev pub parents_at : ℕ
parents_at = 5 * max_components

abbrev pub rules_from_at : ℕ
rules_from_at = 6 * max_components

abbrev pub rules_to_at : ℕ
rules_to_at = 7 * max_components

-- by component: its first child, and the next child of the same parent; 0 where there is none (the root is nobody's child)
abbrev pub child_at : ℕ
child_at = 8 * max_components

abbrev pub sibling_at : ℕ
sibling_at = 9 * max_components

-- by node: the link of the first coupling that ends there, or 0; and whether a source can lead there, 0 for no
abbrev pub first_at : ℕ
first_at = 10 * max_components

abbrev pub live_at : ℕ
live_at = (10 + port_nodes) * max_components

-- by link (coupling i is link i + 1, and link 0 is none): the next coupling that ends at the same node, or 0; and the node where the
-- coupling begins
abbrev pub next_at : ℕ
next_at = (10 + 2 * port_nodes) * max_components

abbrev pub source_at : ℕ
source_at = next_at + (max_couplings + 1)

-- one number: how many components there are
abbrev pub count_at : ℕ
count_at = source_at + (max_couplings + 1)

-- one number: how many atomics there are
abbrev pub atomics_at : ℕ
atomics_at = count_at + 1

-- one number: whether the high ends of elapsed ranges are excluded, 0 for no
abbrev pub ranges_at : ℕ
ranges_at = atomics_at + 1

abbrev pub table_size : ℕ
table_size = ranges_at + 1

abbrev pub atomics_in : List ℕ → ℕ
atomics_in t = get_or t atomics_at 0

abbrev pub ranges_in : List ℕ → RangeReading
ranges_in t = ranges_of (not (eqb (get_or t ranges_at 0) 0))

-- ---- chains of links

-- The links from j on, where `next` follows one; 0 ends them, and so does having taken n.
unfoldable pub links : (ℕ → ℕ) → ℕ → ℕ → List ℕ
links next zero j = []
links next (suc n) j = cond (eqb j 0) [] (j ∷ links next n (next j))

module _ (t : List ℕ) where
  -- The nodes where the couplings that end at node x begin, in file order.
  unfoldable pub chain_rows : ℕ → List ℕ
  chain_rows x = map (λ j. get_or t (source_at + j) 0) (links (λ j. get_or t (next_at + j) 0) max_couplings (get_or t (first_at + x) 0))

  -- The children of component c in file order.
  unfoldable pub child_rows : ℕ → List ℕ
  child_rows c = links (λ d. get_or t (sibling_at + d) 0) max_components (get_or t (child_at + c) 0)

  unfoldable pub atomic_at : ℕ → Bool
  atomic_at c = eqb (get_or t (kinds_at + c) 0) 1

  unfoldable pub atomic_node : ℕ → Bool
  atomic_node x = atomic_at (node_component x)
