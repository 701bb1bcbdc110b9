-- The tables by node and by link, as they are written: the couplings that end at each node, the node where each begins, and the nodes to
-- which a source can lead. Coupling i is link i + 1. Assumes nothing.
use Rattle.std.specs.Prelude.{◌≡◌, ℕ, zero, suc, ◌+◌, ◌-◌, ◌*◌, ◌<◌, ◌≤◌, List, Bool, true, false, cond, length, get_or, replicate, eqb}
use Rattle.definition.specs.Limits.{max_components}
use Rattle.definition.specs.Model.{Component, Coupling, no_coupling, is_atomic}
use Rattle.law_routes.specs.Ways.{end_at}
use Rattle.spec_step.specs.Tables.{port_nodes, input_node, output_node, is_output, is_root_node, node_component, first_at, live_at, next_at, source_at, table_size, source_number, target_number}
use Rattle.spec_step.specs.Tabled.{is_live}
use Rattle.table_words.specs.Writes.{column, put_in, linked}
use Rattle.table_couplings.specs.declared.End.{End}
use Rattle.table_couplings.specs.declared.End.TheVariants.{Source, Target}

-- Port q of component c, on its output side or on its input side.
unfoldable pub side_node : Bool → ℕ → ℕ → ℕ
side_node output c q = cond output (output_node c q) (input_node c q)

-- The nodes of a coupling, and of a link.
abbrev pub end_of : End → List Component → Coupling → ℕ
end_of Source cs k = source_number cs k
end_of Target cs k = target_number cs k

unfoldable pub link_end : End → List Component → List Coupling → ℕ → ℕ
link_end which cs ks j = end_of which cs (get_or ks (j - 1) no_coupling)

-- The node where link j begins, as a table has it.
abbrev pub source_in : List ℕ → ℕ → ℕ
source_in t j = get_or t (source_at + j) 0

-- A table holds f of each of the first n links.
abbrev pub Held : (ℕ → ℕ) → ℕ → List ℕ → Type 0
Held f n t = (j : ℕ) → 0 < j → j ≤ n → get_or t j 0 ≡ f j

-- The first n links join nodes that there is room for.
abbrev pub OnNodes : (ℕ → ℕ) → (ℕ → ℕ) → ℕ → Type 0
OnNodes src tgt n = (j : ℕ) → 0 < j → j ≤ n → (src j < port_nodes * max_components) × (tgt j < port_nodes * max_components)

-- The words of the links are the couplings' nodes: where each ends, in a list of its own, and where it begins, in a table.
pub record Joined (cs : List Component) (ks : List Coupling) (targets t : List ℕ) : Type 0 where
  pub ends : Held (link_end Target cs ks) (length ks) targets
  pub begins : (j : ℕ) → 0 < j → j ≤ length ks → source_in t j ≡ link_end Source cs ks j
  pub nodes : OnNodes (link_end Source cs ks) (link_end Target cs ks) (length ks)

-- The table with the nodes where the links begin.
unfoldable pub begun : List Component → List Coupling → List ℕ → List ℕ
begun cs ks t = column (source_at + 1) (λ i. link_end Source cs ks (1 + i)) (length ks) 0 t

-- Tables before anything stands in them.
unfoldable pub zeros : List ℕ
zeros = replicate table_size 0

-- The nodes of the links stand, and nothing else: what a check of a model leaves, and where filling the tables goes on.
pub record Begun (cs : List Component) (ks : List Coupling) (targets t : List ℕ) : Type 0 where
  pub ends : Held (link_end Target cs ks) (length ks) targets
  pub begins : t ≡ begun cs ks zeros
  pub nodes : OnNodes (link_end Source cs ks) (link_end Target cs ks) (length ks)

-- "from an atomic's output port or a root input port"
unfoldable pub is_source : List Component → ℕ → Bool
is_source cs x = cond (is_output x) (is_atomic cs (node_component x)) (is_root_node x)

unfoldable pub source_flag : List Component → ℕ → ℕ
source_flag cs x = cond (is_source cs x) 1 0

-- The nodes where messages begin, or those where they end: each is the root's or an atomic's.
abbrev pub flag_at : Bool → List Component → ℕ → ℕ
flag_at true = source_flag
flag_at false = end_at

unfoldable pub port_flag : Bool → List Component → ℕ → ℕ
port_flag root cs c = cond root (cond (eqb c 0) 1 0) (cond (is_atomic cs c) 1 0)

-- A flag for each node, from `at` on.
abbrev pub marked : ℕ → (List Component → ℕ → ℕ) → List Component → List ℕ → List ℕ
marked at flag cs t = column at (flag cs) (port_nodes * length cs) 0 t

-- Where x is live, so is y.
unfoldable pub spread : ℕ → ℕ → List ℕ → List ℕ
spread x y t = let live = put_in live_at (port_nodes * max_components) y 1 t in cond (is_live t x) live t

module _ (src tgt : ℕ → ℕ) where
  -- Along the links n to 1: outputs, from the deepest components up, since a child's links stand after its parent's.
  unfoldable pub spread_up : ℕ → List ℕ → List ℕ
  spread_up zero t = t
  spread_up (suc j) t = spread_up j (spread (src (suc j)) (tgt (suc j)) t)

  -- Along m links from j on: inputs, from the root down.
  unfoldable pub spread_down : ℕ → ℕ → List ℕ → List ℕ
  spread_down zero j t = t
  spread_down (suc m) j t = spread_down m (j + 1) (spread (src j) (tgt j) t)

  -- Every table by node and by link but the nodes where links begin, from the nodes of the m links.
  unfoldable pub by_link : List Component → ℕ → List ℕ → List ℕ
  by_link cs m t =
      let chains = linked first_at (port_nodes * max_components) next_at tgt m t in
      spread_down m 1 (spread_up m (marked live_at source_flag cs chains))

unfoldable pub by_coupling : List Component → List Coupling → List ℕ → List ℕ
by_coupling cs ks t = by_link (link_end Source cs ks) (link_end Target cs ks) cs (length ks) t
