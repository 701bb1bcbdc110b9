-- How many ways lead on from a port to an end, by component number and by node; and the saturated table of these counts, which decides
-- number 9 and is the live test of flattening. Assumes nothing.
use Rattle.std.specs.Prelude.{◌≡◌, ℕ, zero, suc, ◌+◌, ◌*◌, ◌-◌, ◌/◌, ◌%◌, ◌<◌, min, List, map, true, cond, ltb, eqb, length, get_or}
use Rattle.definition.specs.Lists.{up_from}
use Rattle.definition.specs.Limits.{port_count, max_routes}
use Rattle.definition.specs.Model.{Component, Coupling, component_at, is_atomic, is_child, children, Tree, forest, tree_at}
use Rattle.definition.specs.Routes.{ports_to, ends_in, ends_from}
use Rattle.definition.specs.Pinned.Decoder.{component_fits, coupling_fits}
use Rattle.law_base.proofs.Sums.{sum_of}
use Rattle.law_routes.specs.Nodes.{port_nodes}

-- The tree of component c.
unfoldable pub sub : List Component → ℕ → Tree
sub cs c = tree_at (suc (length cs)) cs c

-- From input port q of component c: the ends that the definition of routes finds there.
unfoldable pub down : List Component → List Coupling → ℕ → ℕ → ℕ
down cs ks c q = length (ends_in ks (sub cs c) q)

-- From output port q of component c: across to its siblings and down, or up to its parent's output and on from there; the root's output
-- is an end. At most `levels` up.
unfoldable pub up_in : List Component → List Coupling → ℕ → ℕ → ℕ → ℕ
up_in cs ks zero c q = 1
up_in cs ks (suc levels) c q =
    let parent = (component_at cs c).parent in
    let on = length (ends_from ks c (forest (map (sub cs) (children cs parent))) q) + sum_of (λ p. up_in cs ks levels parent p) (ports_to ks c parent q) in
    cond (eqb c 0) 1 on

-- Parents have lower numbers, so c levels are enough.
unfoldable pub up : List Component → List Coupling → ℕ → ℕ → ℕ
up cs ks c q = up_in cs ks c c q

-- By node.
unfoldable pub ways_on : List Component → List Coupling → ℕ → ℕ
ways_on cs ks x =
    cond (ltb (x % port_nodes) port_count) (down cs ks (x / port_nodes) (x % port_nodes)) (up cs ks (x / port_nodes) (x % port_nodes - port_count))

-- A node is an end itself: an atomic's input, or the root's output.
unfoldable pub end_at : List Component → ℕ → ℕ
end_at cs x = cond (ltb (x % port_nodes) port_count) (cond (is_atomic cs (x / port_nodes)) 1 0) (cond (eqb (x / port_nodes) 0) 1 0)

-- Counts stop at one more than a model may have.
abbrev pub ways_cap : ℕ
ways_cap = suc max_routes

-- The table has the count of every port.
abbrev pub WaysCounted : List Component → List Coupling → List ℕ → Type 0
WaysCounted cs ks table = (x : ℕ) → x < port_nodes * length cs → get_or table x 0 ≡ min ways_cap (ways_on cs ks x)

-- The four entries from a place on.
unfoldable pub four : List ℕ → ℕ → ℕ
four table at = get_or table (at + 0) 0 + (get_or table (at + 1) 0 + (get_or table (at + 2) 0 + get_or table (at + 3) 0))

-- The routes by such a table: from the root's inputs, and from the outputs of the atomics.
unfoldable pub table_routes : List Component → List ℕ → ℕ
table_routes cs table = four table (port_nodes * 0) + sum_of (λ c. cond (is_atomic cs c) (four table (port_nodes * c + port_count)) 0) (up_from 0 (length cs))

-- ---- what an accepted model has, as far as ways go

-- Children have higher numbers than their parents.
abbrev pub Rising : List Component → Type 0
Rising cs = (c d : ℕ) → is_child cs c d ≡ true → d < length cs → c < d

-- The lines of the components and of the couplings.
pub record Placed (cs : List Component) (ks : List Coupling) : Type 0 where
  pub some_component : 0 < length cs
  pub components : (i : ℕ) → i < length cs → component_fits cs i ≡ true
  pub couplings : (i : ℕ) → i < length ks → coupling_fits cs ks i ≡ true
