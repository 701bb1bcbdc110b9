-- Routes: "one way along couplings from an atomic's output port or a root input port to an atomic's input port or a root output port,
-- repeats counted". Assumes nothing.
use Rattle.std.specs.Prelude.{ℕ, List, [], ◌∷◌, ◌++◌, map, ◌&&◌, cond, eqb}
use Rattle.definition.specs.Lists.{concat, up_from}
use Rattle.definition.specs.Limits.{port_count}
use Rattle.definition.specs.Model.{Coupling, Model, Tree, Forest, leaf, node, stop, more, name_of, tree}

-- The target ports of the couplings from port p of i to d, in file order. Which of i's two ports p is meant, input or output, is
-- settled by d: its input where d is a child of i, its output where d is a sibling or the parent.
unfoldable pub ports_to : List Coupling → ℕ → ℕ → ℕ → List ℕ
ports_to [] i d p = []
ports_to (k ∷ ks) i d p =
    let rest = ports_to ks i d p in
    cond (eqb k.source i && eqb k.target d && eqb k.source_port p) (k.target_port ∷ rest) rest

-- An end of a way: an input port of an atomic, or an output port of the root, component 0.
pub record Port : Type 0 where
  pub component : ℕ
  pub port : ℕ

-- The ends of the ways on from input port q of a component; and of the ways from port q of i to the components of a forest.
unfoldable mutual
  pub ends_in : List Coupling → Tree → ℕ → List Port
  ends_in ks (leaf c) q = record { component = c; port = q } ∷ []
  ends_in ks (node c f) q = ends_from ks c f q

  pub ends_from : List Coupling → ℕ → Forest → ℕ → List Port
  ends_from ks i stop q = []
  ends_from ks i (more t f) q = concat (map (λ r. ends_in ks t r) (ports_to ks i (name_of t) q)) ++ ends_from ks i f q

-- A way from its first port to its last, as a coupling.
unfoldable pub joined : ℕ → ℕ → Port → Coupling
joined c p e = record { source = c; source_port = p; target = e.component; target_port = e.port }

-- All ways from the ports of c, where `ends p` has the ends of those from port p.
unfoldable pub joined_all : ℕ → (ℕ → List Port) → List Coupling
joined_all c ends = concat (map (λ p. map (joined c p) (ends p)) (up_from 0 port_count))

-- The ways from the atomics of a tree, where `ends q` has the ends of the ways on from output port q of the tree's own component:
-- from a child's output port a way goes across to its siblings and down, or up and on from there.
unfoldable mutual
  pub ways_from : List Coupling → (ℕ → List Port) → Tree → List Coupling
  ways_from ks ends (leaf c) = joined_all c ends
  ways_from ks ends (node c f) = ways_from_all ks (λ d q. ends_from ks d f q ++ concat (map ends (ports_to ks d c q))) f

  pub ways_from_all : List Coupling → (ℕ → ℕ → List Port) → Forest → List Coupling
  ways_from_all ks ends stop = []
  ways_from_all ks ends (more t f) = ways_from ks (ends (name_of t)) t ++ ways_from_all ks ends f

-- The root's output port q is an end itself.
unfoldable pub root_ends : ℕ → List Port
root_ends q = record { component = 0; port = q } ∷ []

unfoldable pub routes : Model → List Coupling
routes m = joined_all 0 (ends_in m.couplings (tree m)) ++ ways_from m.couplings root_ends (tree m)
