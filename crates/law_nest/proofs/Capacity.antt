-- A route carries no more messages than its source sends: from the root at most as many as are given, 16, and from an atomic at most 4. So an
-- atomic's bag has at most 16 messages a route, and the code's buffer for it is long enough; of the root's bag `RootBag` speaks. Assumes nothing.
use mathlib.Core.Path.{◌≡◌, refl, ap}
use Prim.Native.Nat.{ℕ, ◌+◌, ◌*◌, ◌≤◌}
use mathlib.Core.List.{List, [], ◌++◌}
use mathlib.Core.Bool.{Bool, true, false, ◌&&◌, cond}
use native.Mathlib.Omega.{arith}
use native.Mathlib.Nat.{mul-le-mul_left, mul-le-mul_right}
use lib.Dec.{eqb}
use lib.ListN.{length, length-take}
use borrow.Author.Tests.{eq-eqb}
use Rattle.definition.specs.Lists.{all}
use Rattle.definition.specs.Limits.{max_outputs}
use Rattle.definition.specs.Model.{Message, Bag, Coupling, Phase, Model, phase_at, slots, outputs, Tree, Forest, leaf, node, stop, more, name_of, tree}
use Rattle.definition.specs.Records.{port_fits}
use Rattle.definition.specs.Routes.{Port, ends_in, joined_all, ways_from, ways_from_all, root_ends, routes}
use Rattle.definition.specs.SavedRun.{Entry}
use Rattle.definition.specs.AtomicBags.{ending_at}
use Rattle.law_base.proofs.Sums.{sum_of, sum-le, sum_ones, sum-most}
use Rattle.law_base.proofs.Lists.{sum-cong-if, count-sum, count_most}
use Rattle.law_base.proofs.Bags.{count-append}
use Rattle.law_model.proofs.WellFormed.{WellFormed}
use Rattle.law_model.proofs.PhaseRange.{outputs-fit}
use Rattle.law_nest.proofs.Components.{root, shape}
use Rattle.law_nest.proofs.Nest.{Ready, due, bag_at}
use Rattle.law_nest.proofs.Hits.{hits}
use Rattle.law_nest.proofs.Paths.{ways_sum, ways_sum_all, down-tree, up-tree}
use Rattle.law_nest.proofs.Carried.{weight, ways-leaf}

-- ---- one route

module _ (a : ℕ) where
  pub ending-append : (x y : List Coupling) → ending_at a (x ++ y) ≡ ending_at a x + ending_at a y
  unfolding ending_at
  ending-append x y = count-append (λ k. eqb k.target a) x y

  pub ending-most : (ks : List Coupling) → ending_at a ks ≤ length ks
  unfolding ending_at
  ending-most ks = count_most (λ k. eqb k.target a) ks

  -- a message goes once along a coupling that ends at a, and begins at its own port
  pub weight-most : (s : ℕ) (y : Message) (ks : List Coupling) → sum_of (weight a (λ z. 1) s y) ks ≤ ending_at a ks
  unfolding weight ending_at
  weight-most s y ks = omega (arith, count-sum (λ k. eqb k.target a) ks, sum-le _ _ ks (λ k. one (eqb k.source s) (eqb k.source_port y.port) (eqb k.target a)))
    where
      one : (b c d : Bool) → cond (b && c && d) 1 0 ≤ cond {A = ℕ} d 1 0
      one false c d = omega arith
      one true false d = omega arith
      one true true d = omega arith

  -- What the routes from the ports of c bring to a, where c sends at most n messages: at most n a route.
  pub route-carries : (n c : ℕ) (ends : ℕ → List Port) (x : Bag) → length x ≤ n → all port_fits x ≡ true → hits a (λ z. 1) ends x ≤ n * ending_at a (joined_all c ends)
  unfolding hits
  route-carries n c ends x few ports =
      let along : hits a (λ z. 1) ends x ≡ sum_of (λ y. sum_of (weight a (λ z. 1) c y) (joined_all c ends)) x
      = sum-cong-if port_fits _ _ x ports (λ y h. rw (ways-leaf [] a (λ z. 1) c c y ends h, eq-eqb c c refl)) in
      omega (arith, along, sum-most _ n (ending_at a (joined_all c ends)) x few (λ y. weight-most c y (joined_all c ends)))

-- ---- an atomic's outputs

pub outputs-few : (p : Phase) → length (outputs p) ≤ max_outputs
unfolding outputs slots
outputs-few p = omega (arith, length-take p.output_count (slots p))

-- what is sent in some steps only
pub few-if : (b : Bool) (n : ℕ) (x : Bag) → length x ≤ n → length (cond b x []) ≤ n
few-if true n x h = h
few-if false n x h = omega arith

pub fit-if : (b : Bool) (x : Bag) → all port_fits x ≡ true → all port_fits (cond b x []) ≡ true
unfolding all
fit-if true x h = h
fit-if false x h = refl

-- ---- the routes of a model

module _ (m : Model) (a : ℕ) where
  -- those from the root and those from the atomics
  pub ending-routes : ending_at a (routes m) ≡ ending_at a (joined_all 0 (ends_in m.couplings (tree m))) + ending_at a (ways_from m.couplings root_ends (tree m))
  unfolding routes
  ending-routes = ending-append a (joined_all 0 (ends_in m.couplings (tree m))) (ways_from m.couplings root_ends (tree m))

  -- n messages a route where n are given, of which the root's own routes take theirs
  pub routes-carry : (n given sent : ℕ) → max_outputs ≤ n → given ≤ n * ending_at a (joined_all 0 (ends_in m.couplings (tree m)))
      → sent ≤ max_outputs * ending_at a (ways_from m.couplings root_ends (tree m)) → given + sent ≤ n * ending_at a (routes m)
  routes-carry n given sent most g h = omega (arith, g, h, ap (λ k. n * k) ending-routes, mul-le-mul_right (ending_at a (ways_from m.couplings root_ends (tree m))) most)

-- ---- a nest whose entries are ready

module _ (m : Model) (w : WellFormed m) (at : ℕ → Entry) (now : ℕ) where
  mutual
    unfolding ways_sum ways_from

    ways-carry-few : (a : ℕ) (ends : ℕ → List Port) (t : Tree) → ways_sum m at now a (λ z. 1) ends t ≤ max_outputs * ending_at a (ways_from m.couplings ends t)
    ways-carry-few a ends (leaf c) =
        let x = outputs (phase_at m c (at c).phase) in
        let b = due m at now (leaf c) in
        route-carries a max_outputs c ends (cond b x []) (few-if b max_outputs x (outputs-few (phase_at m c (at c).phase))) (fit-if b x (outputs-fit m w c (at c).phase))
    ways-carry-few a ends (node c f) = all-carry-few a _ f

    all-carry-few : (a : ℕ) (ends : ℕ → ℕ → List Port) (f : Forest) → ways_sum_all m at now a (λ z. 1) ends f ≤ max_outputs * ending_at a (ways_from_all m.couplings ends f)
    all-carry-few a ends stop = omega arith
    all-carry-few a ends (more t f) =
        omega (
          arith,
          ways-carry-few a (ends (name_of t)) t,
          all-carry-few a ends f,
          ap (λ n. max_outputs * n) (ending-append a (ways_from m.couplings (ends (name_of t)) t) (ways_from_all m.couplings ends f)),
        )

  module _ (ready : Ready m at now (root m)) where
    -- at most n messages a route, where the given bag has at most n
    module _ (x : Bag) (n : ℕ) (given : length x ≤ n) (ports : all port_fits x ≡ true) (most : max_outputs ≤ n) where
      pub atomic-bag : (a : ℕ) → length (bag_at m at now a (root m) x) ≤ n * length (routes m)
      atomic-bag a =
          let bag = bag_at m at now a (root m) x in
          let u = up-tree m at now a (λ z. 1) (root m) root_ends ready in
          let d = down-tree m at now a (λ z. 1) (root m) x in
          let ks = m.couplings in
          let into : hits a (λ z. 1) (ends_in ks (root m)) x ≤ n * ending_at a (joined_all 0 (ends_in ks (tree m)))
          = rw (shape m w) (route-carries a n 0 (ends_in ks (root m)) x given ports) in
          let sent : ways_sum m at now a (λ z. 1) root_ends (root m) ≤ max_outputs * ending_at a (ways_from ks root_ends (tree m))
          = rw (shape m w) (ways-carry-few a root_ends (root m)) in
          let c = routes-carry m a n _ _ most into sent in
          omega (arith, u, d, c, sum_ones bag, mul-le-mul_left n (ending-most a (routes m)))
