-- The routes, taken as couplings of one level, carry what the ways do: this turns the nest's sums over ways into the flat machine's sums over
-- couplings. Assumes nothing.
use mathlib.Core.Path.{◌≡◌, refl, sym, ap, ap₂, ◌∙◌}
use Prim.Native.Nat.{ℕ, ◌+◌}
use mathlib.Core.List.{List, ◌++◌, map}
use mathlib.Core.Bool.{Bool, true, false, ◌&&◌, not, cond}
use native.Mathlib.Omega.{arith}
use lib.Dec.{eqb}
use borrow.Author.Tests.{ltb-true, not-true}
use Rattle.definition.specs.Lists.{concat, up_from}
use Rattle.definition.specs.Limits.{port_count}
use Rattle.definition.specs.Model.{Message, Bag, Coupling, Model, phase_at, outputs, Tree, Forest, leaf, node, stop, more, name_of}
use Rattle.definition.specs.Records.{port_fits}
use Rattle.definition.specs.Routes.{ports_to, Port, ends_from, joined, joined_all, ways_from, ways_from_all}
use Rattle.definition.specs.SavedRun.{Entry}
use Rattle.law_base.proofs.Sums.{sum_of, sum-append, sum-map, sum-concat, sum-add, sum-zero, sum-cong, sum-cond, if-if, if-add, if-zero, sum-if}
use Rattle.law_base.proofs.Tests.{eqb-sym}
use Rattle.law_nest.proofs.Occurs.{occurs, once-up, pick-one}
use Rattle.law_nest.proofs.Trees.{OnlyIn, OnlyInAll}
use Rattle.law_nest.proofs.Nest.{due}
use Rattle.law_nest.proofs.Hits.{hit, hits}
use Rattle.law_nest.proofs.Paths.{ways_sum, ways_sum_all}

-- A coupling counts for the message y of s where it begins at its port and ends at a, with the weight of the message there.
unfoldable pub weight : ℕ → (Message → ℕ) → ℕ → Message → Coupling → ℕ
weight a weigh s y k =
    cond (eqb k.source s && eqb k.source_port y.port && eqb k.target a) (weigh (record { port = k.target_port; value = y.value })) 0

-- one of the ports
one-port : (g : ℕ → ℕ) (y : Message) → port_fits y ≡ true → sum_of (λ q. cond (eqb q y.port) (g q) 0) (up_from 0 port_count) ≡ g y.port
unfolding port_fits
one-port g y h =
    sum-cong _ _ (up_from 0 port_count) (λ q. ap (λ b. cond b (g q) 0) (eqb-sym q y.port))
    ∙ pick-one g y.port (up_from 0 port_count) (once-up y.port 0 port_count (omega arith) (omega (arith, ltb-true y.port port_count h)))

module _ (ks : List Coupling) (a : ℕ) (weigh : Message → ℕ) where
  end-weight : (c q s : ℕ) (y : Message) (e : Port) → weight a weigh s y (joined c q e) ≡ cond (eqb c s) (cond (eqb q y.port) (hit a weigh y.value e) 0) 0
  unfolding weight joined hit
  end-weight c q s y e = go (eqb c s) (eqb q y.port) (eqb e.component a) (weigh (record { port = e.port; value = y.value }))
    where
      go : (b c d : Bool) (n : ℕ) → cond (b && c && d) n 0 ≡ cond b (cond c (cond d n 0) 0) 0
      go false c d n = refl
      go true false d n = refl
      go true true d n = refl

  pub ways-leaf : (c s : ℕ) (y : Message) (ends : ℕ → List Port) → port_fits y ≡ true
      → sum_of (weight a weigh s y) (joined_all c ends) ≡ cond (eqb c s) (sum_of (hit a weigh y.value) (ends y.port)) 0
  unfolding joined_all
  ways-leaf c s y ends h =
      let g = hit a weigh y.value in
      let ports = up_from 0 port_count in
      sum-concat (weight a weigh s y) (λ q. map (joined c q) (ends q)) ports
      ∙ sum-cong _ _ ports
      (λ q. sum-map (weight a weigh s y) (joined c q) (ends q)
      ∙ sum-cong _ _ (ends q) (end-weight c q s y) ∙ sum-if _ (eqb c s) (ends q) ∙ ap (λ n. cond (eqb c s) n 0) (sum-if g (eqb q y.port) (ends q)))
      ∙ sum-if _ (eqb c s) ports
      ∙ ap (λ n. cond (eqb c s) n 0) (one-port (λ q. sum_of g (ends q)) y h)

  -- what the ways from the leaf s of a tree bring to a of the message y
  unfoldable mutual
    pub leaf_hits : (ℕ → List Port) → Tree → ℕ → Message → ℕ
    leaf_hits ends (leaf c) s y = cond (eqb c s) (sum_of (hit a weigh y.value) (ends y.port)) 0
    leaf_hits ends (node c f) s y = leaf_hits_all (λ d q. ends_from ks d f q ++ concat (map ends (ports_to ks d c q))) f s y

    leaf_hits_all : (ℕ → ℕ → List Port) → Forest → ℕ → Message → ℕ
    leaf_hits_all ends stop s y = 0
    leaf_hits_all ends (more t f) s y = leaf_hits (ends (name_of t)) t s y + leaf_hits_all ends f s y

  mutual
    unfolding ways_from leaf_hits sum_of

    pub carried : (ends : ℕ → List Port) (t : Tree) (s : ℕ) (y : Message) → port_fits y ≡ true → sum_of (weight a weigh s y) (ways_from ks ends t) ≡ leaf_hits ends t s y
    carried ends (leaf c) s y h = ways-leaf c s y ends h
    carried ends (node c f) s y h = carried-all _ f s y h

    carried-all : (ends : ℕ → ℕ → List Port) (f : Forest) (s : ℕ) (y : Message) → port_fits y ≡ true
        → sum_of (weight a weigh s y) (ways_from_all ks ends f) ≡ leaf_hits_all ends f s y
    carried-all ends stop s y h = refl
    carried-all ends (more t f) s y h =
        sum-append (weight a weigh s y) (ways_from ks (ends (name_of t)) t) (ways_from_all ks ends f)
        ∙ ap₂ ◌+◌ (carried (ends (name_of t)) t s y h) (carried-all ends f s y h)

  -- no way begins at what is no leaf
  no-leaf-hits : (ends : ℕ → List Port) (c s : ℕ) (y : Message) → eqb c s ≡ false → leaf_hits ends (leaf c) s y ≡ 0
  unfolding leaf_hits
  no-leaf-hits ends c s y e = rw e

  mutual
    unfolding leaf_hits

    pub no-hits : (ends : ℕ → List Port) (t : Tree) (s : ℕ) (y : Message) → OnlyIn (λ c. not (eqb c s)) t → leaf_hits ends t s y ≡ 0
    no-hits ends (leaf c) s y h = no-leaf-hits ends c s y (not-true (eqb c s) h)
    no-hits ends (node c f) s y h = no-hits-all _ f s y h

    no-hits-all : (ends : ℕ → ℕ → List Port) (f : Forest) (s : ℕ) (y : Message) → OnlyInAll (λ c. not (eqb c s)) f → leaf_hits_all ends f s y ≡ 0
    no-hits-all ends stop s y h = refl
    no-hits-all ends (more t f) s y h = ap₂ ◌+◌ (no-hits (ends (name_of t)) t s y h.0) (no-hits-all ends f s y h.1)

-- ---- over what the atomics of a list that are due put out

module _ (m : Model) (at : ℕ → Entry) (now : ℕ) where
  unfoldable pub outs : ℕ → Bag
  outs s = outputs (phase_at m s (at s).phase)

  unfoldable pub due_sum : (ℕ → Message → ℕ) → List ℕ → ℕ
  due_sum g l = sum_of (λ s. cond (due m at now (leaf s)) (sum_of (g s) (outs s)) 0) l

  due-add : (f g : ℕ → Message → ℕ) (l : List ℕ) → due_sum (λ s y. f s y + g s y) l ≡ due_sum f l + due_sum g l
  unfolding due_sum
  due-add f g l =
      sum-cong _ _ l (λ s. ap (λ n. cond (due m at now (leaf s)) n 0) (sum-add (f s) (g s) (outs s)) ∙ if-add (due m at now (leaf s)) _ _) ∙ sum-add _ _ l

  due-none : (l : List ℕ) → due_sum (λ s y. 0) l ≡ 0
  unfolding due_sum
  due-none l = sum-cong _ (λ s. 0) l (λ s. ap (λ n. cond (due m at now (leaf s)) n 0) (sum-zero (outs s)) ∙ if-zero (due m at now (leaf s))) ∙ sum-zero l

  module _ (a : ℕ) (weigh : Message → ℕ) (l : List ℕ) (q : ℕ → Bool) (once : (c : ℕ) → q c ≡ true → occurs c l ≡ 1) where
    due-leaf : (ends : ℕ → List Port) (c : ℕ) → q c ≡ true → due_sum (leaf_hits m.couplings a weigh ends (leaf c)) l ≡ ways_sum m at now a weigh ends (leaf c)
    unfolding due_sum leaf_hits ways_sum outs hits
    due-leaf ends c e =
        let h : Message → ℕ = λ y. sum_of (hit a weigh y.value) (ends y.port) in
        sum-cong _ _ l (λ s. ap (λ n. cond (due m at now (leaf s)) n 0) (sum-if h (eqb c s) (outs s)) ∙ if-if (due m at now (leaf s)) (eqb c s) (sum_of h (outs s)))
        ∙ pick-one (λ s. cond (due m at now (leaf s)) (sum_of h (outs s)) 0) c l (once c e) ∙ sym (sum-cond h (due m at now (leaf c)) (outs c))

    -- a sum over the list of atomics is the sum over the leaves of the tree
    mutual
      unfolding leaf_hits ways_sum

      pub due-tree : (ends : ℕ → List Port) (t : Tree) → OnlyIn q t → due_sum (leaf_hits m.couplings a weigh ends t) l ≡ ways_sum m at now a weigh ends t
      due-tree ends (leaf c) o = due-leaf ends c o
      due-tree ends (node c f) o = due-forest _ f o

      due-forest : (ends : ℕ → ℕ → List Port) (f : Forest) → OnlyInAll q f → due_sum (leaf_hits_all m.couplings a weigh ends f) l ≡ ways_sum_all m at now a weigh ends f
      due-forest ends stop o = due-none l
      due-forest ends (more t f) o =
          due-add (leaf_hits m.couplings a weigh (ends (name_of t)) t) (leaf_hits_all m.couplings a weigh ends f) l
          ∙ ap₂ ◌+◌ (due-tree (ends (name_of t)) t o.0) (due-forest ends f o.1)
