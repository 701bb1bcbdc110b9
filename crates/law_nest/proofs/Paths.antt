-- What reaches an atomic of a nest is what the ways along couplings carry to it: for every weight of messages, the sum over its bag is the sum
-- over the ways from the given bag and from the atomics that are due. Counting turns the nest into sums, and sums change places.
-- Assumes nothing.
use mathlib.Core.Path.{◌≡◌, refl, sym, ap, ap₂, ◌∙◌, fun_ext}
use Prim.Native.Nat.{ℕ, ◌+◌}
use mathlib.Core.List.{List, [], ◌∷◌, ◌++◌, map, append-nil}
use mathlib.Core.Bool.{cond}
use native.Mathlib.Omega.{arith}
use lib.Dec.{eqb}
use Rattle.definition.specs.Lists.{concat}
use Rattle.definition.specs.Model.{Message, Bag, Model, phase_at, Tree, Forest, leaf, node, stop, more, name_of, outputs}
use Rattle.definition.specs.Routes.{ports_to, Port, ends_in, ends_from}
use Rattle.definition.specs.Devs.{translate}
use Rattle.definition.specs.SavedRun.{Entry}
use Rattle.law_base.proofs.Sums.{sum_of, sum-append, sum-cond}
use Rattle.law_nest.proofs.Nest.{out_due, out-due, bag_at, bag_at_all, Ready, ReadyAll, due, out_of, out_to}
use Rattle.law_nest.proofs.Hits.{over, translate-cond, hits, Sender, gathered, hits-nil, hits-leaf, hits-down, hits-up}

module _ (m : Model) (at : ℕ → Entry) (now : ℕ) where
  -- the parts of a forest, each with what it sends
  unfoldable pub sending : Forest → List Sender
  sending stop = []
  sending (more t f) = (name_of t, out_due m at now t) ∷ sending f

  sent-to : (f : Forest) (to : ℕ) → out_to m at now f to ≡ gathered m.couplings (sending f) to
  unfolding out_to out_due sending gathered
  sent-to stop to = refl
  sent-to (more t f) to = ap₂ ◌++◌ (sym (translate-cond m.couplings (name_of t) to (due m at now t) (out_of m at now t))) (sent-to f to)

module _ (m : Model) (at : ℕ → Entry) (now : ℕ) (a : ℕ) (weigh : Message → ℕ) where
  leaf-bag : (c : ℕ) (x : Bag) → sum_of weigh (bag_at m at now a (leaf c) x) ≡ cond (eqb c a) (sum_of weigh x) 0
  unfolding bag_at
  leaf-bag c x = sum-cond weigh (eqb c a) x

  leaf-nil : (c : ℕ) → sum_of weigh (bag_at m at now a (leaf c) []) ≡ 0
  leaf-nil c = leaf-bag c [] ∙ sym (hits-leaf m.couplings a weigh c []) ∙ hits-nil m.couplings a weigh (ends_in m.couplings (leaf c))

  -- What a gets of the bag that a tree is given is what the ways down carry to it; it gets the rest without any input.
  mutual
    unfolding bag_at ends_in translate over sum_of

    pub down-tree : (t : Tree) (x : Bag) → sum_of weigh (bag_at m at now a t x) ≡ sum_of weigh (bag_at m at now a t []) + hits a weigh (ends_in m.couplings t) x
    down-tree (leaf c) x = let k = leaf-nil c in omega (arith, leaf-bag c x, hits-leaf m.couplings a weigh c x)
    down-tree (node c f) x =
        let ks = m.couplings in
        let u = out_to m at now f in
        omega (
          arith,
          inner-forest f (λ d. u d ++ translate ks c d x),
          inner-forest f (λ d. u d ++ []),
          hits-down ks a weigh c f u x,
          hits-down ks a weigh c f u [],
          hits-nil ks a weigh (ends_from ks c f),
        )

    inner-forest : (f : Forest) (u : ℕ → Bag)
        → sum_of weigh (bag_at_all m at now a f u) ≡ over (λ t. sum_of weigh (bag_at m at now a t [])) f + over (λ j. hits a weigh (ends_in m.couplings j) (u (name_of j))) f
    inner-forest stop u = refl
    inner-forest (more t f) u =
        omega (arith, sum-append weigh (bag_at m at now a t (u (name_of t))) (bag_at_all m at now a f u), down-tree t (u (name_of t)), inner-forest f u)

  -- ---- the ways from the atomics that are due

  -- the sum over the ways from the atomics of a tree that are due, with the ends from its own output ports
  unfoldable mutual
    pub ways_sum : (ℕ → List Port) → Tree → ℕ
    ways_sum ends (leaf c) = hits a weigh ends (cond (due m at now (leaf c)) (outputs (phase_at m c (at c).phase)) [])
    ways_sum ends (node c f) =
        ways_sum_all (λ d q. ends_from m.couplings d f q ++ concat (map ends (ports_to m.couplings d c q))) f

    pub ways_sum_all : (ℕ → ℕ → List Port) → Forest → ℕ
    ways_sum_all ends stop = 0
    ways_sum_all ends (more t f) = ways_sum (ends (name_of t)) t + ways_sum_all ends f

  -- the sum over the ways from the parts of a coupled part
  up-node : (c : ℕ) (f : Forest) (ends : ℕ → List Port) → ReadyAll m at now f
      → over (λ t. sum_of weigh (bag_at m at now a t [])) f
      + sum_of (λ p. hits a weigh (λ q. ends_from m.couplings p.0 f q ++ concat (map ends (ports_to m.couplings p.0 c q))) p.1) (sending m at now f)
      ≡ sum_of weigh (bag_at m at now a (node c f) []) + hits a weigh ends (out_due m at now (node c f))
  unfolding bag_at translate
  up-node c f ends r =
      let ks = m.couplings in
      let inner = inner-forest f (λ d. out_to m at now f d ++ []) in
      let plain : over (λ j. hits a weigh (ends_in ks j) (out_to m at now f (name_of j) ++ [])) f ≡ over (λ j. hits a weigh (ends_in ks j) (gathered ks (sending m at now f) (name_of j))) f
      = ap (λ (h : Tree → ℕ). over h f) (fun_ext (λ j. ap (hits a weigh (ends_in ks j)) (append-nil (out_to m at now f (name_of j)) ∙ sent-to m at now f (name_of j)))) in
      let mine = ap (hits a weigh ends) (out-due m at now c f r ∙ sent-to m at now f c) in
      omega (arith, inner, plain, mine, hits-up ks a weigh ends c f (sending m at now f))

  mutual
    unfolding ways_sum over out_due out_of sending sum_of

    pub up-tree : (t : Tree) (ends : ℕ → List Port) → Ready m at now t → ways_sum ends t ≡ sum_of weigh (bag_at m at now a t []) + hits a weigh ends (out_due m at now t)
    up-tree (leaf c) ends r = let k = leaf-nil c in omega arith
    up-tree (node c f) ends r = up-forest f _ r ∙ up-node c f ends r

    up-forest : (f : Forest) (ends : ℕ → ℕ → List Port) → ReadyAll m at now f
        → ways_sum_all ends f ≡ over (λ t. sum_of weigh (bag_at m at now a t [])) f + sum_of (λ p. hits a weigh (ends p.0) p.1) (sending m at now f)
    up-forest stop ends r = refl
    up-forest (more t f) ends r = omega (arith, up-tree t (ends (name_of t)) r.0, up-forest f ends r.1)
