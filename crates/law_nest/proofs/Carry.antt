-- What the routes of a model carry of one message, from the root's input or from an atomic's output: the ways that lead on from its port.
-- Assumes nothing.
use mathlib.Core.Path.{◌≡◌, refl, sym, ap, ap₂, ◌∙◌}
use Prim.Native.Nat.{ℕ, ◌+◌}
use mathlib.Core.List.{List, [], ◌++◌}
use mathlib.Core.Bool.{Bool, true, false, not, cond}
use native.Mathlib.Nat.{add-zero, zero-add}
use lib.Dec.{eqb}
use Rattle.definition.specs.Lists.{all}
use Rattle.definition.specs.Model.{Message, Bag, Phase, Model, is_atomic, atomics, leaf}
use Rattle.definition.specs.Records.{port_fits}
use Rattle.definition.specs.Routes.{ends_in, joined_all, ways_from, root_ends, routes}
use Rattle.definition.specs.SavedRun.{Entry}
use Rattle.law_base.proofs.Sums.{sum_of, sum-append, sum-zero, sum-cong, sum-cond}
use Rattle.law_base.proofs.Lists.{all-if, sum-cong-if, count_none}
use Rattle.law_model.proofs.WellFormed.{WellFormed}
use Rattle.law_base.proofs.Tests.{eqb-sym}
use Rattle.law_nest.proofs.Trees.{leaves_t, OnlyIn, only-in}
use Rattle.law_nest.proofs.Occurs.{occurs}
use Rattle.law_nest.proofs.Components.{rooted, root-not, atomic-once, atomics-atomic, root, shape, leaves}
use Rattle.law_nest.proofs.Nest.{due}
use Rattle.law_nest.proofs.Hits.{hit, hits}
use Rattle.law_nest.proofs.Paths.{ways_sum}
use Rattle.law_nest.proofs.Carried.{weight, ways-leaf, leaf_hits, carried, no-hits, outs, due_sum, due-tree}

-- the root's own ports as ends
pub root-hits : (a : ℕ) (weigh : Message → ℕ) (x : Bag) → hits a weigh root_ends x ≡ cond (eqb 0 a) (sum_of weigh x) 0
unfolding hits hit root_ends sum_of
root-hits a weigh x = go (eqb 0 a) refl
  where
    go : (b : Bool) → eqb 0 a ≡ b → hits a weigh root_ends x ≡ cond b (sum_of weigh x) 0
    go true e = sum-cong _ _ x (λ y. simp (e, add-zero))
    go false e = sum-cong _ (λ y. 0) x (λ y. simp e) ∙ sum-zero x

-- what the routes carry of the message y of s to a
unfoldable pub carry : Model → ℕ → (Message → ℕ) → ℕ → Message → ℕ
carry m a weigh s y = sum_of (weight a weigh s y) (routes m)

module _ (m : Model) (w : WellFormed m) where
  -- 0 is no leaf
  no-root : OnlyIn (λ c. not (eqb c 0)) (root m)
  no-root =
      only-in (λ c. not (eqb c 0)) (root m)
      (all-if (is_atomic m.components) (λ c. not (eqb c 0)) (leaves_t (root m))
      (λ c e. ap not (eqb-sym c 0 ∙ root-not m.components c (rooted m.components w.components.fit w.some_component) e)) (leaves m w))

  module _ (a : ℕ) (weigh : Message → ℕ) where
    carry-shape : (s : ℕ) (y : Message) → port_fits y ≡ true
        → carry m a weigh s y
        ≡ cond (eqb 0 s) (sum_of (hit a weigh y.value) (ends_in m.couplings (root m) y.port)) 0 + leaf_hits m.couplings a weigh root_ends (root m) s y
    unfolding carry routes
    carry-shape s y h =
        let ks = m.couplings in
        ap (λ t. sum_of (weight a weigh s y) (joined_all 0 (ends_in ks t) ++ ways_from ks root_ends t)) (shape m w)
        ∙ sum-append (weight a weigh s y) (joined_all 0 (ends_in ks (root m))) (ways_from ks root_ends (root m))
        ∙ ap₂ ◌+◌ (ways-leaf ks a weigh 0 s y (ends_in ks (root m)) h) (carried ks a weigh root_ends (root m) s y h)

    pub carry-root : (y : Message) → port_fits y ≡ true → carry m a weigh 0 y ≡ sum_of (hit a weigh y.value) (ends_in m.couplings (root m) y.port)
    carry-root y h =
        carry-shape 0 y h
        ∙ ap (λ n. sum_of (hit a weigh y.value) (ends_in m.couplings (root m) y.port) + n) (no-hits m.couplings a weigh root_ends (root m) 0 y no-root)
        ∙ add-zero _

    pub carry-atomic : (s : ℕ) (y : Message) → is_atomic m.components s ≡ true → port_fits y ≡ true
        → carry m a weigh s y ≡ leaf_hits m.couplings a weigh root_ends (root m) s y
    carry-atomic s y e h = carry-shape s y h ∙ rw (root-not m.components s (rooted m.components w.components.fit w.some_component) e) (zero-add _)

-- ---- what is sent

-- what an atomic sends
unfoldable pub sends : Model → (ℕ → Entry) → ℕ → ℕ → Bag
sends m at now s = cond (due m at now (leaf s)) (outs m at now s) []

-- What the routes carry of what is sent and of what is given, for any phases in the place of the model's own.
module _ (m : Model) (w : WellFormed m) (ps : List Phase) (a : ℕ) (weigh : Message → ℕ) where
  abbrev phased : Model
  phased = record { components = m.components; phases = ps; rules = m.rules; couplings = m.couplings; ranges = m.ranges }

  pub ways-carry : (at : ℕ → Entry) (now : ℕ) → ((s : ℕ) → is_atomic m.components s ≡ true → all port_fits (outs phased at now s) ≡ true)
      → ways_sum phased at now a weigh root_ends (root m) ≡ sum_of (λ s. sum_of (carry m a weigh s) (sends phased at now s)) (atomics m.components)
  unfolding due_sum sends
  ways-carry at now ports =
      let cs = m.components in
      sym (due-tree phased at now a weigh (atomics cs) (is_atomic cs) (atomic-once cs w.components.fit w.some_component) root_ends (root m) (only-in (is_atomic cs) (root m) (leaves m w)))
      ∙ sum-cong-if (is_atomic cs) _ _ (atomics cs) (atomics-atomic cs w.components.fit w.some_component)
      (λ s e. ap (λ n. cond (due phased at now (leaf s)) n 0) (sum-cong-if port_fits _ _ (outs phased at now s) (ports s e) (λ y h. sym (carry-atomic m w a weigh s y e h)))
      ∙ sym (sum-cond (carry m a weigh s) (due phased at now (leaf s)) (outs phased at now s)))

  pub given-carry : (x : Bag) → all port_fits x ≡ true → hits a weigh (ends_in m.couplings (root m)) x ≡ sum_of (carry m a weigh 0) x
  unfolding hits
  given-carry x ports = sum-cong-if port_fits _ _ x ports (λ y h. sym (carry-root m w a weigh y h))

-- the root is no atomic
pub root-absent : (m : Model) → WellFormed m → occurs 0 (atomics m.components) ≡ 0
root-absent m w =
    let cs = m.components in
    count_none (is_atomic cs) (λ s. eqb 0 s) (atomics cs) (atomics-atomic cs w.components.fit w.some_component) (λ s. root-not cs s (rooted cs w.components.fit w.some_component))
