-- What arrives in the flat machine, run on the flat form, is what the nest gives each atomic and the root: both are sums over the routes.
-- Assumes nothing.
use mathlib.Core.Path.{◌≡◌, refl, sym, ap, ap₂, ◌∙◌}
use Prim.Native.Nat.{ℕ, ◌+◌}
use mathlib.Core.List.{List, [], ◌∷◌, ◌++◌, map}
use mathlib.Core.Bool.{Bool, true, false, ◌&&◌, cond}
use native.Mathlib.Omega.{arith}
use lib.Dec.{eqb}
use lib.ListN.{length}
use Rattle.definition.specs.Lists.{all, sum}
use Rattle.definition.specs.Model.{Message, Bag, Coupling, Phase, Model, is_atomic, atomics, phase_at, outputs}
use Rattle.definition.specs.Records.{port_fits}
use Rattle.definition.specs.Routes.{ends_in, root_ends, routes}
use Rattle.definition.specs.SavedRun.{Entry, look_up, entry_of, due_at}
use Rattle.definition.specs.Flatten.{renumbered, flat_route, flat}
use Rattle.definition.specs.FlatMachine.{Sent, sent, due_now, put_out, reaching, arriving}
use Rattle.law_base.proofs.Sums.{sum_of, sum-append, sum-map, sum-concat, sum-cong, sum-cond}
use Rattle.law_base.proofs.Lists.{sum-cong-if, sum-map-of, sum-perm, sort-permutes}
use Rattle.law_model.proofs.WellFormed.{WellFormed}
use Rattle.law_model.proofs.PhaseRange.{outputs-fit}
use Rattle.law_nest.proofs.Pairs.{paired, paired-map, paired-cong-if, paired-look_up}
use Rattle.law_nest.proofs.Trees.{only-in}
use Rattle.law_nest.proofs.Components.{atomic-once, atomics-atomic, root, leaves}
use Rattle.law_nest.proofs.Renumber.{listed-root, listed-atomic, distinct-atomics, is_listed, new-root, new-eqb, new-atomics, flat-phase, flat-now}
use Rattle.law_nest.proofs.Nest.{Ready, due, bag_at, out_due}
use Rattle.law_nest.proofs.Hits.{hits}
use Rattle.law_nest.proofs.Paths.{ways_sum, down-tree, up-tree}
use Rattle.law_nest.proofs.Carried.{weight, leaf_hits, outs, due_sum, due-tree}
use Rattle.law_nest.proofs.Carry.{root-hits, carry, carry-root, carry-atomic}

-- ---- the flat machine's deliveries, as sums over couplings

reaching-sum : (m : Model) (now d : ℕ) (weigh : Message → ℕ) (x : Sent) (ks : List Coupling)
    → sum_of weigh (reaching m now d x ks) ≡ sum_of (weight d weigh x.source x.message) ks
unfolding reaching sum_of weight
reaching-sum m now d weigh x [] = refl
reaching-sum m now d weigh x (k ∷ ks) =
    go (eqb k.source x.source && eqb k.source_port x.message.port && eqb k.target d) (reaching-sum m now d weigh x ks)
  where
    y : Message
    y = record { port = k.target_port; value = x.message.value }

    go : (b : Bool) → sum_of weigh (reaching m now d x ks) ≡ sum_of (weight d weigh x.source x.message) ks
        → sum_of weigh (cond b (y ∷ reaching m now d x ks) (reaching m now d x ks)) ≡ cond b (weigh y) 0 + sum_of (weight d weigh x.source x.message) ks
    go true e = rw e
    go false e = omega arith

pub arriving-sum : (m : Model) (now d : ℕ) (weigh : Message → ℕ) (xs : List Sent)
    → sum_of weigh (arriving m now d xs) ≡ sum_of (λ z. sum_of (weight d weigh z.source z.message) m.couplings) xs
unfolding arriving
arriving-sum m now d weigh xs =
    sum-concat weigh (λ x. reaching m now d x m.couplings) xs ∙ sum-cong _ _ xs (λ z. reaching-sum m now d weigh z m.couplings)

-- a sum over what the atomics that are due put out
put-sum : (m : Model) (now : ℕ) (g : ℕ → Message → ℕ) (cs : List ℕ) (rs : List Entry)
    → sum_of (λ z. g z.source z.message) (put_out m now cs rs)
    ≡ sum (paired (λ c r. cond (due_now m now c r) (sum_of (g c) (outputs (phase_at m c r.phase))) 0) cs rs)
unfolding put_out paired sum sum_of sent
put-sum m now g [] rs = refl
put-sum m now g (c ∷ cs) [] = refl
put-sum m now g (c ∷ cs) (r ∷ rs) =
    let G : Sent → ℕ = λ z. g z.source z.message in
    let x = outputs (phase_at m c r.phase) in
    sum-append G (cond (due_now m now c r) (sent c x) []) (put_out m now cs rs)
    ∙ ap₂ ◌+◌ (sum-cond G (due_now m now c r) (sent c x) ∙ ap (λ n. cond (due_now m now c r) n 0) (sum-map G (λ y. record { source = c; message = y }) x))
    (put-sum m now g cs rs)

-- ---- the flat form's couplings are the routes

module _ (m : Model) (w : WellFormed m) (a : ℕ) (weigh : Message → ℕ) (listed : is_listed m.components a ≡ true) where
  -- what they carry of the message y of s to a, by the new numbers
  flat_carry : ℕ → Message → ℕ
  flat_carry s y = sum_of (weight (renumbered m.components a) weigh s y) (flat m).couplings

  flat-carry : (s : ℕ) (y : Message) → is_listed m.components s ≡ true → flat_carry (renumbered m.components s) y ≡ carry m a weigh s y
  unfolding flat_carry carry flat flat_route weight
  flat-carry s y h =
      sum-perm _ (sort-permutes _ (map (flat_route m.components) (routes m)))
      ∙ sum-map _ (flat_route m.components) (routes m)
      ∙ sum-cong _ _ (routes m)
      (λ k. rw (
        new-eqb m.components w.components.fit w.some_component k.source s h,
        new-eqb m.components w.components.fit w.some_component k.target a listed,
      ))

  module _ (now : ℕ) (rs : List Entry) where
    abbrev at : ℕ → Entry
    at = entry_of m rs

    -- of the given bag
    given-sum : (x : Bag) → all port_fits x ≡ true
        → sum_of (λ z. flat_carry z.source z.message) (sent 0 x) ≡ hits a weigh (ends_in m.couplings (root m)) x
    unfolding sent hits
    given-sum x ports =
        sum-map _ (λ y. record { source = 0; message = y }) x
        ∙ sum-cong-if port_fits _ _ x ports
        (λ y h. ap (λ s. flat_carry s y) (sym (new-root m.components)) ∙ flat-carry 0 y (listed-root m.components) ∙ carry-root m w a weigh y h)

    -- of the outputs
    put-out-sum : length rs ≡ length (atomics m.components)
        → sum_of (λ z. flat_carry z.source z.message) (put_out (flat m) now (atomics (flat m).components) rs) ≡ ways_sum m at now a weigh root_ends (root m)
    put-out-sum long =
        let cs = m.components in
        let L = atomics cs in
        let atoms = atomics-atomic cs w.components.fit w.some_component in
        put-sum (flat m) now flat_carry (atomics (flat m).components) rs
        ∙ ap (λ l. sum (paired put l rs)) (new-atomics m w)
        ∙ ap sum (paired-map put (renumbered cs) L rs ∙ paired-cong-if (is_atomic cs) _ mine L rs atoms same ∙ sym (paired-look_up mine L rs (distinct-atomics cs) long))
        ∙ sum-map-of _ L
        ∙ due-list L
        ∙ due-tree m at now a weigh L (is_atomic cs) (atomic-once cs w.components.fit w.some_component) root_ends (root m) (only-in (is_atomic cs) (root m) (leaves m w))
      where
        put : ℕ → Entry → ℕ
        put c r = cond (due_now (flat m) now c r) (sum_of (flat_carry c) (outputs (phase_at (flat m) c r.phase))) 0

        mine : ℕ → Entry → ℕ
        mine c r = cond (due_now m now c r) (sum_of (leaf_hits m.couplings a weigh root_ends (root m) c) (outputs (phase_at m c r.phase))) 0

        same : (c : ℕ) (r : Entry) → is_atomic m.components c ≡ true → put (renumbered m.components c) r ≡ mine c r
        same c r e =
            ap₂ (λ (b : Bool) (k : Phase). cond b (sum_of (flat_carry (renumbered m.components c)) (outputs k)) 0) (flat-now m w c e now r) (flat-phase m w c e r.phase)
            ∙ ap (λ n. cond (due_now m now c r) n 0)
            (sum-cong-if port_fits _ _ (outputs (phase_at m c r.phase)) (outputs-fit m w c r.phase)
            (λ y h. flat-carry c y (listed-atomic m.components c e) ∙ carry-atomic m w a weigh c y e h))

        due-list : (l : List ℕ) → sum_of (λ c. mine c (look_up (atomics m.components) rs c)) l ≡ due_sum m at now (leaf_hits m.couplings a weigh root_ends (root m)) l
        due-list l = unfold due_sum outs due due_at due_now entry_of in refl

    -- what arrives at a: its bag, and the root's outputs where a is the root
    pub arrives : (x : Bag) → length rs ≡ length (atomics m.components) → all port_fits x ≡ true → Ready m at now (root m)
        → sum_of weigh (arriving (flat m) now (renumbered m.components a) (sent 0 x ++ put_out (flat m) now (atomics (flat m).components) rs))
        ≡ sum_of weigh (bag_at m at now a (root m) x) + cond (eqb 0 a) (sum_of weigh (out_due m at now (root m))) 0
    unfolding flat_carry
    arrives x long ports r =
        let u = up-tree m at now a weigh (root m) root_ends r in
        let d = down-tree m at now a weigh (root m) x in
        let h = root-hits a weigh (out_due m at now (root m)) in
        arriving-sum (flat m) now (renumbered m.components a) weigh _ ∙ sum-append _ (sent 0 x) (put_out (flat m) now (atomics (flat m).components) rs)
        ∙ ap₂ ◌+◌ (given-sum x ports) (put-out-sum long) ∙ omega (arith, u, d, h)
