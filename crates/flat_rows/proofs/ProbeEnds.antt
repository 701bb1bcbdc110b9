-- What the probing step brings to an end is one message for each route that ends there, with the number of the port where the route begins:
-- for every weight of messages, the sum over what is pulled there is the sum over those routes. Assumes nothing.
use mathlib.Core.Path.{◌≡◌, refl, sym, ap, ◌∙◌, ap₂}
use Prim.Native.Nat.{ℕ, zero, suc, ◌+◌}
use mathlib.Core.List.{List, [], ◌∷◌, ◌++◌, map}
use mathlib.Core.Bool.{Bool, true, false, ◌&&◌, cond}
use mathlib.Core.Logic.{◌⊎◌, inl, inr}
use native.Mathlib.Omega.{arith}
use lib.Dec.{eqb}
use lib.ListN.{get_or, replicate}
use borrow.Author.Tests.{ltb-true, eqb-true}
use Rattle.definition.specs.Lists.{all, up_from, count, Same}
use Rattle.definition.specs.Limits.{port_count}
use Rattle.definition.specs.Model.{Message, Bag, Coupling, Phase, Model, no_message, no_phase, is_atomic, atomics, phases_before, phase_at, slots, outputs, leaf}
use Rattle.definition.specs.Records.{port_fits}
use Rattle.definition.specs.File.{phase_total}
use Rattle.definition.specs.Routes.{root_ends, routes}
use Rattle.law_base.proofs.Sums.{sum_of, sum-map, sum-cong, sum-swap, if-cong}
use Rattle.law_base.proofs.Lists.{all_append, all_take, all_get_d, sum-cong-if, count-sum}
use Rattle.law_model.proofs.WellFormed.{WellFormed}
use Rattle.law_base.proofs.Tests.{eqb-sym}
use Rattle.law_nest.proofs.Occurs.{occurs, once-up, pick-one}
use Rattle.law_nest.proofs.Components.{atomic-below, rooted, root-not, atomic-once, atomics-atomic, root, root-occurs, parts_of_root}
use Rattle.law_nest.proofs.Nest.{due, bag_at, no-bag, out_of, out_due, out-due}
use Rattle.law_nest.proofs.Paths.{ways_sum, down-tree, up-tree}
use Rattle.law_nest.proofs.Carried.{weight, outs}
use Rattle.law_nest.proofs.Carry.{root-hits, carry, sends, ways-carry, given-carry, root-absent}
use Rattle.law_nest.proofs.Renumber.{is_listed}
use Rattle.law_flat.proofs.FlatComponents.{listed-cases}
use Rattle.law_flat.proofs.RouteEnds.{route_fits, routes-fit, route-parts}
use Rattle.law_base.specs.Keys.{message_of}
use Rattle.spec_step.specs.Put.{values_on}
use Rattle.spec_step.specs.Tables.{input_node, output_node}
use Rattle.spec_step.specs.TableStep.{keys_into, root_keys}
use Rattle.spec_step.specs.Tabled.{Tabled}
use Rattle.law_step.proofs.Nests.{sub}
use Rattle.law_model.proofs.PhaseValues.{is_value, has_value}
use Rattle.law_step.proofs.Values.{values-all}
use Rattle.law_step.proofs.Ends.{pulled-same}
use Rattle.law_step.proofs.Ends as E
use Rattle.flat_probe.specs.Probe.{own_port, probe_of, probes, probe_marks, probe_reached, probe_given}
use Rattle.flat_rows.proofs.Probed.{probed, probe_entry, probe-phase, probe-due, probe-ready}
use Rattle.flat_rows.proofs.ProbePull.{keys-into, root-keys}

-- ---- values and ports of the probe

all_same : {A : Type 0} (p : A → Bool) (n : ℕ) (a : A) → p a ≡ true → all p (replicate n a) ≡ true
unfolding all
all_same p zero a h = refl
all_same p (suc n) a h = rw (h, all_same p n a h)

probes-values : all (λ (k : Phase). all has_value (slots k)) probes ≡ true
unfolding all slots has_value is_value probes probe_of own_port output_node up_from
probes-values = refl

given-values : all has_value probe_given ≡ true
unfolding all has_value is_value probe_given input_node up_from
given-values = refl

given-ports : all port_fits probe_given ≡ true
unfolding all port_fits probe_given up_from
given-ports = refl

-- The number of the port q where a way from s begins: an input of the root, or an output of an atomic.
unfoldable pub beginning : ℕ → ℕ → ℕ
beginning s q = cond (eqb s 0) (input_node 0 q) (output_node s q)

-- .. and the messages there
begun : ℕ → Bag
begun s = map (λ q. record { port = q; value = beginning s q }) (up_from 0 port_count)

begun-root : probe_given ≡ begun 0
unfolding begun beginning probe_given up_from
begun-root = refl

begun-atomic : (s : ℕ) → eqb s 0 ≡ false → outputs (probe_of s) ≡ begun s
unfolding begun beginning outputs slots probe_of own_port up_from
begun-atomic s e = rw e

begun-ports : (s : ℕ) → all port_fits (begun s) ≡ true
unfolding begun all port_fits up_from
begun-ports s = refl

-- the message that a route brings to its end
unfoldable pub brought : Coupling → Message
brought k = record { port = k.target_port; value = beginning k.source k.source_port }

cut : (a b c : Bool) (n : ℕ) → cond (a && b && c) n 0 ≡ cond b (cond a (cond c n 0) 0) 0
cut true true c n = refl
cut true false c n = refl
cut false true c n = refl
cut false false c n = refl

module _ (m : Model) (w : WellFormed m) where
  -- the root and each atomic stand once in the list of both
  pub listed-once : (c : ℕ) → is_listed m.components c ≡ true → occurs c (0 ∷ atomics m.components) ≡ 1
  listed-once c h = either (listed-cases m.components c h)
    where
      at-root : 0 ≡ c → occurs c (0 ∷ atomics m.components) ≡ 1
      at-root e = ap (λ c. occurs c (0 ∷ atomics m.components)) (sym e) ∙ (unfold count in (ap (λ n. 1 + n) (root-absent m w)))

      at-atomic : is_atomic m.components c ≡ true → occurs c (0 ∷ atomics m.components) ≡ 1
      at-atomic e =
          unfold count in
          (ap (λ b. cond b 1 0 + occurs c (atomics m.components)) (eqb-sym c 0 ∙ root-not m.components c (rooted m.components w.components.fit w.some_component) e)
          ∙ omega (arith, atomic-once m.components w.components.fit w.some_component c e))

      either : (0 ≡ c) ⊎ (is_atomic m.components c ≡ true) → occurs c (0 ∷ atomics m.components) ≡ 1
      either (inl e) = at-root e
      either (inr e) = at-atomic e

  -- a sum over routes by their listed end or beginning
  pub by-listed : (at : Coupling → ℕ) (F : Coupling → ℕ) → ((k : Coupling) → route_fits m w k ≡ true → is_listed m.components (at k) ≡ true)
      → sum_of (λ c. sum_of (λ k. cond (eqb (at k) c) (F k) 0) (routes m)) (0 ∷ atomics m.components) ≡ sum_of F (routes m)
  by-listed at F h =
      sum-swap (λ c k. cond (eqb (at k) c) (F k) 0) (0 ∷ atomics m.components) (routes m)
      ∙ sum-cong-if (route_fits m w) _ F (routes m) (routes-fit m w) (λ k f. pick-one (λ c. F k) (at k) (0 ∷ atomics m.components) (listed-once (at k) (h k f)))

  module _ (a : ℕ) (W : Message → ℕ) where
    -- what the routes carry to a of the messages that begin at s
    from-source : (s : ℕ) → sum_of (carry m a W s) (begun s) ≡ sum_of (λ k. cond (eqb k.source s) (cond (eqb k.target a) (W (brought k)) 0) 0) (routes m)
    unfolding begun carry weight brought
    from-source s =
        let ports = up_from 0 port_count in
        sum-map _ (λ q. record { port = q; value = beginning s q }) ports
        ∙ sum-swap (λ q k. weight a W s (record { port = q; value = beginning s q }) k) ports (routes m)
        ∙ sum-cong-if (route_fits m w) _ _ (routes m) (routes-fit m w) (λ k f.
        sum-cong _ _ ports (λ q. cut (eqb k.source s) (eqb k.source_port q) (eqb k.target a) (W (record { port = k.target_port; value = beginning s q })))
        ∙ pick-one (λ q. cond (eqb k.source s) (cond (eqb k.target a) (W (record { port = k.target_port; value = beginning s q })) 0) 0) k.source_port ports
        (once-up k.source_port 0 port_count (omega arith) (omega (arith, ltb-true k.source_port port_count (route-parts m w k f).source_low)))
        ∙ if-cong (eqb k.source s) _ _ (λ e. ap (λ i. cond (eqb k.target a) (W (record { port = k.target_port; value = beginning i k.source_port })) 0) (sym (eqb-true k.source s e))))

    -- what an atomic sends: all of them are due
    sent-begun : (s : ℕ) → is_atomic m.components s ≡ true → outs (probed m) (probe_entry m) 0 s ≡ begun s
    unfolding outs
    sent-begun s e =
        let cs = m.components in
        ap outputs (probe-phase m s (omega (arith, atomic-below cs s e, w.components.few)))
        ∙ begun-atomic s (eqb-sym s 0 ∙ root-not cs s (rooted cs w.components.fit w.some_component) e)

    from-atomics : ways_sum (probed m) (probe_entry m) 0 a W root_ends (root m) ≡ sum_of (λ s. sum_of (carry m a W s) (begun s)) (atomics m.components)
    unfolding sends
    from-atomics =
        let cs = m.components in
        ways-carry m w (probed m).phases a W (probe_entry m) 0 (λ s e. ap (all port_fits) (sent-begun s e) ∙ begun-ports s)
        ∙ sum-cong-if (is_atomic cs) _ _ (atomics cs) (atomics-atomic cs w.components.fit w.some_component) (λ s e.
        ap₂ (λ b x. sum_of (carry m a W s) (cond b x [])) (probe-due m s (omega (arith, atomic-below cs s e, w.components.few))) (sent-begun s e))

    all-sources : sum_of (carry m a W 0) (begun 0) + sum_of (λ s. sum_of (carry m a W s) (begun s)) (atomics m.components) ≡ sum_of (λ k. cond (eqb k.target a) (W (brought k)) 0) (routes m)
    all-sources =
        sources
        ∙ sum-cong _ _ (0 ∷ atomics m.components) from-source
        ∙ by-listed (λ k. k.source) (λ k. cond (eqb k.target a) (W (brought k)) 0) (λ k f. (route-parts m w k f).source_listed)
      where
        sources : sum_of (carry m a W 0) (begun 0) + sum_of (λ s. sum_of (carry m a W s) (begun s)) (atomics m.components)
            ≡ sum_of (λ s. sum_of (carry m a W s) (begun s)) (0 ∷ atomics m.components)
        sources = unfold sum_of in refl

    -- what comes to a: its bag, and the root's output where a is the root
    pub at_end : sum_of W (bag_at (probed m) (probe_entry m) 0 a (root m) probe_given) + cond (eqb 0 a) (sum_of W (out_due (probed m) (probe_entry m) 0 (root m))) 0
        ≡ sum_of (λ k. cond (eqb k.target a) (W (brought k)) 0) (routes m)
    at_end =
        let u = up-tree (probed m) (probe_entry m) 0 a W (root m) root_ends (probe-ready m (root m)) in
        let d = down-tree (probed m) (probe_entry m) 0 a W (root m) probe_given in
        let h = root-hits a W (out_due (probed m) (probe_entry m) 0 (root m)) in
        let g = given-carry m w (probed m).phases a W probe_given given-ports ∙ ap (sum_of (carry m a W 0)) begun-root in
        let v = from-atomics in
        let s = all-sources in
        omega arith

  -- ---- what is pulled

  phase-values : (c p : ℕ) → all has_value (outputs (phase_at (probed m) c p)) ≡ true
  unfolding phase_at outputs
  phase-values c p =
      let total = phase_total m.components in
      let ps = replicate total no_phase ++ probes in
      let i = phases_before m.components c + p in
      let none : all has_value (slots no_phase) ≡ true = (unfold all slots no_phase no_message has_value is_value in refl) in
      all_take has_value (get_or ps i no_phase).output_count _
      (all_get_d (λ (k : Phase). all has_value (slots k)) ps i no_phase (all_append _ (replicate total no_phase) probes (all_same _ total no_phase none) probes-values) none)

  sends-values : (q c : ℕ) → all is_value (values_on q (out_due (probed m) (probe_entry m) 0 (leaf c))) ≡ true
  unfolding out_due out_of has_value
  sends-values q c = values-all is_value q _ (go (due (probed m) (probe_entry m) 0 (leaf c)))
    where
      go : (b : Bool) → all has_value (cond b (outputs (phase_at (probed m) c (probe_entry m c).phase)) []) ≡ true
      go true = phase-values c (probe_entry m c).phase
      go false = unfold all in refl

  module _ (t : List ℕ) (h : Tabled m t) where
    -- at an atomic
    pub bag-same : (a : ℕ) → is_atomic m.components a ≡ true
        → Same (map message_of (keys_into probes t probe_marks probe_reached probe_given a)) (bag_at (probed m) (probe_entry m) 0 a (root m) probe_given)
    bag-same a e =
        rw (keys-into m w t h probe_given a (atomic-below m.components a e))
        (pulled-same m w (probed m).phases (probe_entry m) 0 (λ c l. probe-ready m (sub m.components c)) sends-values probe_given given-ports given-values a e)

    -- at the root
    pub root-same : Same (map message_of (root_keys probes t probe_marks probe_reached)) (out_due (probed m) (probe_entry m) 0 (root m))
    root-same =
        rw (root-keys m w t h probe_given, out-due (probed m) (probe_entry m) 0 0 (parts_of_root m) (probe-ready m (root m)))
        (E.root-same m w (probed m).phases (probe_entry m) 0 (λ c l. probe-ready m (sub m.components c)) sends-values)

    -- for every test: a message for each route that ends there
    pub atomic-end : (p : Message → Bool) (a : ℕ) → is_atomic m.components a ≡ true
        → count p (map message_of (keys_into probes t probe_marks probe_reached probe_given a)) ≡ sum_of (λ k. cond (eqb k.target a) (cond (p (brought k)) 1 0) 0) (routes m)
    atomic-end p a e =
        let W : Message → ℕ = λ y. cond (p y) 1 0 in
        let z = root-not m.components a (rooted m.components w.components.fit w.some_component) e in
        let n : cond (eqb 0 a) (sum_of W (out_due (probed m) (probe_entry m) 0 (root m))) 0 ≡ 0 = rw z in
        bag-same a e p ∙ count-sum p _ ∙ omega (arith, at_end a W)

    pub root-end : (p : Message → Bool)
        → count p (map message_of (root_keys probes t probe_marks probe_reached)) ≡ sum_of (λ k. cond (eqb k.target 0) (cond (p (brought k)) 1 0) 0) (routes m)
    root-end p =
        let W : Message → ℕ = λ y. cond (p y) 1 0 in
        let n : sum_of W (bag_at (probed m) (probe_entry m) 0 0 (root m) probe_given) ≡ 0
        = ap (sum_of W) (no-bag (probed m) (probe_entry m) 0 0 (root m) probe_given (root-occurs m w 0 ∙ root-absent m w)) ∙ (unfold sum_of in refl) in
        root-same p ∙ count-sum p _ ∙ omega (arith, at_end 0 W)
