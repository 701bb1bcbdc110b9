-- A step of the nest on a sound model and a step of the flat machine on its flat form agree: the same entries, the same deciding rules, and the
-- same root bag up to order. `Lift` carries this through instants and calls. Assumes nothing.
use mathlib.Core.Path.{◌≡◌, refl, sym, ap, ap₂, ◌∙◌}
use Prim.Native.Nat.{ℕ, ◌+◌}
use mathlib.Core.List.{List, [], ◌∷◌, ◌++◌}
use mathlib.Core.Option.{Option}
use mathlib.Core.Bool.{true, cond}
use native.Mathlib.Nat.{add-zero, zero-add}
use lib.Dec.{eqb}
use lib.ListN.{length}
use Rattle.definition.specs.Lists.{all, count, is_empty, Same}
use Rattle.definition.specs.Model.{Message, Bag, Model, is_atomic, atomics}
use Rattle.definition.specs.Records.{port_fits}
use Rattle.definition.specs.SavedRun.{Entry, due_of, entry_of, next_due}
use Rattle.definition.specs.Step.{Stepped, Simulator, step, nested}
use Rattle.definition.specs.Flatten.{place_in, renumbered, flat}
use Rattle.definition.specs.FlatMachine.{Sent, sent, due_now, put_out, arriving, moved, moved_all, copied, flat_step, flat_due}
use Rattle.law_base.proofs.Sums.{sum_of}
use Rattle.law_base.proofs.Lists.{count-sum, count_none}
use Rattle.law_model.proofs.WellFormed.{WellFormed}
use Rattle.law_nest.proofs.Pairs.{paired, paired-map, paired-cong-if}
use Rattle.law_nest.proofs.Trees.{leaves_t}
use Rattle.law_nest.proofs.Components.{rooted, root-not, atomics-atomic, parts_of_root, root, leaves}
use Rattle.law_nest.proofs.Renumber.{listed-root, listed-atomic, new-atomics, flat-due, flat-now, flat-moved, flat-part}
use Rattle.law_nest.proofs.Nest.{bag_at, no-bag, out-due}
use Rattle.law_nest.proofs.Parts.{part}
use Rattle.law_nest.proofs.Leaves.{moved_same, part-of-same}
use Rattle.law_nest.proofs.StepOf.{step-out}
use Rattle.law_nest.proofs.Arrivals.{arrives}
use Rattle.law_nest.proofs.Firsts.{first_of, first-paired}
use Rattle.law_nest.proofs.Stepping.{Good, due-first, long, ready, step-paired, parts-paired}
use Rattle.law_calls.proofs.Lift.{Agree}
use Rattle.law_calls.proofs.Kept.{AtSame, BetweenSame, agree-entries}

-- all that is sent in a step of the flat machine, and the external parts in it
unfoldable pub sends : Model → ℕ → Bag → List Entry → List Sent
sends m now x rs = sent 0 x ++ put_out m now (atomics m.components) rs

unfoldable pub flat_parts : Model → ℕ → Bag → List Entry → List (Option ℕ)
flat_parts m now x rs = paired (λ c r. part m now c (due_now m now c r) (arriving m now c (sends m now x rs)) r) (atomics m.components) rs

-- the flat machine's step, as something that takes steps
abbrev pub level_step : Model → ℕ → Bag → List Entry → Stepped (List Entry)
level_step m now x rs =
    let r = flat_step m now x (copied rs) in
    record { out = record { bag = r.0; decided = flat_parts m now x rs }; state = r.1.entries }

abbrev pub levelled : Model → Simulator (List Entry)
levelled m = record { next = flat_due m; step = level_step m }

-- the same bag, on ports that there are
abbrev pub OnPorts : Bag → Bag → Type 0
OnPorts x y = (x ≡ y) × (all port_fits x ≡ true)

moved-paired : (m : Model) (now : ℕ) (xs : List Sent) (cs : List ℕ) (rs : List Entry)
    → moved_all m now xs cs rs ≡ paired (λ c r. moved m now c (due_now m now c r) (arriving m now c xs) r) cs rs
unfolding moved_all paired
moved-paired m now xs [] rs = refl
moved-paired m now xs (c ∷ cs) [] = refl
moved-paired m now xs (c ∷ cs) (r ∷ rs) = ap (λ l. moved m now c (due_now m now c r) (arriving m now c xs) r ∷ l) (moved-paired m now xs cs rs)

module _ (m : Model) (w : WellFormed m) where
  is-atomic : all (is_atomic m.components) (atomics m.components) ≡ true
  is-atomic = atomics-atomic m.components w.components.fit w.some_component

  pub due-same : (rs : List Entry) → length rs ≡ length (atomics m.components) → next_due m rs ≡ flat_due (flat m) rs
  unfolding flat_due
  due-same rs long =
      due-first m w rs long
      ∙ sym (first-paired (flat m) (atomics (flat m).components) rs
      ∙ ap (λ l. first_of (paired (due_of (flat m)) l rs)) (new-atomics m w)
      ∙ ap first_of (paired-map (due_of (flat m)) (renumbered m.components) (atomics m.components) rs
      ∙ paired-cong-if (is_atomic m.components) _ (due_of m) (atomics m.components) rs is-atomic (λ c r e. flat-due m w c e r)))

  module _ (now : ℕ) (rs : List Entry) (g : Good m now rs) (x : Bag) (ports : all port_fits x ≡ true) where
    abbrev flat_sends : List Sent
    flat_sends = sends (flat m) now x rs

    -- what an atomic gets
    bag-same : (c : ℕ) → is_atomic m.components c ≡ true
        → Same (bag_at m (entry_of m rs) now c (root m) x) (arriving (flat m) now (renumbered m.components c) flat_sends)
    unfolding sends
    bag-same c e p =
        count-sum p _
        ∙ sym (count-sum p _
        ∙ arrives m w c (λ z. cond (p z) 1 0) (listed-atomic m.components c e) now rs x (long m w now rs g) ports (ready m w now rs g)
        ∙ rw (root-not m.components c (rooted m.components w.components.fit w.some_component) e) (add-zero _))

    state-same : (step m now x rs).state ≡ (level_step (flat m) now x rs).state
    unfolding flat_step sends copied
    state-same =
        let L = atomics m.components in
        step-paired m w now rs g x
        ∙ sym (moved-paired (flat m) now flat_sends (atomics (flat m).components) rs
        ∙ ap (λ l. paired (λ c r. moved (flat m) now c (due_now (flat m) now c r) (arriving (flat m) now c flat_sends) r) l rs) (new-atomics m w)
        ∙ paired-map _ (renumbered m.components) L rs
        ∙ paired-cong-if (is_atomic m.components) _ _ L rs is-atomic
        (λ c r e. flat-moved m w c e now _ _ r ∙ ap (λ b. moved m now c b (arriving (flat m) now (renumbered m.components c) flat_sends) r) (flat-now m w c e now r)
        ∙ sym (moved_same m now c (due_now m now c r) _ _ r (bag-same c e))))

    parts_same : (step m now x rs).out.decided ≡ flat_parts (flat m) now x rs
    unfolding flat_parts
    parts_same =
        let L = atomics m.components in
        parts-paired m w now rs g x
        ∙ sym (ap (λ l. paired (λ c r. part (flat m) now c (due_now (flat m) now c r) (arriving (flat m) now c flat_sends) r) l rs) (new-atomics m w)
        ∙ paired-map _ (renumbered m.components) L rs
        ∙ paired-cong-if (is_atomic m.components) _ _ L rs is-atomic
        (λ c r e. flat-part m w c e now _ _ r ∙ ap (λ b. part m now c b (arriving (flat m) now (renumbered m.components c) flat_sends) r) (flat-now m w c e now r)
        ∙ sym (part-of-same m now c (due_now m now c r) _ _ r (bag-same c e))))

    -- the root is no atomic
    no-root-bag : bag_at m (entry_of m rs) now 0 (root m) x ≡ []
    no-root-bag =
        no-bag m (entry_of m rs) now 0 (root m) x
        (count_none (is_atomic m.components) (λ c. eqb 0 c) (leaves_t (root m)) (leaves m w)
        (λ c e. root-not m.components c (rooted m.components w.components.fit w.some_component) e))

    out-same : Same (step m now x rs).out.bag (level_step (flat m) now x rs).out.bag
    unfolding flat_step sends copied sum_of renumbered place_in
    out-same p =
        let weigh : Message → ℕ = λ z. cond (p z) 1 0 in
        ap (count p) (step-out m w now x rs (ready m w now rs g))
        ∙ count-sum p _
        ∙ sym (count-sum p _
        ∙ arrives m w 0 weigh (listed-root m.components) now rs x (long m w now rs g) ports (ready m w now rs g)
        ∙ ap₂ ◌+◌ (ap (sum_of weigh) no-root-bag) (ap (sum_of weigh) (out-due m (entry_of m rs) now 0 (parts_of_root m) (ready m w now rs g)))
        ∙ zero-add _)

  pub agree-flat : Agree (AtSame m w) (BetweenSame m w) OnPorts (nested m) (levelled (flat m))
  unfolding all
  agree-flat =
      agree-entries m w OnPorts (levelled (flat m)) (refl, refl) (λ x y fine. ap is_empty fine.0) (λ now rs h. due-same rs (long m w now rs h.0))
      (λ now x y rs h fine. (
        λ p. out-same now rs h.0 x fine.1 p ∙ ap (λ z. count p (level_step (flat m) now z rs).out.bag) fine.0,
        parts_same now rs h.0 x fine.1 ∙ ap (λ z. flat_parts (flat m) now z rs) fine.0,
      ))
      (λ now x y rs h fine. state-same now rs h.0 x fine.1 ∙ ap (λ z. (level_step (flat m) now z rs).state) fine.0)
