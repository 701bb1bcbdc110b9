-- The law of the step: where the tables are a model's and the entries are good at the moment, the step on the tables leaves the entries of the
-- definition's step and puts out its bag in another order. The bags' room is enough where it is 16 messages a route. Assumes nothing.
use mathlib.Core.Path.{◌≡◌, refl, sym, ap, ap₂, ◌∙◌}
use Prim.Native.Nat.{ℕ, zero, suc, ◌+◌, ◌*◌, ◌≤◌, ◌<◌}
use mathlib.Core.List.{List, ◌∷◌, map, map-id}
use mathlib.Core.Bool.{Bool, true, false, cond}
use mathlib.Core.Option.{none}
use native.Mathlib.Omega.{arith}
use native.Mathlib.Nat.{sub-zero}
use lib.Dec.{eqb}
use lib.ListN.{length, get_or, take, length-map}
use lib.Seq.{take_all, take-length}
use Rattle.definition.specs.Lists.{all, up_from, count, Same}
use Rattle.definition.specs.Limits.{max_given, max_outputs, max_advance, never_field}
use Rattle.definition.specs.Model.{Bag, Model, is_atomic, atomics, phase_at, leaf}
use Rattle.definition.specs.Records.{port_fits}
use Rattle.definition.specs.Routes.{routes}
use Rattle.definition.specs.Devs.{finite, never, same_time, later}
use Rattle.definition.specs.Atomic.{advance_of}
use Rattle.definition.specs.SavedRun.{Entry, entry_of, due_of, due_at}
use Rattle.definition.specs.Step.{Stepped, step}
use Rattle.definition.specs.FlatMachine.{moved}
use Rattle.law_base.proofs.Tests.{clash}
use Rattle.law_model.proofs.WellFormed.{WellFormed}
use Rattle.law_base.proofs.Bags.{same_length}
use Rattle.law_nest.proofs.Places.{take-up}
use Rattle.law_nest.proofs.Pairs.{pairs-look_up}
use Rattle.law_nest.proofs.Components.{atomic-below, atomic-once, root}
use Rattle.law_nest.proofs.Nest.{Fresh, Ready, due, bag_at}
use Rattle.law_nest.proofs.Parts.{part}
use Rattle.law_nest.proofs.Leaves.{moved_same, part-of-same}
use Rattle.law_nest.proofs.StepOf.{entry_after, step-moved, part_after, step-decided, step-out}
use Rattle.law_nest.proofs.Stepping.{Good, ready}
use Rattle.law_nest.proofs.Capacity.{atomic-bag}
use Rattle.law_nest.proofs.RootBag.{step-few}
use Rattle.clock.specs.Times.{latest}
use Rattle.run_state.specs.declared.State.{State}
use Rattle.run_state.specs.Held.{entries_of}
use Rattle.law_base.specs.Keys.{message_of}
use Rattle.spec_step.specs.Tables.{numbers_at}
use Rattle.spec_step.specs.TableStep.{is_up, keys_into, root_keys, root_room, table_step}
use Rattle.spec_step.specs.Tabled.{Tabled}
use Rattle.law_model.proofs.PhaseValues.{has_value}
use Rattle.law_step.proofs.Values.{sent-values}
use Rattle.law_step.proofs.Ends.{ready-all, root-same, pulled-same}
use Rattle.law_step.proofs.Positions.{held_at, entries, at_entry, atomic_at_place, atomic-at, place-entry}
use Rattle.law_step.proofs.Flagged.{es, fs, up-due, flagged}
use Rattle.law_step.proofs.TablePull.{keys-into, root-keys}
use Rattle.law_step.proofs.Moves.{SameRoom, all_room, all_own, parts-own}
use Rattle.law_step.proofs.Changed.{parts-length}

map-up : {A : Type 0} (f g : ℕ → A) (k n : ℕ) → ((j : ℕ) → k ≤ j → j < k + n → f j ≡ g j) → map f (up_from k n) ≡ map g (up_from k n)
unfolding up_from
map-up f g k zero h = refl
map-up f g k (suc n) h = ap₂ ◌∷◌ (h k (omega arith) (omega arith)) (map-up f g (suc k) n (λ j a b. h j (omega arith) (omega arith)))

-- what is due has an advance
due-timed : (m : Model) (c now : ℕ) (r : Entry) → same_time (due_of m c r) (finite now) ≡ true → eqb (phase_at m c r.phase).advance never_field ≡ false
unfolding due_of advance_of later same_time
due-timed m c now r = go (eqb (phase_at m c r.phase).advance never_field)
  where
    go : (b : Bool) → same_time (later r.last (cond b never (finite (phase_at m c r.phase).advance))) (finite now) ≡ true → b ≡ false
    go true e = absurd (clash e refl)
    go false e = refl

-- where the moment itself is not too late
pub soon-at : (m : Model) (w : WellFormed m) (st : State) (now : ℕ) → Good m now (entries_of (length (atomics m.components)) st) → now + max_advance ≤ latest
    → (i : ℕ) → i < length (atomics m.components) → get_or st.last i 0 + max_advance ≤ latest
unfolding entry_of
soon-at m w st now g early i l =
    let c = atomic_at_place m w st i in
    let o = atomic-once m.components w.components.fit w.some_component c (atomic-at m w st i l) in
    let f = pairs-look_up (Fresh m now) (atomics m.components) (entries m w st) c g (omega arith) in
    omega (arith, f.0, ap (λ (r : Entry). r.last) (place-entry m w st i l))

-- What a call keeps of a state: room for each atomic, entries that are good at the moment, and last moments that are not too late for the code's
-- due moments.
pub record Holds (m : Model) (now : ℕ) (st : State) : Type 0 where
  pub good : Good m now (entries_of (length (atomics m.components)) st)
  pub phases : length (atomics m.components) ≤ length st.phase
  pub lasts : length (atomics m.components) ≤ length st.last
  pub soon : (i : ℕ) → i < length (atomics m.components) → get_or st.last i 0 + max_advance ≤ latest

module _ (m : Model) (w : WellFormed m) (t : List ℕ) (h : Tabled m t) (st : State) (now : ℕ) (k : Holds m now st) where
  abbrev at : ℕ → Entry
  at = at_entry m w st

  pub fresh : (c : ℕ) → is_atomic m.components c ≡ true → Fresh m now c (at c)
  unfolding entry_of
  fresh c e =
      pairs-look_up (Fresh m now) (atomics m.components) (entries m w st) c k.good
      (let o = atomic-once m.components w.components.fit w.some_component c e in omega arith)

  is-ready : Ready m at now (root m)
  is-ready = ready m w now (entries m w st) k.good

  module _ (x : Bag) (few : length x ≤ max_given) (ports : all port_fits x ≡ true) (values : all has_value x ≡ true) where
    abbrev marked : List ℕ
    marked = es m w st t h now k.soon

    abbrev flags : List ℕ
    flags = fs m w st t h now k.soon x

    -- the whole bag of an atomic
    pub bag-same : (c : ℕ) → is_atomic m.components c ≡ true → Same (map message_of (keys_into m.phases t marked flags x c)) (bag_at m at now c (root m) x)
    bag-same c e p =
        ap (λ l. count p (map message_of l)) (keys-into m w t h m.phases marked flags x _ (flagged m w st t h now k.soon x) c (atomic-below m.components c e)) ∙ pulled-same m w m.phases at now (ready-all m w at now fresh) (sent-values m w at now) x ports values c e p

    pub bag-length : (c : ℕ) → is_atomic m.components c ≡ true → length (keys_into m.phases t marked flags x c) ≤ max_given * length (routes m)
    bag-length c e =
        omega (
          arith,
          length-map (keys_into m.phases t marked flags x c) message_of,
          same_length (map message_of (keys_into m.phases t marked flags x c)) (bag_at m at now c (root m) x) (bag-same c e),
          atomic-bag m w at now is-ready x max_given few ports (omega arith) c,
        )

    module _ (room : ℕ) (enough : max_given * length (routes m) ≤ room) where
      abbrev pub after : Stepped State
      after = table_step m.phases t m.rules (length (atomics m.components)) room now x st

      -- ---- the atomic at a place: what the tables say of it is what the definition does

      abbrev number : ℕ → ℕ
      number j = get_or t (numbers_at + j) 0

      number-own : (j : ℕ) → j < length (atomics m.components) → number j ≡ atomic_at_place m w st j
      number-own j l = h.numbers j l

      number-below : (j : ℕ) → j < length (atomics m.components) → number j < length m.components
      number-below j l = omega (arith, number-own j l, atomic-below m.components (atomic_at_place m w st j) (atomic-at m w st j l))

      number-timed : (j : ℕ) → j < length (atomics m.components) → is_up marked (number j) ≡ true → eqb (phase_at m (number j) (held_at st j).phase).advance never_field ≡ false
      unfolding due due_at
      number-timed j l u =
          let c = atomic_at_place m w st j in
          ap (λ d. eqb (phase_at m d (held_at st j).phase).advance never_field) (number-own j l)
          ∙ due-timed m c now (held_at st j) (ap (λ r. same_time (due_of m c r) (finite now)) (sym (place-entry m w st j l))
          ∙ sym (up-due m w st t h now k.soon c (atomic-at m w st j l)) ∙ ap (is_up marked) (sym (number-own j l)) ∙ u)

      -- of all that depends on a component, on whether it is due, on its bag in any order, and on its entry
      at_place : {A : Type 0} (f : ℕ → Bool → Bag → Entry → A) → ((c : ℕ) (b : Bool) (y z : Bag) (r : Entry) → Same y z → f c b y r ≡ f c b z r)
          → (j : ℕ) → j < length (atomics m.components)
          → f (number j) (is_up marked (number j)) (map message_of (take room (keys_into m.phases t marked flags x (number j)))) (held_at st j)
          ≡ f (atomic_at_place m w st j) (due m at now (leaf (atomic_at_place m w st j))) (bag_at m at now (atomic_at_place m w st j) (root m) x) (at (atomic_at_place m w st j))
      unfolding due due_at
      at_place f same j l =
          let c = atomic_at_place m w st j in
          let e = atomic-at m w st j l in
          let b = up-due m w st t h now k.soon c e in
          let whole : take room (keys_into m.phases t marked flags x c) ≡ keys_into m.phases t marked flags x c = take_all room _ (omega (arith, bag-length c e)) in
          ap (λ d. f d (is_up marked d) (map message_of (take room (keys_into m.phases t marked flags x d))) (held_at st j)) (number-own j l)
          ∙ ap (λ z. f c (is_up marked c) (map message_of z) (held_at st j)) whole
          ∙ ap (λ z. f c z (map message_of (keys_into m.phases t marked flags x c)) (held_at st j)) b
          ∙ same c _ _ (bag_at m at now c (root m) x) (held_at st j) (bag-same c e)
          ∙ ap (f c (due m at now (leaf c)) (bag_at m at now c (root m) x)) (sym (place-entry m w st j l))

      -- what holds at each place holds of the atomics in file order
      by_place : {A : Type 0} (g f : ℕ → A) → ((j : ℕ) → j < length (atomics m.components) → g j ≡ f (atomic_at_place m w st j))
          → map g (up_from 0 (length (atomics m.components))) ≡ map f (atomics m.components)
      by_place g f each =
          map-up g (λ j. f (atomic_at_place m w st j)) 0 (length (atomics m.components)) (λ j a b. each j (omega arith))
          ∙ sym (take-up f (atomics m.components) 0 (length (atomics m.components)) (omega arith)) ∙ ap (map f) (take-length (atomics m.components))

      -- ---- its entry, and what decides its external part

      entry-after : (j : ℕ) → j < length (atomics m.components) → held_at after.state j ≡ entry_after m now x (entries m w st) (atomic_at_place m w st j)
      unfolding table_step entry_after
      entry-after j l =
          all_own m w t h now marked flags room x (length (atomics m.components)) 0 j st (omega arith) (omega arith)
          (number-below j l) (omega (arith, k.phases)) (omega (arith, k.lasts)) (number-timed j l)
          ∙ at_place (moved m now) (moved_same m now) j l

      part-after : (j : ℕ) → j < length (atomics m.components) → get_or after.out.decided j none ≡ part_after m now x (entries m w st) (atomic_at_place m w st j)
      unfolding table_step part_after
      part-after j l =
          ap (λ i. get_or after.out.decided i none) (sym (sub-zero j))
          ∙ parts-own m w t h now marked flags room x (length (atomics m.components)) 0 j st (omega arith) (omega arith) (number-below j l) (number-timed j l)
          ∙ at_place (part m now) (part-of-same m now) j l

      pub table-state : entries_of (length (atomics m.components)) after.state ≡ (step m now x (entries m w st)).state
      unfolding entries_of
      table-state = by_place (held_at after.state) (entry_after m now x (entries m w st)) entry-after ∙ sym (step-moved m w now x (entries m w st) is-ready)

      pub table-decided : after.out.decided ≡ (step m now x (entries m w st)).out.decided
      unfolding table_step
      table-decided =
          let n = length (atomics m.components) in
          let row = after.out.decided in
          let long = parts-length m.phases t m.rules marked flags room now x n 0 st in
          sym (map-id row) ∙ ap (map (λ p. p)) (sym (take_all n row (omega (arith, long)))) ∙ take-up (λ p. p) row none n (omega (arith, long))
          ∙ by_place (λ j. get_or row j none) (part_after m now x (entries m w st)) part-after ∙ sym (step-decided m w now x (entries m w st) is-ready)

      -- the root's whole bag, which has at most 4 messages a route
      root-whole : Same (map message_of (root_keys m.phases t marked flags)) (step m now x (entries m w st)).out.bag
      root-whole p =
          ap (λ l. count p (map message_of l)) (root-keys m w t h m.phases marked flags x _ (flagged m w st t h now k.soon x)) ∙ root-same m w m.phases at now (ready-all m w at now fresh) (sent-values m w at now) p
          ∙ ap (count p) (sym (step-out m w now x (entries m w st) is-ready))

      root-few : length (root_keys m.phases t marked flags) ≤ max_outputs * length (routes m)
      root-few =
          omega (
            arith,
            length-map (root_keys m.phases t marked flags) message_of,
            same_length (map message_of (root_keys m.phases t marked flags)) (step m now x (entries m w st)).out.bag root-whole,
            step-few m w now x (entries m w st),
          )

      pub table-out : Same after.out.bag (step m now x (entries m w st)).out.bag
      unfolding table_step
      table-out p =
          let whole : take (root_room room) (root_keys m.phases t marked flags) ≡ root_keys m.phases t marked flags = take_all (root_room room) _ (omega (arith, root-few)) in
          ap (λ l. count p (map message_of l)) whole ∙ root-whole p

      pub table-room : SameRoom after.state st
      unfolding table_step
      table-room = all_room m w t h now _ _ room x (length (atomics m.components)) 0 st
