-- The engine's step: each atomic changes by what reaches it, and the root puts out what its parts send to it. Whatever state of the root's
-- resultant stands for the entries, its own transition does the same and stands for the new ones; `load` is one such state.
-- Assumes nothing.
use mathlib.Core.Path.{◌≡◌, refl, sym, ap, ◌∙◌, subst}
use Prim.Native.Nat.{ℕ, ◌-◌, ◌≤◌, ◌<◌}
use mathlib.Core.List.{List, ◌++◌, map}
use mathlib.Core.Option.{Option}
use mathlib.Core.Bool.{true}
use native.Mathlib.Omega.{arith}
use Rattle.definition.specs.Model.{Bag, Model, is_atomic, atomics, Tree, leaf, tree}
use Rattle.definition.specs.Devs.{Decided, After, Since, translate, transition, devs_step}
use Rattle.definition.specs.Atomic.{devs_of}
use Rattle.definition.specs.SavedRun.{Entry, look_up, entry_of}
use Rattle.definition.specs.Step.{elapsed, load, decided_of, decided_in_file_order, step_on, step}
use Rattle.definition.specs.FlatMachine.{moved}
use Rattle.definition.specs.Carrying.{Stands, carried, root_of}
use Rattle.law_base.proofs.Lists.{map-cong-if, all_keep}
use Rattle.law_model.proofs.WellFormed.{WellFormed}
use Rattle.law_nest.proofs.Occurs.{occurs, all-occurs}
use Rattle.law_nest.proofs.Pairs.{look_up-map}
use Rattle.law_nest.proofs.Trees.{leaves_t}
use Rattle.law_nest.proofs.Components.{atomic-once, atomic-most, parts_of_root, root, shape, leaves, root-occurs}
use Rattle.law_nest.proofs.Nest.{Ready, due, out_to, bag_at}
use Rattle.law_nest.proofs.Parts.{part, part_in, one-part}
use Rattle.law_nest.proofs.AnySplit.{On, AnswersAll, over-stands, transition-stands, transition-out, load-stands}
use Rattle.law_nest.proofs.Leaves.{on-tree, unload-stands}

-- the entry of an atomic after the step
unfoldable pub entry_after : Model → ℕ → Bag → List Entry → ℕ → Entry
entry_after m now x rs c = moved m now c (due m (entry_of m rs) now (leaf c)) (bag_at m (entry_of m rs) now c (root m) x) (entry_of m rs c)

-- what decides its external part
unfoldable pub part_after : Model → ℕ → Bag → List Entry → ℕ → Option ℕ
part_after m now x rs c = part m now c (due m (entry_of m rs) now (leaf c)) (bag_at m (entry_of m rs) now c (root m) x) (entry_of m rs c)

module _ (m : Model) (w : WellFormed m) (now : ℕ) (x : Bag) (rs : List Entry) (ready : Ready m (entry_of m rs) now (root m)) where
  atomic-leaf : (c : ℕ) → is_atomic m.components c ≡ true → 0 < occurs c (leaves_t (root m))
  atomic-leaf c e = omega (arith, root-occurs m w c, atomic-once m.components w.components.fit w.some_component c e)

  one-leaf : (c : ℕ) → occurs c (leaves_t (root m)) ≤ 1
  one-leaf c = omega (arith, root-occurs m w c, atomic-most m.components w.components.fit w.some_component c)

  -- ---- any state that stands for the entries

  Does : (on : ℕ → Entry) → Tree → Type 0
  Does on t =
      (q : Since (devs_of m t)) → Stands m (entry_of m rs) now (now - q.event) t q.state
      → ((devs_step (devs_of m t) now x q).0 ≡ out_to m (entry_of m rs) now (parts_of_root m) 0)
      × Stands m on now 0 t (devs_step (devs_of m t) now x q).1.state.state
      × ((a : ℕ) → decided_of (devs_step (devs_of m t) now x q).1.decided a ≡ part_in m (entry_of m rs) now a (root m) x)

  root_does : (on : ℕ → Entry) → On m (entry_of m rs) now on (root m) x → Does on (root m)
  unfolding Does devs_step part_in
  root_does on o q h =
      let at = entry_of m rs in
      let e = now - q.event in
      let f = parts_of_root m in
      let b = over-stands m at now (root m) e q.state h ready in
      let answers =
      subst (λ t. AnswersAll m at now on f (transition (devs_of m (root m)) t e x q.state).1 (λ d. out_to m at now f d ++ translate m.couplings 0 d x)) (sym b)
      (transition-stands m at now on 0 f q.state e x h ready o) in
      (ap (λ t. (transition (devs_of m (root m)) t e x q.state).0) b ∙ transition-out m at now 0 f q.state e x h ready, answers.0, answers.1)

  -- entries that are those after the step, at the atomics
  after_on : (on : ℕ → Entry) → ((c : ℕ) → is_atomic m.components c ≡ true → on c ≡ entry_after m now x rs c) → On m (entry_of m rs) now on (root m) x
  unfolding entry_after
  after_on on h = on-tree m (entry_of m rs) now on (root m) x one-leaf (λ c o. h c (all-occurs (is_atomic m.components) c (leaves_t (root m)) (leaves m w) o))

  -- ---- the engine's step

  -- the state that it builds
  loaded : Stands m (entry_of m rs) now (now - now) (root m) (load m (entry_of m rs) now (root m))
  unfolding elapsed
  loaded =
      subst (λ n. Stands m (entry_of m rs) now n (root m) (load m (entry_of m rs) now (root m))) (let q : 0 ≡ now - now = omega arith in q)
      (load-stands m (entry_of m rs) now (root m) ready)

  abbrev step_of_root : Bag × After (Since (devs_of m (root m)))
  step_of_root = devs_step (devs_of m (root m)) now x (record { state = load m (entry_of m rs) now (root m); event = now })

  does-step : (step_of_root.0 ≡ out_to m (entry_of m rs) now (parts_of_root m) 0) × Stands m (entry_after m now x rs) now 0 (root m) step_of_root.1.state.state
      × ((a : ℕ) → decided_of step_of_root.1.decided a ≡ part_in m (entry_of m rs) now a (root m) x)
  unfolding Does
  does-step = root_does (entry_after m now x rs) (after_on (entry_after m now x rs) (λ c e. refl)) (record { state = load m (entry_of m rs) now (root m); event = now }) loaded

  pub step-moved : (step m now x rs).state ≡ map (entry_after m now x rs) (atomics m.components)
  unfolding step step_on
  step-moved = rw (shape m w) (unload-stands m (entry_after m now x rs) now (root m) _ does-step.1 atomic-leaf)

  pub step-out : (step m now x rs).out.bag ≡ out_to m (entry_of m rs) now (parts_of_root m) 0
  unfolding step step_on
  step-out = rw (shape m w) does-step.0

  -- what comes up to the root, for each atomic by its entry and its bag
  came_up : (ds : List Decided) → ((a : ℕ) → decided_of ds a ≡ part_in m (entry_of m rs) now a (root m) x) → decided_in_file_order m ds ≡ map (part_after m now x rs) (atomics m.components)
  unfolding decided_in_file_order part_after atomics
  came_up ds h =
      map-cong-if (is_atomic m.components) (decided_of ds) (part_after m now x rs) (atomics m.components) (all_keep (is_atomic m.components) _)
      (λ c e. h c ∙ one-part m (entry_of m rs) now c (root m) x (let a = atomic-leaf c e in let b = one-leaf c in omega arith))

  pub step-decided : (step m now x rs).out.decided ≡ map (part_after m now x rs) (atomics m.components)
  unfolding step step_on
  step-decided = rw (shape m w) (came_up _ does-step.2)

  -- ---- and that of any state which stands for the entries

  new-entry : (c : ℕ) → is_atomic m.components c ≡ true → entry_of m (step m now x rs).state c ≡ entry_after m now x rs c
  unfolding entry_of
  new-entry c e =
      ap (λ l. look_up (atomics m.components) l c) step-moved
      ∙ look_up-map (entry_after m now x rs) (atomics m.components) c (let o = atomic-once m.components w.components.fit w.some_component c e in omega arith)

  pub any-split : (q : Since (root_of m)) → Stands m (entry_of m rs) now (now - q.event) (tree m) q.state
      → (((carried m).step now x q).out ≡ (step m now x rs).out) × Stands m (entry_of m (step m now x rs).state) now 0 (tree m) ((carried m).step now x q).state.state
  unfolding Does
  any-split q h =
      let k = subst (Does (entry_of m (step m now x rs).state)) (sym (shape m w)) (root_does _ (after_on _ new-entry)) q h in
      let bag = k.0 ∙ sym step-out in
      let decided = came_up _ k.2 ∙ sym step-decided in
      (λ i. record { bag = bag i; decided = decided i }, k.1)
