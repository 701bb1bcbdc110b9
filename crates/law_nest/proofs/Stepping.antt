-- The step of the nest on a sound model, over entries that are good at a moment: it keeps them good, so that the laws of one step hold at every
-- step of every instant. Assumes nothing.
use mathlib.Core.Path.{◌≡◌, refl, sym, ap, ◌∙◌}
use Prim.Native.Nat.{ℕ, suc, ◌+◌, ◌≤◌}
use mathlib.Core.List.{List}
use mathlib.Core.Bool.{Bool, true, false}
use native.Mathlib.Omega.{arith}
use lib.ListN.{length}
use borrow.Author.Tests.{le-leb}
use Rattle.definition.specs.Model.{Bag, Model, is_atomic, atomics, tree}
use Rattle.definition.specs.Devs.{Time, finite, never, same_time, later}
use Rattle.definition.specs.Atomic.{advance_of}
use Rattle.definition.specs.SavedRun.{Entry, not_before, due_of, due_at, entry_of, next_due}
use Rattle.definition.specs.Step.{step}
use Rattle.definition.specs.FlatMachine.{due_now, moved}
use Rattle.law_nest.proofs.Nest.{Ready, due, ready-due, Fresh, ready-in, bag_at}
use Rattle.law_nest.proofs.Parts.{part}
use Rattle.law_nest.proofs.Entries.{SetOrKept, set, kept, set-or-kept}
use Rattle.law_nest.proofs.StepOf.{step-moved, entry_after, step-decided, part_after}
use Rattle.law_model.proofs.WellFormed.{WellFormed}
use Rattle.law_nest.proofs.Pairs.{paired, paired-look_up, Pairs, pairs-length, pairs-look_up, pairs-paired}
use Rattle.law_nest.proofs.Components.{atomic-once, leaves-perm, shape, leaves, root}
use Rattle.law_nest.proofs.Renumber.{distinct-atomics}
use Rattle.law_nest.proofs.Trees.{only-in}
use Rattle.law_nest.proofs.Firsts.{first_of, first-perm, due-leaves, fresh-later}
use Rattle.law_nest.proofs.Times.{not-before-past}

-- a transition that sets the last moment
new-fresh : (m : Model) (now c p : ℕ) → Fresh m now c (record { phase = p; last = now })
unfolding due_of later not_before
new-fresh m now c p = (omega arith, go (advance_of m c p))
  where
    go : (u : Time) → not_before now (later now u) ≡ true
    go (finite a) = le-leb now (now + a) (omega arith)
    go never = refl

moved-fresh : (m : Model) (now c : ℕ) (b : Bool) (x : Bag) (r : Entry) → Fresh m now c r → Fresh m now c (moved m now c b x r)
moved-fresh m now c b x r h = go (set-or-kept m now c b x r)
  where
    go : {r' : Entry} → SetOrKept now r r' → Fresh m now c r'
    go (set p) = new-fresh m now c p
    go kept = h

-- What an advance keeps: an entry for each atomic, none of them changed after now or due before.
abbrev pub Good : Model → ℕ → List Entry → Type 0
Good m now rs = Pairs (Fresh m now) (atomics m.components) rs

module _ (m : Model) (w : WellFormed m) where
  pub due-first : (rs : List Entry) → length rs ≡ length (atomics m.components) → next_due m rs ≡ first_of (paired (due_of m) (atomics m.components) rs)
  unfolding next_due entry_of tree
  due-first rs long =
      due-leaves m (entry_of m rs) (tree m)
      ∙ first-perm (λ c. due_of m c (entry_of m rs c)) (leaves-perm m.components w.components.fit w.some_component)
      ∙ ap first_of (paired-look_up (due_of m) (atomics m.components) rs (distinct-atomics m.components) long)

  module _ (now : ℕ) (rs : List Entry) (g : Good m now rs) where
    pub long : length rs ≡ length (atomics m.components)
    long = pairs-length (Fresh m now) (atomics m.components) rs g

    pub ready : Ready m (entry_of m rs) now (root m)
    unfolding entry_of
    ready =
        ready-in m (entry_of m rs) now (is_atomic m.components)
        (λ c e. pairs-look_up (Fresh m now) (atomics m.components) rs c g (let o = atomic-once m.components w.components.fit w.some_component c e in omega arith))
        (root m) (only-in (is_atomic m.components) (root m) (leaves m w))

    pub step-paired : (x : Bag) → (step m now x rs).state
        ≡ paired (λ c r. moved m now c (due_now m now c r) (bag_at m (entry_of m rs) now c (root m) x) r) (atomics m.components) rs
    unfolding due due_at due_now entry_of entry_after
    step-paired x =
        step-moved m w now x rs ready
        ∙ paired-look_up (λ c r. moved m now c (due_now m now c r) (bag_at m (entry_of m rs) now c (root m) x) r) (atomics m.components) rs
        (distinct-atomics m.components) long

    pub parts-paired : (x : Bag) → (step m now x rs).out.decided
        ≡ paired (λ c r. part m now c (due_now m now c r) (bag_at m (entry_of m rs) now c (root m) x) r) (atomics m.components) rs
    unfolding due due_at due_now entry_of part_after
    parts-paired x =
        step-decided m w now x rs ready
        ∙ paired-look_up (λ c r. part m now c (due_now m now c r) (bag_at m (entry_of m rs) now c (root m) x) r) (atomics m.components) rs
        (distinct-atomics m.components) long

    pub step-good : (x : Bag) → Good m now (step m now x rs).state
    step-good x =
        rw (step-paired x)
        (pairs-paired (Fresh m now) (Fresh m now) _ (atomics m.components) rs (λ c r h. moved-fresh m now c _ _ r h) g)

    pub next-good : not_before now (next_due m rs) ≡ true
    unfolding next_due
    next-good = rw (shape m w) (ready-due m (entry_of m rs) now (root m) ready)

    -- where nothing is due before u, and where nothing is due any more
    pub later-good : (u : ℕ) → now ≤ u → not_before u (next_due m rs) ≡ true → Good m u rs
    later-good u l h = fresh-later m now u (atomics m.components) rs l g (ap (not_before u) (sym (due-first rs long)) ∙ h)

    pub past-good : same_time (next_due m rs) (finite now) ≡ false → not_before (suc now) (next_due m rs) ≡ true
    past-good e = not-before-past now (next_due m rs) next-good e
