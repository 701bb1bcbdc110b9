-- What an advance keeps of the entries: between instants they fit the model at the open moment, and during an instant each atomic is in a
-- phase of its own, was not changed after now, and is not due before. Assumes nothing.
use mathlib.Core.Path.{ap, ◌∙◌, ◌≡◌, sym, subst}
use Prim.Native.Nat.{ℕ, suc, ◌≤◌, ◌<◌}
use mathlib.Core.List.{List, []}
use mathlib.Core.Bool.{true, false, ◌&&◌, ◌||◌}
use native.Mathlib.Omega.{arith}
use lib.Dec.{ltb, eqb}
use borrow.Author.Tests.{ltb-true, lt-ltb}
use Rattle.definition.specs.Lists.{is_empty}
use Rattle.definition.specs.Model.{Bag, Model, component_at, atomics}
use Rattle.definition.specs.SavedRun.{Entry, not_before, entry_fits, next_due}
use Rattle.definition.specs.Step.{Simulator, step, nested}
use Rattle.definition.specs.Instant.{is_due}
use Rattle.law_base.proofs.Tests.{and_left, and-true, or_left}
use Rattle.law_model.proofs.WellFormed.{WellFormed}
use Rattle.law_model.proofs.PhaseRange.{moved-own}
use Rattle.law_nest.proofs.Pairs.{Pairs, pairs-if, pairs-both, pairs-paired}
use Rattle.law_nest.proofs.Nest.{Fresh}
use Rattle.law_nest.proofs.Stepping.{Good, step-paired, step-good, next-good, later-good, past-good}
use Rattle.law_flat.proofs.Checks.{entry-fresh}
use Rattle.law_calls.proofs.SameBags.{SameOutput}
use Rattle.law_calls.proofs.Lift.{Agree}

-- an atomic's entry, in a phase of its own
abbrev pub Phased : Model → ℕ → Entry → Type 0
Phased m c r = r.phase < (component_at m.components c).phases

-- during the instant at a moment
abbrev pub Kept : Model → ℕ → List Entry → Type 0
Kept m now rs = Good m now rs × Pairs (Phased m) (atomics m.components) rs

-- between instants, at an open moment
abbrev pub Fit : Model → ℕ → List Entry → Type 0
Fit m o rs = Pairs (λ c r. entry_fits m o c r ≡ true) (atomics m.components) rs

pub entry-phase : (m : Model) (o c : ℕ) (r : Entry) → entry_fits m o c r ≡ true → r.phase < (component_at m.components c).phases
unfolding entry_fits
entry-phase m o c r h =
    let a = ltb r.phase (component_at m.components c).phases in
    let b = ltb r.last o || (eqb o 0 && eqb r.last 0) in
    ltb-true r.phase _ (and_left a b (and_left (a && b) _ h))

module _ (m : Model) (w : WellFormed m) where
  abbrev L : List ℕ
  L = atomics m.components

  -- a step keeps it
  pub kept_step : (now : ℕ) (x : Bag) (rs : List Entry) → Kept m now rs → Kept m now (step m now x rs).state
  kept_step now x rs h = (
    step-good m w now rs h.0 x,
    subst (Pairs (Phased m) L) (sym (step-paired m w now rs h.0 x))
        (pairs-paired (Phased m) (Phased m) _ L rs (λ c r k. moved-own m w c now _ _ r k) h.1),
  )

  fit-good : (o : ℕ) (rs : List Entry) → Fit m o rs → Good m o rs
  fit-good o rs h = pairs-if _ (Fresh m o) L rs (entry-fresh m o) h

  pub fit-early : (o : ℕ) (rs : List Entry) → Fit m o rs → not_before o (next_due m rs) ≡ true
  fit-early o rs h = next-good m w o rs (fit-good o rs h)

  -- an instant begins at a moment before which nothing is due
  pub fit-opens : (o u : ℕ) (rs : List Entry) → Fit m o rs → o ≤ u → not_before u (next_due m rs) ≡ true → Kept m u rs
  fit-opens o u rs h l e = (later-good m w o rs (fit-good o rs h) u l e, pairs-if _ (Phased m) L rs (entry-phase m o) h)

  -- and ends where nothing is due any more
  pub kept-closes : (now : ℕ) (rs : List Entry) → Kept m now rs → is_due (nested m) now rs ≡ false → Fit m (suc now) rs
  unfolding is_due entry_fits
  kept-closes now rs h e =
      let on = later-good m w now rs h.0 (suc now) (omega arith) (past-good m w now rs h.0 e) in
      pairs-if (λ c r. (Fresh m now c r × Phased m c r) × Fresh m (suc now) c r) _ L rs
      (λ c r k. and-true _ _ (and-true _ _ (lt-ltb _ _ k.0.1) (or_left _ _ (lt-ltb r.last (suc now) (omega (arith, k.0.0.0))))) k.1.1)
      (pairs-both (λ c r. Fresh m now c r × Phased m c r) (Fresh m (suc now)) L rs (pairs-both (Fresh m now) (Phased m) L rs h.0 h.1) on)

  -- ---- another way to take steps on the same entries

  abbrev pub AtSame : ℕ → List Entry → List Entry → Type 0
  AtSame now rs qs = (rs ≡ qs) × Kept m now rs

  abbrev pub BetweenSame : ℕ → List Entry → List Entry → Type 0
  BetweenSame o rs qs = (rs ≡ qs) × Fit m o rs

  -- It agrees with the nest where one step does.
  pub agree-entries : (Fine : Bag → Bag → Type 0) (k : Simulator (List Entry)) → Fine [] [] → ((x y : Bag) → Fine x y → is_empty x ≡ is_empty y)
      → ((now : ℕ) (rs : List Entry) → Kept m now rs → next_due m rs ≡ k.next rs)
      → ((now : ℕ) (x y : Bag) (rs : List Entry) → Kept m now rs → Fine x y → SameOutput (step m now x rs).out (k.step now y rs).out)
      → ((now : ℕ) (x y : Bag) (rs : List Entry) → Kept m now rs → Fine x y → (step m now x rs).state ≡ (k.step now y rs).state)
      → Agree AtSame BetweenSame Fine (nested m) k
  agree-entries Fine k none empty same_next same_out same-state = record {
    same_next = λ now rs qs h. same_next now rs h.1 ∙ ap k.next h.0;
    fine_none = none;
    fine_empty = empty;
    same_out = λ now x y rs qs h f. subst (λ z. SameOutput (step m now x rs).out (k.step now y z).out) h.0 (same_out now x y rs h.1 f);
    steps = λ now x y rs qs h f. (same-state now x y rs h.1 f ∙ ap (λ z. (k.step now y z).state) h.0, kept_step now x rs h.1);
    early = λ o rs qs h. fit-early o rs h.1;
    opens = λ o u rs qs h l e. (h.0, fit-opens o u rs h.1 l e);
    closes = λ now rs qs h e. (h.0, kept-closes now rs h.1 e);
  }
