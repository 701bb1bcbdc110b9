-- The first pass over an instant by its verdict: why the instant is left undone, with the definition's `tried`, or what it leaves (`decided`).
-- Assumes nothing.
use mathlib.Core.Path.{◌≡◌, refl, sym, ap, ◌∙◌, subst}
use mathlib.Core.List.{List, [], ◌∷◌, ◌++◌}
use mathlib.Core.Bool.{Bool, true, false, cond}
use Prim.Native.Nat.{ℕ, zero, suc, ◌+◌, ◌-◌, ◌≤◌, ◌<◌}
use native.Mathlib.Omega.{arith}
use lib.Dec.{eqb, ltb}
use lib.ListN.{length, length-append, take}
use lib.Seq.{length-take-le}
use borrow.Author.Tests.{ltb-true, ltb-false, eqb-true, eqb-false}
use Rattle.definition.specs.Bytes.{Bytes, ok}
use Rattle.definition.specs.Lists.{concat}
use Rattle.definition.specs.Limits.{max_steps}
use Rattle.definition.specs.Model.{Bag}
use Rattle.definition.specs.Step.{Output, Simulator}
use Rattle.definition.specs.Instant.{Instant, done, jammed, stepped, goes_on, steps_at, instant, trace_bytes, records_from, instant_trace}
use Rattle.definition.specs.Advance.{tried}
use Rattle.definition.specs.Advance as Definition
use Rattle.law_base.proofs.Turns.{tried-jams, tried-none, tried-full, stood, tried-stands, within-no, within-many}
use Rattle.run_state.specs.declared.State.{State}
use Rattle.std.proofs.Common.{Option, Some, None, Result, Ok, Err}
use Rattle.std.specs.Option.{ok_or}
use Rattle.instant_steps.specs.Verdicts.{ran_of, steps_in}
use Rattle.instant_steps.specs.declared.Ran.{Ran}
use Rattle.instant_attempt.specs.Progress.{progress_of}
use Rattle.instant_attempt.specs.Pass.{judged_by, progressed, after_of, ended_by, Hindered, Stands, Decided}
use Rattle.instant_attempt.specs.declared.Progress.{Progress}
use Rattle.instant_attempt.specs.declared.TurnWithin.{TurnWithin}
use Rattle.refusals.specs.declared.Refusal.{Refusal}
use Rattle.refusals.specs.declared.Refusal.TheVariants as R

-- ---- an instant without a step

module _ {S : Type 0} (k : Simulator S) where
  abbrev Still : S → Instant S → Type 0
  Still s₀ (done [] s) = s ≡ s₀
  Still s₀ (done (x ∷ xs) s) = Unit {0}
  Still s₀ jammed = Unit {0}

  stepped-still : (s₀ : S) (x : Output) (i : Instant S) → Still s₀ (stepped x i)
  unfolding stepped
  stepped-still s₀ x (done xs s) = tt
  stepped-still s₀ x jammed = tt

  steps-still : (m now : ℕ) (x : Bag) (s : S) → Still s (steps_at k m now x s)
  unfolding steps_at
  steps-still zero now x s = go (goes_on k now x s)
    where
      go : (b : Bool) → Still s (cond b jammed (done [] s))
      go true = tt
      go false = refl
  steps-still (suc m) now x s = go (goes_on k now x s)
    where
      go : (b : Bool) → Still s (cond b (stepped (k.step now x s).out (steps_at k m now [] (k.step now x s).state)) (done [] s))
      go true = stepped-still s (k.step now x s).out (steps_at k m now [] (k.step now x s).state)
      go false = refl

  still-done : (s₀ : S) (xs : List Output) (s : S) → Still s₀ (done xs s) → length xs ≡ 0 → s ≡ s₀
  still-done s₀ [] s h e = h
  still-done s₀ (x ∷ xs) s h e = absurd (omega arith)

  pub none-still : (now : ℕ) (x : Bag) (s₀ : S) (xs : List Output) (s : S) → instant k now x s₀ ≡ done xs s → length xs ≡ 0 → s ≡ s₀
  unfolding instant
  none-still now x s₀ xs s e z = still-done s₀ xs s (subst (Still s₀) e (steps-still max_steps now x s₀)) z

pub no-records : (now : ℕ) (xs : List Output) → length xs ≡ 0 → instant_trace now xs ≡ []
unfolding instant_trace trace_bytes records_from concat
no-records now [] e = refl
no-records now (x ∷ xs) e = absurd (omega arith)

-- ---- the verdict told

-- What an instant that may stand leaves, with the numbers of its pass.
record May (now : ℕ) (i : Instant State) (r : Ran) : Type 0 where
  pub outputs : List Output
  pub end : State
  pub same : i ≡ done outputs end
  pub steps : r.steps ≡ length outputs
  pub used : r.used ≡ length (instant_trace now outputs)

-- What the pass says of the instant.
abbrev Said : ℕ → Instant State → Option Ran → Type 0
Said now i None = i ≡ jammed
Said now i (Some r) = May now i r

said : (now : ℕ) (i : Instant State) → Said now i (ran_of now 0 i)
unfolding ran_of
said now jammed = refl
said now (done xs s) = record { outputs = xs; end = s; same = refl; steps = refl; used = omega arith }

told : (now : ℕ) (i : Instant State) (r : Option Ran) → r ≡ ran_of now 0 i → Said now i r
told now i r e = subst (λ (q : Option Ran). Said now i q) (sym e) (said now i)

-- ---- where the instant ends

module _ (turn : TurnWithin) (tables w₀ : List ℕ) (trace : Bytes) (h : turn.progress.used ≤ length trace) where
  abbrev now : ℕ
  now = turn.at.0

  abbrev p : Progress
  p = turn.progress

  -- the definition's progress, the bytes of the trace that are left, and the definition's verdict
  abbrev before : Definition.Progress State
  before = progress_of trace tables w₀ p

  abbrev left : ℕ
  left = length trace - p.used

  module _ (i : Instant State) where
    decided-jams : i ≡ jammed → Hindered turn tables w₀ trace i R.StillDue
    decided-jams e = sym (within-no turn.has (length trace) now before i 13 (ap (tried (length trace) now before) e ∙ tried-jams (length trace) now before))

    sized : (ran : Ran) (m : May now i ran) → length (before.trace ++ instant_trace now m.outputs) ≡ p.used + ran.used
    unfolding progress_of
    sized ran m = omega (arith, length-append (take p.used trace) (instant_trace now m.outputs), length-take-le p.used trace h, m.used)

    decided-full : (ran : Ran) → May now i ran → left < ran.used → Hindered turn tables w₀ trace i R.BufferTooShort
    decided-full ran m l =
        let some : length m.outputs ≡ 0 → ⊥ = λ z. omega (arith, m.used, ap length (no-records now m.outputs z)) in
        sym
        (within-no turn.has (length trace) now before i 15
        (ap (tried (length trace) now before) m.same ∙ tried-full (length trace) now before m.outputs m.end some (omega (arith, sized ran m))))

    -- its steps are counted, or it has none
    stood-steps : (ran : Ran) (m : May now i ran) → ran.used ≤ left
        → (q : Definition.Progress State) × (tried (length trace) now before i ≡ ok q) × (q.steps ≡ p.steps + ran.steps)
    stood-steps ran m l = go (eqb (length m.outputs) 0) refl
      where
        steps-before : before.steps ≡ p.steps
        steps-before = unfold progress_of in refl

        go : (b : Bool) → eqb (length m.outputs) 0 ≡ b → (q : Definition.Progress State) × (tried (length trace) now before i ≡ ok q) × (q.steps ≡ p.steps + ran.steps)
        go true e = (
          before,
          ap (tried (length trace) now before) m.same ∙ tried-none (length trace) now before m.outputs m.end (eqb-true (length m.outputs) 0 e),
          omega (arith, steps-before, m.steps, eqb-true (length m.outputs) 0 e),
        )
        go false e = (
          stood (length trace) now before m.outputs m.end,
          ap (tried (length trace) now before) m.same
              ∙ tried-stands (length trace) now before m.outputs m.end (eqb-false (length m.outputs) 0 e) (omega (arith, sized ran m)),
          omega (arith, steps-before, m.steps),
        )

    decided-many : (ran : Ran) → May now i ran → ran.used ≤ left → turn.has < p.steps + ran.steps → Hindered turn tables w₀ trace i R.OutOfSteps
    decided-many ran m l many =
        let q = stood-steps ran m l in
        sym (within-many turn.has (length trace) now before i q.0 q.1 (omega (arith, q.2)))

    decided-stands : (ran : Ran) → May now i ran → ran.steps ≤ max_steps → ran.used ≤ left → p.steps + ran.steps ≤ turn.has
        → Stands turn (length trace) i (after_of now p ran.steps ran.used)
    decided-stands ran m few l enough = record {
      outputs = m.outputs;
      end = m.end;
      same = m.same;
      few = omega (arith, m.steps);
      within = omega (arith, m.used);
      enough = omega (arith, m.steps);
      progress = rw (m.steps, m.used);
    }

    by : (ran : Option Ran) → Said now i ran → steps_in ran ≤ max_steps → Decided turn tables w₀ trace i (ended_by left turn ran)
    unfolding ended_by judged_by
    by None e few = decided-jams e
    by (Some ran) m few = go (ltb left ran.used) refl (ltb turn.has (p.steps + ran.steps)) refl
      where
        go : (b : Bool) → ltb left ran.used ≡ b → (c : Bool) → ltb turn.has (p.steps + ran.steps) ≡ c
            → Decided turn tables w₀ trace i (progressed turn (cond b (Err R.BufferTooShort) (cond c (Err R.OutOfSteps) (Ok ran))))
        go true f c g = decided-full ran m (ltb-true left ran.used f)
        go false f true g = decided-many ran m (ltb-false left ran.used f) (ltb-true turn.has (p.steps + ran.steps) g)
        go false f false g = decided-stands ran m few (ltb-false left ran.used f) (ltb-false turn.has (p.steps + ran.steps) g)

    pub decided : (ran : Option Ran) → ran ≡ ran_of now 0 i → steps_in ran ≤ max_steps → (r : Result Progress Refusal) → r ≡ ended_by left turn ran
        → Decided turn tables w₀ trace i r
    decided ran e few r f = subst (λ (x : Result Progress Refusal). Decided turn tables w₀ trace i x) (sym f) (by ran (told now i ran e) few)

-- ---- a pass that is judged

-- None is refused at once, and any other goes on.
pub judged-none : (room has before : ℕ) (ran : Option Ran) (r : Refusal) → ◌≡◌ {A = Result Ran Refusal} (Err r) (ok_or ran R.StillDue) → Err r ≡ judged_by room has before ran
unfolding judged_by
judged-none room has before None r e = e
judged-none room has before (Some ran) r e = absurd cc

pub judged-some : (ran : Option Ran) (q : Ran) → ◌≡◌ {A = Result Ran Refusal} (Ok q) (ok_or ran R.StillDue) → ran ≡ Some q
judged-some None q e = absurd cc
judged-some (Some ran) q e = cc

-- An instant that is not refused may stand, and its records have room.
pub judged-ok : (room has before : ℕ) (ran : Option Ran) (q : Ran) → judged_by room has before ran ≡ Ok q → (ran ≡ Some q) × (q.used ≤ room)
unfolding judged_by
judged-ok room has before None q e = absurd cc
judged-ok room has before (Some ran) q e = go (ltb room ran.used) refl (ltb has (before + ran.steps)) e
  where
    go : (b : Bool) → ltb room ran.used ≡ b → (c : Bool) → ◌≡◌ {A = Result Ran Refusal} (cond b (Err R.BufferTooShort) (cond c (Err R.OutOfSteps) (Ok ran))) (Ok q)
        → (Some ran ≡ Some q) × (q.used ≤ room)
    go true f c g = absurd cc
    go false f true g = absurd cc
    go false f false g =
        let same : ran ≡ q = cc in
        (ap (λ (r : Ran). Some r) same, subst (λ (r : Ran). r.used ≤ room) same (ltb-false room ran.used f))
