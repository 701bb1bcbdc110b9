-- An instant of the loop is an instant of the relation: the loop's steps are steps in turn, ended or jammed, and no others are.
-- Assumes nothing.
use mathlib.Core.Path.{◌≡◌, refl, sym, ap, ◌∙◌}
use Prim.Native.Nat.{ℕ, zero, suc, ◌≤◌}
use mathlib.Core.List.{List, [], ◌∷◌}
use mathlib.Core.Bool.{Bool, true, false, cond}
use native.Mathlib.Omega.{arith}
use lib.ListN.{length}
use Rattle.definition.specs.Limits.{max_steps}
use Rattle.definition.specs.Model.{Bag}
use Rattle.definition.specs.Step.{Output, Simulator}
use Rattle.definition.specs.Instant.{Instant, done, jammed, stepped, goes_on, steps_at, instant}
use Rattle.definition.specs.AdvanceRelation.{still_given, Steps, Whole, Jams}

nothing-given : (xs : List Output) → still_given [] xs ≡ []
nothing-given [] = refl
nothing-given (y ∷ ys) = refl

module _ {S : Type 0} (k : Simulator S) where
  -- ---- what the loop gives

  -- What at most n steps come to.
  abbrev Outcome : ℕ → ℕ → Bag → S → Instant S → Type 0
  Outcome n now x s (done xs s') = Steps k now x s xs s' × (length xs ≤ n) × (goes_on k now (still_given x xs) s' ≡ false)
  Outcome n now x s jammed = (xs : List Output) × (s' : S) × Steps k now x s xs s' × (length xs ≡ n) × (goes_on k now (still_given x xs) s' ≡ true)

  one_more : (n now : ℕ) (x : Bag) (s : S) (i : Instant S) → goes_on k now x s ≡ true → Outcome n now [] (k.step now x s).state i
      → Outcome (suc n) now x s (stepped (k.step now x s).out i)
  unfolding stepped
  one_more n now x s (done xs s') e h =
      ((e, refl, h.0), omega (arith, h.1), ap (λ z. goes_on k now z s') (sym (nothing-given xs)) ∙ h.2)
  one_more n now x s jammed e h =
      ((k.step now x s).out ∷ h.0, h.1, (e, refl, h.2), ap suc h.3, ap (λ z. goes_on k now z h.1) (sym (nothing-given h.0)) ∙ h.4)

  outcome : (n now : ℕ) (x : Bag) (s : S) → Outcome n now x s (steps_at k n now x s)
  unfolding steps_at
  outcome zero now x s = go (goes_on k now x s) refl
    where
      go : (b : Bool) → goes_on k now x s ≡ b → Outcome zero now x s (cond b jammed (done [] s))
      go true e = ([], s, refl, refl, e)
      go false e = (refl, omega arith, e)
  outcome (suc n) now x s = go (goes_on k now x s) refl (outcome n now [] (k.step now x s).state)
    where
      go : (b : Bool) → goes_on k now x s ≡ b → Outcome n now [] (k.step now x s).state (steps_at k n now [] (k.step now x s).state)
          → Outcome (suc n) now x s (cond b (stepped (k.step now x s).out (steps_at k n now [] (k.step now x s).state)) (done [] s))
      go true e h = one_more n now x s _ e h
      go false e h = (refl, omega arith, e)

  -- as the relation has it
  abbrev pub Settled : ℕ → Bag → S → Instant S → Type 0
  Settled now x s (done xs s') = Whole k now x s xs s'
  Settled now x s jammed = Jams k now x s

  pub settled : (now : ℕ) (x : Bag) (s : S) → Settled now x s (instant k now x s)
  unfolding instant
  settled now x s = go (steps_at k max_steps now x s) (outcome max_steps now x s)
    where
      go : (i : Instant S) → Outcome max_steps now x s i → Settled now x s i
      go (done xs s') h = record { steps = h.0; few = h.1; finished = h.2 }
      go jammed h = record { outputs = h.0; after = h.1; steps = h.2; many = h.3; unfinished = h.4 }

  -- ---- and nothing else

  steps-done : (n now : ℕ) (x : Bag) (s s' : S) (xs : List Output) → Steps k now x s xs s' → length xs ≤ n → goes_on k now (still_given x xs) s' ≡ false
      → steps_at k n now x s ≡ done xs s'
  unfolding steps_at
  steps-done zero now x s s' [] h l e = rw (h, e)
  steps-done zero now x s s' (y ∷ ys) h l e = absurd (omega arith)
  steps-done (suc n) now x s s' [] h l e = rw (h, e)
  steps-done (suc n) now x s s' (y ∷ ys) h l e =
      rw (h.0, steps-done n now [] (k.step now x s).state s' ys h.2 (omega arith) (ap (λ z. goes_on k now z s') (nothing-given ys) ∙ e), ← h.1)
      (unfold stepped in refl)

  steps-jam : (n now : ℕ) (x : Bag) (s s' : S) (xs : List Output) → Steps k now x s xs s' → length xs ≡ n → goes_on k now (still_given x xs) s' ≡ true
      → steps_at k n now x s ≡ jammed
  unfolding steps_at
  steps-jam zero now x s s' [] h l e = rw (h, e)
  steps-jam zero now x s s' (y ∷ ys) h l e = absurd (omega arith)
  steps-jam (suc n) now x s s' [] h l e = absurd (omega arith)
  steps-jam (suc n) now x s s' (y ∷ ys) h l e =
      rw (h.0, steps-jam n now [] (k.step now x s).state s' ys h.2 (omega arith) (ap (λ z. goes_on k now z s') (nothing-given ys) ∙ e))
      (unfold stepped in refl)

  pub whole-instant : (now : ℕ) (x : Bag) (s s' : S) (xs : List Output) → Whole k now x s xs s' → instant k now x s ≡ done xs s'
  unfolding instant
  whole-instant now x s s' xs h = steps-done max_steps now x s s' xs h.steps h.few h.finished

  pub jams-instant : (now : ℕ) (x : Bag) (s : S) → Jams k now x s → instant k now x s ≡ jammed
  unfolding instant
  jams-instant now x s h = steps-jam max_steps now x s h.after h.outputs h.steps h.many h.unfinished
