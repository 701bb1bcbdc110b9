-- What the code's pass over an instant answers, by what the definition says that the instant leaves. Assumes nothing.
use Rattle.std.specs.Prelude.{◌≡◌, ◌⊎◌, Option, Some, None, List, [], ◌∷◌, ℕ, ◌+◌, ◌≤◌, length}
use Rattle.std.proofs.lemmas.List.Edits.{sets}
use Rattle.definition.specs.Bytes.{Bytes}
use Rattle.definition.specs.Limits.{max_steps}
use Rattle.definition.specs.Step.{Output}
use Rattle.definition.specs.Instant.{Instant, done, jammed, instant_trace, instant_parts, instant_rules}
use Rattle.law_base.specs.Overlaid.{overlaid}
use Rattle.run_state.specs.declared.State.{State}
use Rattle.run_state.specs.Held.{held_in}
use Rattle.instant_steps.specs.Sim.{Ready, rules_shown}
use Rattle.instant_steps.specs.declared.Ran.{Ran}

-- For an instant that may stand its steps and where its records end.
unfoldable pub ran_of : ℕ → ℕ → Instant State → Option Ran
ran_of now from jammed = None
ran_of now from (done xs s) = Some (record { steps = length xs; used = from + length (instant_trace now xs) })

-- The steps that are counted: one that does not stand counts none.
abbrev pub steps_in : Option Ran → ℕ
steps_in None = 0
steps_in (Some r) = r.steps

-- The records of an instant that may stand are in the buffer from `from` on, where all of them fit there. Otherwise its content
-- behind `from` is left open.
abbrev pub Recorded : ℕ → ℕ → Bytes → Bytes → Instant State → Type 0
Recorded now from out₀ out jammed = Unit {0}
Recorded now from out₀ out (done xs s) = from + length (instant_trace now xs) ≤ length out₀ → out ≡ sets out₀ from (instant_trace now xs)

-- The state is the one that the instant leaves; where it never ends, nothing is said.
abbrev pub Left : Instant State → State → Type 0
Left jammed st = Unit {0}
Left (done xs s) st = st ≡ s

-- The answer, the buffer and the state, which is ready for another instant where this one stands; at most 1,024 steps are counted.
pub record Judged (phases tables : List ℕ) (now from : ℕ) (out₀ out : Bytes) (w : List ℕ) (i : Instant State) (r : Option Ran) : Type 0 where
  pub answer : r ≡ ran_of now from i
  pub few : steps_in r ≤ max_steps
  pub recorded : Recorded now from out₀ out i
  pub left : Left i (held_in w)
  pub ready : (r ≡ None → ⊥) → Ready phases tables w

-- The rules that decided in the steps that were taken, over those of before; each step tells of every one of the first n atomics.
pub record RulesOver (n : ℕ) (w₀ w : List ℕ) (xs : List Output) : Type 0 where
  pub shown : rules_shown n w ≡ overlaid (rules_shown n w₀) (instant_parts xs)
  pub each : (length (instant_parts xs) ≡ n) ⊎ (xs ≡ [])

abbrev pub Overlays : ℕ → List ℕ → List ℕ → Instant State → Type 0
Overlays n w₀ w jammed = Unit {0}
Overlays n w₀ w (done xs s) = RulesOver n w₀ w xs

-- After an instant that may stand they are the instant's; where no step was taken they are those of before.
abbrev pub RulesLeft : ℕ → List ℕ → List ℕ → Instant State → Type 0
RulesLeft n w₀ w jammed = Unit {0}
RulesLeft n w₀ w (done [] s) = rules_shown n w ≡ rules_shown n w₀
RulesLeft n w₀ w (done (x ∷ xs) s) = rules_shown n w ≡ instant_rules (x ∷ xs)
