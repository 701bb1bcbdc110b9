-- The first pass over an instant: why it is left undone, the progress after it, and what it leaves in the state and in the scratch. Assumes nothing.
use Rattle.std.specs.Prelude.{◌≡◌, Option, Some, None, Result, Ok, Err, List, Bool, true, false, cond, ℕ, ◌+◌, ◌-◌, ◌≤◌, eqb, leb, ltb, length}
use Rattle.definition.specs.Bytes.{Bytes, refused}
use Rattle.definition.specs.Limits.{max_steps}
use Rattle.definition.specs.Step.{Output}
use Rattle.definition.specs.Instant.{Instant, done, instant_trace}
use Rattle.definition.specs.Channels.{tried_within}
use Rattle.run_state.specs.declared.State.{State}
use Rattle.run_state.specs.Held.{held_in}
use Rattle.spec_step.specs.Tables.{atomics_in}
use Rattle.instant_steps.specs.Sim.{Ready}
use Rattle.instant_steps.specs.Verdicts.{Recorded, Left, RulesLeft}
use Rattle.instant_steps.specs.declared.Ran.{Ran}
use Rattle.instant_attempt.specs.Progress.{progress_of}
use Rattle.instant_attempt.specs.declared.Progress.{Progress}
use Rattle.instant_attempt.specs.declared.TurnWithin.{TurnWithin}
use Rattle.refusals.specs.Refusals.{number_of}
use Rattle.refusals.specs.declared.Refusal.{Refusal}
use Rattle.refusals.specs.declared.Refusal.TheVariants as R

-- ---- the answer

-- "13 something still due there after 1,024 steps; .. then 15 records pass the end of the lent trace", of which `room` bytes are left; last 22,
-- where the steps with this instant pass those that the call has.
unfoldable pub judged_by : (room has before : ℕ) → Option Ran → Result Ran Refusal
judged_by room has before None = Err R.StillDue
judged_by room has before (Some ran) = cond (ltb room ran.used) (Err R.BufferTooShort) (cond (ltb has (before + ran.steps)) (Err R.OutOfSteps) (Ok ran))

-- The progress with an instant of so many steps, its records of so many bytes. "A moment without a step is no instant and is not counted."
unfoldable pub after_of : ℕ → Progress → ℕ → ℕ → Progress
after_of now p steps size =
    cond (eqb steps 0) p
    (record { opening = record { 0 = now + 1 }; instants = p.instants + 1; steps = p.steps + steps; used = p.used + size })

-- The progress with an instant that was judged.
abbrev pub progressed : TurnWithin → Result Ran Refusal → Result Progress Refusal
progressed turn (Ok ran) = Ok (after_of turn.at.0 turn.progress ran.steps ran.used)
progressed turn (Err r) = Err r

-- Where the instant ends, by its first pass.
unfoldable pub ended_by : ℕ → TurnWithin → Option Ran → Result Progress Refusal
ended_by room turn ran = progressed turn (judged_by room turn.has turn.progress.steps ran)

-- The instant is left undone, by the definition's number.
abbrev pub Hindered : TurnWithin → List ℕ → List ℕ → Bytes → Instant State → Refusal → Type 0
Hindered turn tables w₀ trace i r = refused (number_of r) ≡ tried_within turn.has (length trace) turn.at.0 (progress_of trace tables w₀ turn.progress) i

-- The instant stands: what its steps gave and the state that it leaves, room for its records, steps enough, and the progress q with it.
pub record Stands (turn : TurnWithin) (room : ℕ) (i : Instant State) (q : Progress) : Type 0 where
  pub outputs : List Output
  pub end : State
  pub same : i ≡ done outputs end
  pub few : length outputs ≤ max_steps
  pub within : turn.progress.used + length (instant_trace turn.at.0 outputs) ≤ room
  pub enough : turn.progress.steps + length outputs ≤ turn.has
  pub progress : q ≡ after_of turn.at.0 turn.progress (length outputs) (length (instant_trace turn.at.0 outputs))

-- Where the instant ends: standing, or undone.
abbrev pub Decided : TurnWithin → List ℕ → List ℕ → Bytes → Instant State → Result Progress Refusal → Type 0
Decided turn tables w₀ trace i (Ok q) = Stands turn (length trace) i q
Decided turn tables w₀ trace i (Err r) = Hindered turn tables w₀ trace i r

-- ---- the state and the scratch

-- The instant stands, and its records fit into a scratch of so many bytes.
abbrev pub in_scratch : Progress → ℕ → Result Progress Refusal → Bool
in_scratch p size (Ok q) = leb (q.used - p.used) size
in_scratch p size (Err r) = false

-- The state is the instant's with its rules, and its records are in the scratch.
pub record Kept (phases tables : List ℕ) (now : ℕ) (w₀ w scratch₀ scratch : List ℕ) (i : Instant State) : Type 0 where
  pub left : Left i (held_in w)
  pub rules : RulesLeft (atomics_in tables) w₀ w i
  pub recorded : Recorded now 0 scratch₀ scratch i
  pub ready : Ready phases tables w

-- Where the instant of a turn ends by its first pass, and what the pass leaves: by whether its records are in the scratch, the instant's
-- state or the one before it.
pub record Passed (phases tables : List ℕ) (turn : TurnWithin) (w₀ w scratch₀ scratch trace : List ℕ) (i : Instant State) (r : Result Progress Refusal) : Type 0 where
  pub decided : Decided turn tables w₀ trace i r
  pub kept : in_scratch turn.progress (length scratch) r ≡ true → Kept phases tables turn.at.0 w₀ w scratch₀ scratch i
  pub back : in_scratch turn.progress (length scratch) r ≡ false → w ≡ w₀
