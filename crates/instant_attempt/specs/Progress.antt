-- How far a call of the code has come with its lent state, as the definitions have it: the records written are the front of the lent trace. Assumes nothing.
use Rattle.std.specs.Prelude.{◌≡◌, Result, Ok, Err, List, [], cond, ℕ, ◌+◌, ◌≤◌, ◌<◌, eqb, length, take, drop}
use Rattle.definition.specs.Bytes.{Bytes}
use Rattle.definition.specs.Bytes as Definition
use Rattle.definition.specs.Limits.{max_steps}
use Rattle.definition.specs.Instant.{Instant}
use Rattle.definition.specs.Channels.{tried_within}
use Rattle.definition.specs.Advance.{tried}
use Rattle.definition.specs.Advance as Whole
use Rattle.clock.specs.Times.{latest}
use Rattle.run_state.specs.declared.State.{State}
use Rattle.run_state.specs.Held.{held_in}
use Rattle.spec_step.specs.Tables.{atomics_in}
use Rattle.instant_steps.specs.Sim.{Lent, Ready, Steppable, rules_shown}
use Rattle.instant_attempt.specs.declared.Progress.{Progress}
use Rattle.instant_attempt.specs.declared.Turn.{Turn}
use Rattle.instant_attempt.specs.declared.TurnWithin.{TurnWithin}
use Rattle.refusals.specs.Refusals.{result_as}
use Rattle.refusals.specs.declared.Refusal.{Refusal}

-- The rules of the last instant done, if the call has done one.
unfoldable pub rules_by : List ℕ → List ℕ → Progress → List ℕ
rules_by tables w p = cond (eqb p.instants 0) [] (rules_shown (atomics_in tables) w)

unfoldable pub progress_of : Bytes → List ℕ → List ℕ → Progress → Whole.Progress State
progress_of trace tables w p = record {
  opening = p.opening.0;
  state = held_in w;
  instants = p.instants;
  steps = p.steps;
  trace = take p.used trace;
  rules = rules_by tables w p;
}

-- The progress, or the number that leaves an instant undone.
abbrev pub tried_of : Bytes → List ℕ → List ℕ → Result Progress Refusal → Definition.Result (Whole.Progress State)
tried_of trace tables w r = result_as (progress_of trace tables w) r

-- The progress after a turn: an instant that is left undone leaves it.
abbrev pub progress_in : Progress → Result Progress Refusal → Progress
progress_in p (Ok q) = q
progress_in p (Err r) = p

-- The numbers of a call have room for one instant more, and the records written are within the trace.
pub record Room (p : Progress) (trace : ℕ) : Type 0 where
  pub used : p.used ≤ trace
  pub instants : p.instants < latest
  pub steps : p.steps + max_steps ≤ latest

-- An instant of so many steps, its records of so many bytes, can be counted.
pub record Countable (now : ℕ) (p : Progress) (more size : ℕ) : Type 0 where
  pub moment : now < latest
  pub instants : p.instants < latest
  pub steps : p.steps + more ≤ latest
  pub used : p.used + size ≤ latest

-- The first `used` bytes may be new, the others are as lent.
pub record Beyond (trace₀ trace : Bytes) (used : ℕ) : Type 0 where
  pub within : used ≤ length trace₀
  pub size : length trace ≡ length trace₀
  pub same : drop used trace ≡ drop used trace₀

-- What an instant asks that is tried: words for the bags, a moment that another may follow, tables in range, the state's due moments, and room.
pub record CanTry (phases tables : List ℕ) (turn : Turn) (w : List ℕ) (work trace : ℕ) : Type 0 where
  pub lent : Lent work
  pub steppable : Steppable phases tables turn.at.0 w
  pub room : Room turn.progress trace

-- The same of a turn with the steps that the call may do.
pub record CanTryWithin (phases tables : List ℕ) (turn : TurnWithin) (w : List ℕ) (work trace : ℕ) : Type 0 where
  pub lent : Lent work
  pub steppable : Steppable phases tables turn.at.0 w
  pub room : Room turn.progress trace

-- Nothing has changed.
pub record Unchanged (w₀ w : List ℕ) (trace₀ trace : Bytes) : Type 0 where
  pub state : w ≡ w₀
  pub bytes : trace ≡ trace₀

-- .. where the instant is left undone.
abbrev pub Undone : List ℕ → List ℕ → Bytes → Bytes → Result Progress Refusal → Type 0
Undone w₀ w trace₀ trace (Ok q) = Unit {0}
Undone w₀ w trace₀ trace (Err r) = Unchanged w₀ w trace₀ trace

-- An instant i, tried in a turn with the state and the trace as they were lent: the definition's progress or number, the whole trace, and a
-- state that is ready for another instant. An undone instant leaves the state, and every byte of the trace, as it was.
pub record Tried (phases tables : List ℕ) (turn : Turn) (w₀ w : List ℕ) (trace₀ trace : Bytes) (i : Instant State) (r : Result Progress Refusal) : Type 0 where
  pub same : tried_of trace tables w r ≡ tried (length trace₀) turn.at.0 (progress_of trace₀ tables w₀ turn.progress) i
  pub beyond : Beyond trace₀ trace (progress_in turn.progress r).used
  pub undone : Undone w₀ w trace₀ trace r
  pub more : turn.progress.used ≤ (progress_in turn.progress r).used
  pub instants : (progress_in turn.progress r).instants ≤ turn.progress.instants + 1
  pub steps : (progress_in turn.progress r).steps ≤ turn.progress.steps + max_steps
  pub ready : Ready phases tables w

-- The same within the steps that the call may do.
pub record TriedWithin (phases tables : List ℕ) (turn : TurnWithin) (w₀ w : List ℕ) (trace₀ trace : Bytes) (i : Instant State) (r : Result Progress Refusal) : Type 0 where
  pub same : tried_of trace tables w r ≡ tried_within turn.has (length trace₀) turn.at.0 (progress_of trace₀ tables w₀ turn.progress) i
  pub beyond : Beyond trace₀ trace (progress_in turn.progress r).used
  pub undone : Undone w₀ w trace₀ trace r
  pub more : turn.progress.used ≤ (progress_in turn.progress r).used
  pub instants : (progress_in turn.progress r).instants ≤ turn.progress.instants + 1
  pub steps : (progress_in turn.progress r).steps ≤ turn.progress.steps + max_steps
  pub ready : Ready phases tables w
