-- Where a call of the code ends, as the definitions have it, and its whole outcome. Assumes nothing.
use Rattle.std.specs.Prelude.{◌≡◌, None, List, [], ◌||◌, cond, ℕ, suc, ◌+◌, ◌*◌, ◌≤◌, eqb, ltb, length}
use Rattle.definition.specs.Bytes.{Bytes, ok, number_at, stored}
use Rattle.definition.specs.Advance.{ended, advancing, advance_from}
use Rattle.definition.specs.Advance as Definition
use Rattle.definition.specs.Channels.{advancing_within, advance_within}
use Rattle.definition.specs.Limits.{max_moment, max_steps, position_size}
use Rattle.definition.specs.SavedRun.{run_length}
use Rattle.definition.specs.Engine.{to_bag, table_bytes, advanced}
use Rattle.definition.specs.Engine as Engine
use Rattle.clock.specs.Times.{latest}
use Rattle.spec_step.specs.Tables.{atomics_in}
use Rattle.instant_steps.specs.Sim.{sim_of, Lent, Fit, Ready, rules_shown}
use Rattle.run_state.specs.declared.State.{State}
use Rattle.run_state.specs.Held.{held_end}
use Rattle.instant_attempt.specs.Progress.{progress_of, Beyond}
use Rattle.instant_attempt.specs.declared.Progress.{Progress}
use Rattle.instant_loop.specs.declared.Ended.{Ended}
use Rattle.refusals.specs.Refusals.{number_in}
use Rattle.call_answers.specs.declared.Advanced.{Advanced}
use Rattle.call_answers.specs.Answers.{advanced_of}

-- ---- what is asked

-- What the instants up to t ask: words for the bags, tables in range, the state's due moments, and numbers with room for t + 1 instants.
pub record Callable (phases tables : List ℕ) (t : ℕ) (p : Progress) (w : List ℕ) (work trace : ℕ) : Type 0 where
  pub lent : Lent work
  pub moment : t ≤ max_moment
  pub used : p.used ≤ trace
  pub instants : p.instants + suc t ≤ latest
  pub steps : p.steps + max_steps * suc t ≤ latest
  pub fit : Fit tables
  pub ready : Ready phases tables w

-- What a call to t asks whose instants begin with nothing done, with a run buffer of so many bytes.
pub record Startable (tables : List ℕ) (t work run : ℕ) : Type 0 where
  pub lent : Lent work
  pub moment : t ≤ max_moment
  pub fit : Fit tables
  pub run_fits_lem : run_length (atomics_in tables) ≤ run

-- ---- what is answered

-- "then t with the bag": what the instant at `now` is given.
abbrev pub given_to : Bytes → ℕ → ℕ → Bytes
given_to bag now t = cond (ltb now t) [] bag

-- The instants of a call to t that has come so far and may do `has` steps in all, by the definition, in a trace of `room` bytes; and without a limit.
abbrev pub within_of : List ℕ → List ℕ → List ℕ → (words has room t : ℕ) → Bytes → ℕ → Definition.Progress State → Definition.Ended State
within_of phases rules tables words has room t bag turns p = advancing_within (sim_of phases rules tables words) has room t (to_bag bag) turns p

abbrev pub advancing_of : List ℕ → List ℕ → List ℕ → ℕ → ℕ → ℕ → Bytes → ℕ → Definition.Progress State → Definition.Ended State
advancing_of phases rules tables words room t bag turns p = advancing (sim_of phases rules tables words) room t (to_bag bag) turns p

abbrev pub ended_of : Bytes → List ℕ → List ℕ → Ended → Definition.Ended State
ended_of trace tables w e = ended (number_in e.refusal) (progress_of trace tables w e.progress)

-- They end as the definition says, the trace beyond the records is as lent, and another call may go on from there.
pub record AdvancedTo (phases tables : List ℕ) (trace₀ trace : Bytes) (w : List ℕ) (r : Ended) (e : Definition.Ended State) : Type 0 where
  pub same : ended_of trace tables w r ≡ e
  pub beyond : Beyond trace₀ trace r.progress.used
  pub ready : Ready phases tables w

-- After success the open moment is one past t.
unfoldable pub finished_of : ℕ → Progress → Ended
finished_of t p = record { refusal = None; progress = record { opening = record { 0 = suc t }; instants = p.instants; steps = p.steps; used = p.used } }

-- "If no instant was done, or the table has under two bytes an atomic, the table stays untouched": a lent table with the rules that the words
-- show after so many instants.
unfoldable pub table_left : List ℕ → List ℕ → ℕ → Bytes → Bytes
table_left tables w instants table =
    cond (eqb instants 0 || ltb (length table) (position_size * atomics_in tables)) table (stored (table_bytes (rules_shown (atomics_in tables) w)) table)

-- What a call answers that has ended so.
abbrev pub answer_of : Ended → Advanced
answer_of e = record { number = number_in e.refusal; instants = e.progress.instants; steps = e.progress.steps; trace_bytes = e.progress.used }

-- The whole call on a run buffer whose state is st, with so many steps, and without a limit.
abbrev pub turned_by : List ℕ → List ℕ → List ℕ → (words has t : ℕ) → Bytes → Bytes → State → Bytes → Bytes → Engine.Advanced
turned_by phases rules tables words has t bag run st trace table =
    advanced run trace table (ok (held_end (atomics_in tables) (advance_within (sim_of phases rules tables words) has (length trace) t (to_bag bag) (number_at 8 0 run) st)))

abbrev pub advanced_by : List ℕ → List ℕ → List ℕ → ℕ → ℕ → Bytes → Bytes → State → Bytes → Bytes → Engine.Advanced
advanced_by phases rules tables words t bag run st trace table =
    advanced run trace table (ok (held_end (atomics_in tables) (advance_from (sim_of phases rules tables words) (length trace) t (to_bag bag) (number_at 8 0 run) st)))

-- Whatever table is lent: with the rules that the words show it is the definition's, and so is all else.
abbrev pub Outcome : List ℕ → List ℕ → Bytes → Bytes → Advanced → (Bytes → Engine.Advanced) → Type 0
Outcome tables w run trace r whole = (table : Bytes) → advanced_of run trace (table_left tables w r.instants table) r ≡ whole table
