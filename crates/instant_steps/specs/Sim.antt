-- The step on the tables of a call as something that takes steps, what it asks of the tables and the buffer lent, and the state with its due
-- moments. Assumes nothing.
use Rattle.std.specs.Prelude.{◌≡◌, ℕ, ◌≤◌, ◌<◌, List, [], map, ◌||◌, not, cond, eqb, length, take, replicate}
use Rattle.definition.specs.Bytes.{Bytes}
use Rattle.definition.specs.Lists.{is_empty, sort_by}
use Rattle.definition.specs.Limits.{no_position}
use Rattle.definition.specs.Model.{message_le}
use Rattle.definition.specs.Step.{Simulator}
use Rattle.definition.specs.Step as Definition
use Rattle.definition.specs.Instant.{Instant, instant}
use Rattle.definition.specs.Engine.{to_bag, due_number}
use Rattle.law_base.specs.Keys.{message_of}
use Rattle.law_base.specs.Overlaid.{put_parts}
use Rattle.clock.specs.Times.{latest}
use Rattle.run_state.specs.declared.State.{State}
use Rattle.run_state.specs.Held.{held_in, last_rules_in, ends_in, next_in}
use Rattle.model_records.specs.Values.{phases_in}
use Rattle.spec_step.specs.Tables.{atomics_in}
use Rattle.spec_step.specs.Ranges.{InRange, Seated}
use Rattle.spec_step.specs.TableStep.{table_next}
use Rattle.step_due.specs.Due.{CarriedIn}
use Rattle.step_simulator.specs.Simulator.{table_sim}
pub use Rattle.step_simulator.specs.Simulator.{Lent}

-- The slices phases, rules and tables, where a bag has room for so many messages.
abbrev pub sim_of : List ℕ → List ℕ → List ℕ → ℕ → Simulator State
sim_of phases rules tables room = table_sim phases rules tables (atomics_in tables) room

-- "A given bag belongs to the first of them.": what a step is given.
abbrev pub given_at : Bytes → ℕ → Bytes
given_at given step = cond (eqb step 0) given []

-- The step at `now` with the given messages, from the words of a state.
abbrev pub step_of : List ℕ → List ℕ → List ℕ → ℕ → ℕ → Bytes → List ℕ → Definition.Stepped State
step_of phases rules tables room now given w = (sim_of phases rules tables room).step now (to_bag given) (held_in w)

-- The instant.
abbrev pub instant_of : List ℕ → List ℕ → List ℕ → ℕ → ℕ → Bytes → List ℕ → Instant State
instant_of phases rules tables room now given w = instant (sim_of phases rules tables room) now (to_bag given) (held_in w)

-- ---- what is asked

-- Tables whose words are in range, with a position for each atomic.
pub record Fit (tables : List ℕ) : Type 0 where
  pub in_range : InRange tables
  pub seated : Seated (atomics_in tables) tables

-- The words of a state carry its due moments and the least of them.
pub record Ready (phases tables w : List ℕ) : Type 0 where
  pub carried : CarriedIn phases tables (atomics_in tables) w
  pub next : next_in w ≡ due_number (table_next (phases_in phases) tables (held_in w))

-- What a step at `now` asks: a moment that another may follow, tables in range, and the state's due moments.
pub record Steppable (phases tables : List ℕ) (now : ℕ) (w : List ℕ) : Type 0 where
  pub moment : now < latest
  pub fit : Fit tables
  pub ready : Ready phases tables w

-- With the words lent for a bag.
pub record CanTake (phases tables : List ℕ) (now : ℕ) (w : List ℕ) (work : ℕ) : Type 0 where
  pub lent : Lent work
  pub steppable : Steppable phases tables now w

-- What the steps at `now` ask that put their records from `from` on.
pub record CanRun (phases tables : List ℕ) (now : ℕ) (w : List ℕ) (work from out : ℕ) : Type 0 where
  pub lent : Lent work
  pub steppable : Steppable phases tables now w
  pub within : from ≤ out

-- ---- what a step leaves

-- The rules of the last external parts of the first n atomics.
unfoldable pub rules_shown : ℕ → List ℕ → List ℕ
rules_shown n w = take n (last_rules_in w)

-- The state, ready for another step, the rules that decided in it over those of before, and the root's bag, sorted, in the first `count`
-- words of `work`.
pub record Stepped (phases tables w₀ w work : List ℕ) (count : ℕ) (r : Definition.Stepped State) : Type 0 where
  pub state : held_in w ≡ r.state
  pub rules : last_rules_in w ≡ put_parts (last_rules_in w₀) 0 r.out.decided
  pub ready : Ready phases tables w
  pub size : count ≡ length r.out.bag
  pub bag : map message_of (take count work) ≡ sort_by message_le r.out.bag

-- Where a step will be taken, no atomic has had an external part; all else is as it was.
pub record Begun (now : ℕ) (given : Bytes) (w₀ w : List ℕ) : Type 0 where
  pub held : held_in w ≡ held_in w₀
  pub rules : last_rules_in w ≡ cond (eqb (next_in w₀) now || not (is_empty (to_bag given))) (replicate (length (last_rules_in w₀)) no_position) (last_rules_in w₀)
  pub ends : ends_in w ≡ ends_in w₀
  pub next : next_in w ≡ next_in w₀
