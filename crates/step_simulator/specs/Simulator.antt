-- The step of the nest on the tables of a call, over the bytes of the phase and rule sections. Assumes nothing.
use Rattle.std.specs.Prelude.{◌≡◌, List, map, Bool, ◌&&◌, not, eqb, ℕ, ◌+◌, ◌≤◌, ◌<◌, min, length, take, get_or}
use Rattle.std.proofs.Math.Option.{Option}
use Rattle.definition.specs.Lists.{sort_by}
use Rattle.definition.specs.Bytes.{Bytes}
use Rattle.definition.specs.Limits.{max_components, max_atomic_bag}
use Rattle.definition.specs.Model.{Bag, message_le}
use Rattle.definition.specs.Devs.{Time}
use Rattle.definition.specs.Engine.{to_bag}
use Rattle.definition.specs.Step.{Stepped, Simulator}
use Rattle.law_base.specs.Keys.{message_of}
use Rattle.law_base.specs.Overlaid.{put_parts}
use Rattle.clock.specs.Times.{latest}
use Rattle.run_state.specs.declared.State.{State}
use Rattle.run_state.specs.Held.{held_in, last_rules_in, ends_in}
use Rattle.model_records.specs.Values.{phases_in, rules_in}
use Rattle.step_due.specs.Due.{CarriedIn}
use Rattle.spec_step.specs.Ranges.{InRange}
use Rattle.spec_step.specs.Tables.{numbers_at}
use Rattle.spec_step.specs.TableStep.{root_room, is_up}
use Rattle.spec_step.specs.Flags.{marks_in, reached_in}
use Rattle.step_collect.specs.Collected.{keys_for}
use Rattle.step_transition.specs.Changes.{end_of}
use Rattle.spec_step.specs.TableStep as T

abbrev pub table_next : Bytes → List ℕ → State → Time
table_next phases tables = T.table_next (phases_in phases) tables

-- The step of n atomics, where a bag has room for so many messages.
abbrev pub table_step : Bytes → Bytes → List ℕ → ℕ → ℕ → ℕ → Bag → State → Stepped State
table_step phases rules tables n room now x st = T.table_step (phases_in phases) tables (rules_in rules) n room now x st

abbrev pub table_sim : Bytes → Bytes → List ℕ → ℕ → ℕ → Simulator State
table_sim phases rules tables n room = record { next = table_next phases tables; step = table_step phases rules tables n room }

-- ---- one atomic

-- Component c is not due, and nothing may reach it. What is given reaches the root whatever its flag.
abbrev pub is_still : List ℕ → ℕ → Bool
is_still flags c = eqb (get_or (marks_in flags) c 0) 0 && (not (eqb c 0) && eqb (get_or (reached_in flags) c 0) 0)

-- The atomic at position i after its transition, by the flags of the step, where its bag has room for so many messages.
abbrev pub changed_one : Bytes → Bytes → List ℕ → List ℕ → ℕ → ℕ → Bytes → State → ℕ → State
changed_one phases rules tables flags room now given st i =
    let c = get_or tables (numbers_at + i) 0 in
    T.changed_by (phases_in phases) tables (rules_in rules) now st i c (is_up (marks_in flags) c) (map message_of (take room (keys_for phases tables flags given c)))

-- And what decides its external part.
abbrev pub part_of_one : Bytes → Bytes → List ℕ → List ℕ → ℕ → ℕ → Bytes → State → ℕ → Option ℕ
part_of_one phases rules tables flags room now given st i =
    let c = get_or tables (numbers_at + i) 0 in
    T.part_by (phases_in phases) tables (rules_in rules) now st i c (is_up (marks_in flags) c) (map message_of (take room (keys_for phases tables flags given c)))

-- The words lent for a bag are no more than the largest one needs.
abbrev pub Lent : ℕ → Type 0
Lent work = work ≤ max_atomic_bag

-- A position whose due moment is carried, and so many words for its bag.
pub record CanChange (phases : Bytes) (tables w : List ℕ) (i work : ℕ) : Type 0 where
  pub lent : Lent work
  pub position : i < max_components
  pub in_range : InRange tables
  pub carried : get_or (ends_in w) i 0 ≡ end_of phases tables w i

-- ---- all atomics

-- n atomics from position i on.
abbrev pub changed_all : Bytes → Bytes → List ℕ → List ℕ → ℕ → ℕ → Bytes → ℕ → ℕ → State → State
changed_all phases rules tables flags room now given n i st =
    T.changed_from (phases_in phases) tables (rules_in rules) (marks_in flags) (reached_in flags) room now (to_bag given) n i st

abbrev pub parts_of_all : Bytes → Bytes → List ℕ → List ℕ → ℕ → ℕ → Bytes → ℕ → ℕ → State → List (Option ℕ)
parts_of_all phases rules tables flags room now given n i st =
    T.parts_from (phases_in phases) tables (rules_in rules) (marks_in flags) (reached_in flags) room now (to_bag given) n i st

pub record Changeable (phases : Bytes) (tables : List ℕ) (n : ℕ) (w : List ℕ) (work : ℕ) : Type 0 where
  pub lent : Lent work
  pub few : n ≤ max_components
  pub in_range : InRange tables
  pub carried : CarriedIn phases tables n w

pub record AllChanged (phases : Bytes) (tables : List ℕ) (n : ℕ) (w₀ w : List ℕ) (after : State) (parts : List (Option ℕ)) : Type 0 where
  pub state : held_in w ≡ after
  pub rules : last_rules_in w ≡ put_parts (last_rules_in w₀) 0 parts
  pub carried : CarriedIn phases tables n w

-- ---- the root's bag

-- As many of these keys as a quarter of the room takes, as messages, sorted: the first `count` words.
pub record RootBag (room : ℕ) (work : List ℕ) (count : ℕ) (keys : List ℕ) : Type 0 where
  pub size : count ≡ min (root_room room) (length keys)
  pub bag : map message_of (take count work) ≡ sort_by message_le (map message_of (take (root_room room) keys))

-- ---- the step

-- What a step at `now` asks: a moment that another may follow, tables in range, the state's due moments, and no more words for a bag than
-- the largest one needs.
pub record CanStep (phases : Bytes) (tables : List ℕ) (n now : ℕ) (w : List ℕ) (work : ℕ) : Type 0 where
  pub moment : now < latest
  pub changeable : Changeable phases tables n w work

-- What it leaves: the state with its due moments, the rules that decided in it over those of before, and the root's bag, sorted, in the first
-- `count` words of `work`.
pub record HasStepped (phases : Bytes) (tables : List ℕ) (n : ℕ) (w₀ w work : List ℕ) (count : ℕ) (r : Stepped State) : Type 0 where
  pub state : held_in w ≡ r.state
  pub rules : last_rules_in w ≡ put_parts (last_rules_in w₀) 0 r.out.decided
  pub carried : CarriedIn phases tables n w
  pub size : count ≡ length r.out.bag
  pub bag : map message_of (take count work) ≡ sort_by message_le r.out.bag
