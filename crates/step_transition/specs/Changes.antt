-- Where a search leads, and a transition over the bytes of the phase and rule sections and the words of a state. Assumes nothing.
use Rattle.std.specs.Prelude.{◌≡◌, List, map, Bool, cond, ltb, ℕ, ◌+◌, ◌/◌, ◌%◌, ◌≤◌, ◌<◌, length, get_or, set}
use Rattle.std.proofs.Math.Option.{Option, none, some}
use Rattle.definition.specs.Bytes.{Bytes}
use Rattle.definition.specs.Limits.{max_components, max_atomic_bag, no_position}
use Rattle.definition.specs.Model.{Bag, Rule}
use Rattle.definition.specs.Engine.{due_number}
use Rattle.definition.specs.Atomic.{told_as}
use Rattle.law_base.specs.Keys.{message_of}
use Rattle.law_base.specs.Overlaid.{put_part}
use Rattle.run_state.specs.declared.State.{State}
use Rattle.run_state.specs.Held.{held_in, last_rules_in, ends_in}
use Rattle.model_records.specs.Values.{phases_in, rules_in}
use Rattle.spec_step.specs.Tables.{numbers_at}
use Rattle.spec_step.specs.TableStep.{leads, rule_in, lead_by, part_by, due_at_position, changed_by}

-- A phase and the position of a rule are three bytes; an answer that is more leads nowhere.
abbrev pub nowhere : ℕ
nowhere = 16777216

-- The phase that the code's answer names: its lowest byte, or none.
unfoldable pub led_of : ℕ → Option ℕ
led_of r = cond (ltb r nowhere) (some (r % 256)) none

-- The code's answer to a search: where it leads, and the position of the rule as it is told; what leads nowhere has none.
pub record Led (r : ℕ) (to found : Option ℕ) : Type 0 where
  pub phase : led_of r ≡ to
  pub rule : r / 256 % 65536 ≡ told_as found
  pub no_rule_held : nowhere ≤ r → r / 256 % 65536 ≡ no_position

-- And that of a transition with messages: where it leads, and what decides its external part.
pub record Leads (r : ℕ) (to decided : Option ℕ) : Type 0 where
  pub phase : led_of r ≡ to
  pub part : some (r / 256 % 65536) ≡ decided
  pub no_rule_held : nowhere ≤ r → r / 256 % 65536 ≡ no_position

-- The phase that the deciding rule leads to, by the tables of a call.
abbrev pub lead_in : List ℕ → List Rule → ℕ → ℕ → ℕ → Bag → Option ℕ
lead_in tables rs c p e x = leads rs (rule_in tables rs c p e x)

-- Where the transition at `now` of the atomic c at position i leads, due or not, with a bag of keys; and the state after it.
abbrev pub lead_of : Bytes → Bytes → List ℕ → ℕ → List ℕ → ℕ → ℕ → Bool → List ℕ → Option ℕ
lead_of phases rules tables now w i c due bag = lead_by (phases_in phases) tables (rules_in rules) now (held_in w) i c due (map message_of bag)

abbrev pub part_of : Bytes → Bytes → List ℕ → ℕ → List ℕ → ℕ → ℕ → Bool → List ℕ → Option ℕ
part_of phases rules tables now w i c due bag = part_by (phases_in phases) tables (rules_in rules) now (held_in w) i c due (map message_of bag)

abbrev pub change_of : Bytes → Bytes → List ℕ → ℕ → List ℕ → ℕ → ℕ → Bool → List ℕ → State
change_of phases rules tables now w i c due bag = changed_by (phases_in phases) tables (rules_in rules) now (held_in w) i c due (map message_of bag)

-- When the atomic at position i is due, as a number.
abbrev pub end_of : Bytes → List ℕ → List ℕ → ℕ → ℕ
end_of phases tables w i = due_number (due_at_position (phases_in phases) tables (held_in w) i)

-- A position, the atomic that stands there, its due moment carried, and a bag that an atomic can be handed: its messages are counted in 16 bits.
pub record AtomicAt (phases : Bytes) (tables w : List ℕ) (i c : ℕ) (bag : List ℕ) : Type 0 where
  pub position : i < max_components
  pub component : c < max_components
  pub own : c ≡ get_or tables (numbers_at + i) 0
  pub carried : get_or (ends_in w) i 0 ≡ end_of phases tables w i
  pub few : length bag ≤ max_atomic_bag

-- The words hold that state, the rule of the atomic's external part, and its due moment.
pub record Changed (phases : Bytes) (tables w₀ w : List ℕ) (i : ℕ) (after : State) (part : Option ℕ) : Type 0 where
  pub state : held_in w ≡ after
  pub rules : last_rules_in w ≡ put_part (last_rules_in w₀) i part
  pub ends : ends_in w ≡ set (ends_in w₀) i (end_of phases tables w i)
