-- What a transition on tables does to a state: at its own position it sets phase and last moment, or it changes nothing. Laws about what stays
-- go through this. Assumes nothing.
use mathlib.Core.Path.{◌≡◌, refl, ap}
use Prim.Native.Nat.{ℕ, zero, suc, ◌+◌}
use mathlib.Core.List.{List}
use mathlib.Core.Option.{Option, none, some}
use mathlib.Core.Bool.{Bool}
use lib.ListN.{length}
use Rattle.definition.specs.Model.{Bag, Phase, Rule}
use Rattle.run_state.specs.declared.State.{State}
use Rattle.run_state.specs.Held.{changed_at}
use Rattle.spec_step.specs.TableStep.{led_into, lead_by, changed_by, parts_from, table_step}

pub data SetAt (now : ℕ) (st : State) (i : ℕ) : State → Type 0 where
  set_at : (p : ℕ) → SetAt now st i (changed_at st i p now)
  kept_at : SetAt now st i st

led : (now : ℕ) (st : State) (i : ℕ) (o : Option ℕ) → SetAt now st i (led_into now st i o)
unfolding led_into
led now st i none = kept_at
led now st i (some p) = set_at p

pub set-at-or-kept : (ps : List Phase) (t : List ℕ) (rs : List Rule) (now : ℕ) (st : State) (i c : ℕ) (due : Bool) (x : Bag)
    → SetAt now st i (changed_by ps t rs now st i c due x)
unfolding changed_by
set-at-or-kept ps t rs now st i c due x = led now st i (lead_by ps t rs now st i c due x)

-- What decides is told of each atomic.
pub parts-length : (ps : List Phase) (t : List ℕ) (rs : List Rule) (es fs : List ℕ) (room now : ℕ) (x : Bag) (n i : ℕ) (st : State)
    → length (parts_from ps t rs es fs room now x n i st) ≡ n
unfolding parts_from
parts-length ps t rs es fs room now x zero i st = refl
parts-length ps t rs es fs room now x (suc n) i st = ap suc (parts-length ps t rs es fs room now x n (i + 1) _)

pub decided-length : (ps : List Phase) (t : List ℕ) (rs : List Rule) (n room now : ℕ) (x : Bag) (st : State) → length (table_step ps t rs n room now x st).out.decided ≡ n
unfolding table_step
decided-length ps t rs n room now x st = parts-length ps t rs _ _ room now x n 0 st
