-- What a step does to the entry of one atomic: it sets phase and last moment, or keeps both. Laws about last moments go through this. And what
-- the atomic's confluent transition is on phases. Assumes nothing.
use mathlib.Core.Path.{◌≡◌, refl, sym, ap, ◌∙◌, subst}
use Prim.Native.Nat.{ℕ, ◌+◌, ◌-◌}
use mathlib.Core.List.{List, [], ◌∷◌}
use mathlib.Core.Option.{Option, none, some}
use mathlib.Core.Bool.{Bool, true, false, cond}
use lib.ListN.{length}
use lib.Dec.{eqb}
use Rattle.definition.specs.Model.{Bag, Rule, Model, component_at}
use Rattle.definition.specs.Devs.{finite, same_time, ticks, After}
use Rattle.definition.specs.Atomic.{InPhase, told_as, unspent, followed, advance_of, next_phase, rule_for, time_advance, internal, external, confluent}
use Rattle.definition.specs.SavedRun.{Entry, due_of}
use Rattle.definition.specs.FlatMachine.{led_to, external_part, both_parts, rule_of_both, moved_by, moved}
use Rattle.law_nest.proofs.Times.{due-spent}

pub data SetOrKept (now : ℕ) (r : Entry) : Entry → Type 0 where
  set : (p : ℕ) → SetOrKept now r (record { phase = p; last = now })
  kept : SetOrKept now r r

-- by a search: the rule's position decides, and not the phase
none_kept : (m : Model) (now : ℕ) (r : Entry) → moved_by m now none r ≡ r
unfolding moved_by
none_kept m now r = refl

searched : (m : Model) (now : ℕ) (o : Option ℕ) (r : Entry) → SetOrKept now r (moved_by m now o r)
unfolding moved_by
searched m now none r = subst (SetOrKept now r) (sym (none_kept m now r)) kept
searched m now (some i) r = set _

pub set-or-kept : (m : Model) (now c : ℕ) (b : Bool) (x : Bag) (r : Entry) → SetOrKept now r (moved m now c b x r)
unfolding moved
set-or-kept m now c true [] r = set _
set-or-kept m now c true (y ∷ x) r = set _
set-or-kept m now c false [] r = kept
set-or-kept m now c false (y ∷ x) r = searched m now (rule_for m c r.phase (now - r.last) (y ∷ x)) r

-- ---- both parts of a confluent transition

-- what comes of it: the atomic is in a phase with nothing spent, and a rule's position comes up
abbrev after : ℕ → Bag → ℕ → Option ℕ → After InPhase
after c x p o = record { state = unspent p; decided = record { atomic = c; position = told_as o; messages = length x } ∷ [] }

unfoldable pub both : Model → ℕ → ℕ → Bag → After InPhase
both m c p x = after c x (both_parts m c p x) (rule_of_both m c p x)

-- a search leads to the same phase, and with nothing spent it spends nothing
followed-phase : (ks : List Rule) (p since : ℕ) (o : Option ℕ) → (followed ks p since o).phase ≡ led_to ks p o
unfolding followed unspent led_to
followed-phase ks p since none = refl
followed-phase ks p since (some i) = refl

followed-unspent : (ks : List Rule) (p : ℕ) (o : Option ℕ) → followed ks p 0 o ≡ unspent (led_to ks p o)
unfolding followed unspent led_to
followed-unspent ks p none = refl
followed-unspent ks p (some i) = refl

-- where what is left makes up the advance, δ_con comes to the phase of both parts, nothing is spent, and the rule of the external part comes up
confluent-both : (m : Model) (c : ℕ) (s : InPhase) (x : Bag) → s.spent + ticks (time_advance m c s) ≡ ticks (advance_of m c s.phase)
    → confluent m c s x ≡ both m c s.phase x
unfolding confluent both both_parts rule_of_both internal external external_part unspent
confluent-both m c s x whole = go (eqb (component_at m.components c).order 0)
  where
    first : (next : ℕ) → external m c (unspent next) 0 x ≡ after c x (external_part m c next 0 x) (rule_for m c next 0 x)
    first next =
        let o = rule_for m c next 0 x in
        ap (λ q. record { state = q; decided = record { atomic = c; position = told_as o; messages = length x } ∷ [] }) (followed-unspent m.rules next o)

    second : (e : ℕ) → e ≡ ticks (advance_of m c s.phase) → (let found = rule_for m c s.phase e x in
        record { state = unspent (next_phase m c (followed m.rules s.phase e found).phase); decided = record { atomic = c; position = told_as found; messages = length x } ∷ [] })
        ≡ after c x (next_phase m c (external_part m c s.phase (ticks (advance_of m c s.phase)) x)) (rule_for m c s.phase (ticks (advance_of m c s.phase)) x)
    second e h =
        let found = rule_for m c s.phase e x in
        ap (λ p. after c x (next_phase m c p) found) (followed-phase m.rules s.phase e found)
        ∙ ap (λ e. after c x (next_phase m c (led_to m.rules s.phase (rule_for m c s.phase e x))) (rule_for m c s.phase e x)) h

    go : (b : Bool) → cond b (external m c (unspent (next_phase m c s.phase)) 0 x) (let part = external m c s (ticks (time_advance m c s)) x in
        record { state = unspent (next_phase m c part.state.phase); decided = part.decided })
        ≡ after c x (cond b (external_part m c (next_phase m c s.phase) 0 x) (next_phase m c (external_part m c s.phase (ticks (advance_of m c s.phase)) x)))
        (cond b (rule_for m c (next_phase m c s.phase) 0 x) (rule_for m c s.phase (ticks (advance_of m c s.phase)) x))
    go true = first (next_phase m c s.phase)
    go false = second _ whole

-- and so it is where the entry is due that the state stands for
pub confluent-due : (m : Model) (c now e : ℕ) (s : InPhase) (r : Entry) (x : Bag) → s.phase ≡ r.phase → r.last + (s.spent + e) ≡ now
    → same_time (due_of m c r) (finite now) ≡ true → confluent m c s x ≡ both m c r.phase x
unfolding due_of time_advance
confluent-due m c now e s r x p h d =
    let whole = due-spent r.last s.spent e now (advance_of m c r.phase) h d in
    confluent-both m c s x (rw p whole) ∙ ap (λ q. both m c q x) p
