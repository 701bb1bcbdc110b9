-- Request (i): where no rule holds, the external transition keeps both phase and last moment, in the nest and in the flat machine; a rule sets the
-- last moment, and so does a confluent transition. Assumes nothing.
use mathlib.Core.Path.{◌≡◌, refl, sym, ap, ap₂, ◌∙◌, subst}
use Prim.Native.Nat.{ℕ, ◌+◌, ◌-◌}
use mathlib.Core.List.{◌∷◌}
use mathlib.Core.Option.{Option, none, some}
use mathlib.Core.Bool.{true}
use native.Mathlib.Omega.{arith}
use lib.ListN.{get_or}
use Rattle.definition.specs.Model.{Bag, Model, no_rule, leaf}
use Rattle.definition.specs.Devs.{After, later}
use Rattle.definition.specs.Atomic.{InPhase, unspent, followed, rule_for, time_advance, external, confluent}
use Rattle.definition.specs.SavedRun.{Entry, not_before, due_of, due_at}
use Rattle.definition.specs.FlatMachine.{both_parts, due_now, moved_by, moved}
use Rattle.definition.specs.StrayCue.{set_at, StandsAfter, DecidesFor, StrayCue}
use Rattle.law_refusals.proofs.Deciding.{decided-rule}
use Rattle.law_nest.proofs.Times.{left-later}
use Rattle.law_nest.proofs.Entries.{both, confluent-due}
use Rattle.law_nest.proofs.AnySplit.{ta-stands}

module _ (m : Model) (c now e : ℕ) (s : InPhase) (r : Entry) (x : Bag) (h : StandsAfter m c now e s r) where
  -- the search of the external transition is that of the entry
  pub searches : (o : Option ℕ) → DecidesFor m c now r x o → rule_for m c s.phase (s.spent + e) x ≡ o
  searches o d =
      let since : s.spent + e ≡ now - r.last = omega (arith, h.1) in
      ap₂ (λ p t. rule_for m c p t x) h.0 since ∙ decided-rule m c r.phase (now - r.last) x o d

  keeps : DecidesFor m c now r x none → StandsAfter m c now 0 (external m c s e x).state r
  unfolding external followed
  keeps d = rw (searches none d) (h.0, omega (arith, h.1))

  -- it is due when it was
  due_as_before : DecidesFor m c now r x none → not_before now (due_of m c r) ≡ true → later now (time_advance m c (external m c s e x).state) ≡ due_of m c r
  unfolding due_at
  due_as_before d early =
      ap (later now) (ta-stands m (λ _. r) now (leaf c) 0 (external m c s e x).state (keeps d) (omega (arith, h.1), early))
      ∙ left-later now 0 now (due_of m c r) (omega arith) early

  follows : (i : ℕ) → DecidesFor m c now r x (some i) → StandsAfter m c now 0 (external m c s e x).state (set_at now (get_or m.rules i no_rule).next)
  unfolding external followed unspent
  follows i d = rw (searches (some i) d) (refl, omega arith)

  sets : due_now m now c r ≡ true → StandsAfter m c now 0 (confluent m c s x).state (set_at now (both_parts m c r.phase x))
  unfolding due_now unspent both
  sets d =
      subst (λ (z : After InPhase). StandsAfter m c now 0 z.state (set_at now (both_parts m c r.phase x))) (sym (confluent-due m c now e s r x h.0 h.1 d))
      (refl, omega arith)

pub stray-cue : StrayCue
unfolding moved moved_by
stray-cue = record {
  keeps = keeps;
  due_as_before = due_as_before;
  follows = follows;
  sets = sets;
  flat_keeps = λ m c now r y x d. rw (decided-rule m c r.phase (now - r.last) (y ∷ x) none d);
  flat_follows = λ m c now r y x i d. rw (decided-rule m c r.phase (now - r.last) (y ∷ x) (some i) d);
  flat_sets = λ m c now r y x. refl;
}
