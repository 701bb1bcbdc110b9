-- Request (i) of document 02, "A stray cue lengthened the hold", as statements about the definitions; crate `theory` proves them. They are said
-- of one atomic, of which every nest is made, and of entries: a state of the atomic stands for its entry as in `Carrying`, whatever it has
-- spent and whatever the elapsed time. Assumes nothing.
use Rattle.std.specs.Prelude.{◌≡◌, ℕ, ◌-◌, ◌∷◌, true, false, get_or}
use Rattle.std.proofs.Math.Option.{Option, none, some}
use Rattle.definition.specs.Model.{Message, Bag, Model, no_rule, leaf}
use Rattle.definition.specs.Devs.{later}
use Rattle.definition.specs.Atomic.{InPhase, atomic}
use Rattle.definition.specs.SavedRun.{Entry, not_before, due_of}
use Rattle.definition.specs.Clauses.{Decides}
use Rattle.definition.specs.FlatMachine.{both_parts, due_now, moved}
use Rattle.definition.specs.Carrying.{Stands}

-- The entry of an atomic that comes into phase p now.
abbrev pub set_at : ℕ → ℕ → Entry
set_at now p = record { phase = p; last = now }

module _ (m : Model) (c now : ℕ) where
  -- An elapsed time e after its last event, the atomic's state s stands for the entry r.
  abbrev pub StandsAfter : ℕ → InPhase → Entry → Type 0
  StandsAfter e s r = Stands m (λ _. r) now e (leaf c) s

  -- What decides for an entry and a bag: the rule at a position, or none.
  abbrev pub DecidesFor : Entry → Bag → Option ℕ → Type 0
  DecidesFor r x o = Decides m.ranges m.rules c r.phase (now - r.last) x o

pub record StrayCue : Type 0 where
  -- "where no rule holds, the external transition keeps both phase and last moment."
  pub keeps : (m : Model) (c now e : ℕ) (s : InPhase) (r : Entry) (x : Bag) → StandsAfter m c now e s r → DecidesFor m c now r x none
      → StandsAfter m c now 0 ((atomic m c).ext s e x).state r
  -- So the hold is not lengthened: what was not due before now is due when it was.
  pub due_as_before : (m : Model) (c now e : ℕ) (s : InPhase) (r : Entry) (x : Bag) → StandsAfter m c now e s r → DecidesFor m c now r x none
      → not_before now (due_of m c r) ≡ true → later now ((atomic m c).ta ((atomic m c).ext s e x).state) ≡ due_of m c r
  -- A rule sets the last moment, also where it leads into the same phase.
  pub follows : (m : Model) (c now e : ℕ) (s : InPhase) (r : Entry) (x : Bag) → StandsAfter m c now e s r → (i : ℕ) → DecidesFor m c now r x (some i)
      → StandsAfter m c now 0 ((atomic m c).ext s e x).state (set_at now (get_or m.rules i no_rule).next)
  -- "A confluent transition still sets the last moment, whichever part had no rule."
  pub sets : (m : Model) (c now e : ℕ) (s : InPhase) (r : Entry) (x : Bag) → StandsAfter m c now e s r → due_now m now c r ≡ true
      → StandsAfter m c now 0 ((atomic m c).con s x).state (set_at now (both_parts m c r.phase x))
  -- "nested and flat alike": the same of the flat machine, for a bag that has a message.
  pub flat_keeps : (m : Model) (c now : ℕ) (r : Entry) (y : Message) (x : Bag) → DecidesFor m c now r (y ∷ x) none → moved m now c false (y ∷ x) r ≡ r
  pub flat_follows : (m : Model) (c now : ℕ) (r : Entry) (y : Message) (x : Bag) (i : ℕ) → DecidesFor m c now r (y ∷ x) (some i)
      → moved m now c false (y ∷ x) r ≡ set_at now (get_or m.rules i no_rule).next
  pub flat_sets : (m : Model) (c now : ℕ) (r : Entry) (y : Message) (x : Bag)
      → moved m now c true (y ∷ x) r ≡ set_at now (both_parts m c r.phase (y ∷ x))
