-- The atomic model of document 01, "One step": phases, rules and the two orders, as requests (i), (ii) and (vi) of document 02 mend it; and
-- the model of every component of a nest. Assumes nothing.
use Rattle.std.specs.Prelude.{ℕ, suc, ◌+◌, List, [], ◌∷◌, Bool, ◌&&◌, ◌||◌, cond, leb, ltb, eqb, length, get_or}
use Rattle.std.proofs.Math.Option.{Option, none, some}
use Rattle.definition.specs.Lists.{count}
use Rattle.definition.specs.Limits.{never_field, no_position}
use Rattle.definition.specs.Model.{Message, Bag, Rule, RangeReading, inclusive, half_open, Model, no_rule, component_at, phase_at, outputs, Tree, Forest, leaf, node, stop, more, name_of}
use Rattle.definition.specs.Devs.{Time, finite, never, remaining, ticks, After, Devs, Part, resultant}

-- ---- the deciding rule

-- "messages on that port with a value in the range"
unfoldable pub meets : Rule → Message → Bool
meets k x = eqb x.port k.port && leb k.low x.value && leb x.value k.high

-- Up to the high end, or, with a fifth section, short of it: "that high end is excluded".
unfoldable pub up_to_end : RangeReading → ℕ → ℕ → Bool
up_to_end inclusive e high = leb e high
up_to_end half_open e high = ltb e high

-- "High elapsed 4,294,967,295 means no upper end", and under either reading it "still means no end".
unfoldable pub within_elapsed : RangeReading → Rule → ℕ → Bool
within_elapsed r k e = leb k.low_elapsed e && (up_to_end r e k.high_elapsed || eqb k.high_elapsed never_field)

-- "Conditions: component, phase, elapsed time within the range, and at least the least count of messages": component c in phase p,
-- e after its last moment, with bag x; r is the model's reading of ranges.
unfoldable pub holds : RangeReading → ℕ → ℕ → ℕ → Bag → Rule → Bool
holds r c p e x k = eqb k.component c && eqb k.phase p && within_elapsed r k e && leb k.least (count (meets k) x)

-- "the first rule in file order whose conditions all hold decides": its position, where the rules given stand from `at` on.
unfoldable pub deciding : (Rule → Bool) → ℕ → List Rule → Option ℕ
deciding test at [] = none
deciding test at (k ∷ ks) = let rest = deciding test (suc at) ks in cond (test k) (some at) rest

-- "The search for the deciding rule now tells its position in the file, counted in rules from 0, or 65,535 for none".
unfoldable pub told_as : Option ℕ → ℕ
told_as none = no_position
told_as (some i) = i

-- ---- the state of an atomic

-- Document 001 counts the elapsed time anew after every event, also after one that a model lets pass. So the state is the phase and the
-- time already spent in it before the last event: the last moment lies that time and the elapsed time back.
pub record InPhase : Type 0 where
  pub phase : ℕ
  pub spent : ℕ

unfoldable pub unspent : ℕ → InPhase
unspent p = record { phase = p; spent = 0 }

-- The rule at a position leads into its phase; "where no rule holds, the external transition keeps both phase and last moment": all the
-- time since then is spent.
unfoldable pub followed : List Rule → ℕ → ℕ → Option ℕ → InPhase
followed ks p since none = record { phase = p; spent = since }
followed ks p since (some i) = unspent (get_or ks i no_rule).next

-- ---- the atomic c

module _ (m : Model) (c : ℕ) where
  -- "the phase's advance, or never"
  unfoldable pub advance_of : ℕ → Time
  advance_of p = cond (eqb (phase_at m c p).advance never_field) never (finite (phase_at m c p).advance)

  -- "next phase"
  unfoldable pub next_phase : ℕ → ℕ
  next_phase p = (phase_at m c p).next

  -- The position of the rule that decides in phase p, so long since the last moment.
  unfoldable pub rule_for : ℕ → ℕ → Bag → Option ℕ
  rule_for p since x = deciding (holds m.ranges c p since x) 0 m.rules

  -- ta: what is left of the phase's advance
  unfoldable pub time_advance : InPhase → Time
  time_advance s = remaining (advance_of s.phase) s.spent

  -- δ_int: no external part, so nothing decided
  unfoldable pub internal : InPhase → After InPhase
  internal s = record { state = unspent (next_phase s.phase); decided = [] }

  -- δ_ext, an elapsed time e after the last event
  unfoldable pub external : InPhase → ℕ → Bag → After InPhase
  external s e x =
      let since = s.spent + e in
      let found = rule_for s.phase since x in
      record { state = followed m.rules s.phase since found; decided = record { atomic = c; position = told_as found; messages = length x } ∷ [] }

  -- δ_con: "order 0 takes the next phase, then the external transition with elapsed time 0; order 1 the external one with elapsed time
  -- equal to the advance, then the next phase of where it led": δ_ext adds what was spent to what is left. Its external part passes up.
  unfoldable pub confluent : InPhase → Bag → After InPhase
  confluent s x =
      let part = external s (ticks (time_advance s)) x in
      cond (eqb (component_at m.components c).order 0)
      (external (internal s).state 0 x) (record { state = (internal part.state).state; decided = part.decided })

  abbrev pub atomic : Devs
  atomic = record { State = InPhase; ta = time_advance; out = λ s. outputs (phase_at m c s.phase); int = internal; ext = external; con = confluent }

-- ---- every component: atomic, or the resultant of its children

abbrev mutual
  pub devs_of : Model → Tree → Devs
  devs_of m (leaf c) = atomic m c
  devs_of m (node c f) = resultant m.couplings c (parts_of m f)

  pub parts_of : Model → Forest → List Part
  parts_of m stop = []
  parts_of m (more t f) = record { name = name_of t; model = devs_of m t } ∷ parts_of m f
