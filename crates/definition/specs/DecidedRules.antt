-- Request (ii) of document 02, "Show which rule decided", as statements about the definitions; crate `theory` proves them. Assumes nothing.
use Rattle.std.specs.Prelude.{◌≡◌, ℕ, ◌*◌, ◌≤◌, ◌<◌, List, [], ◌∷◌, ◌++◌, Bool, true, false, length, get_or, take, drop}
use Rattle.std.proofs.Math.Option.{Option, none, some}
use Rattle.definition.specs.Bytes.{Bytes, AllBytes, ok, bytes_of}
use Rattle.definition.specs.Limits.{no_position, position_size}
use Rattle.definition.specs.Model.{Message, Bag, Model, component_at}
use Rattle.definition.specs.Pinned.Decoder.{accepted}
use Rattle.definition.specs.Sound.{Every}
use Rattle.definition.specs.Devs.{ticks}
use Rattle.definition.specs.Atomic.{InPhase, advance_of, next_phase, atomic}
use Rattle.definition.specs.SavedRun.{Entry, atomic_count, run_of}
use Rattle.definition.specs.Clauses.{Decides}
use Rattle.definition.specs.Step.{Output, nested}
use Rattle.definition.specs.Instant.{instant_rules}
use Rattle.definition.specs.Advance.{Ended}
use Rattle.definition.specs.AdvanceRelation.{Ends}
use Rattle.definition.specs.Engine.{to_bag, advance}
use Rattle.definition.specs.FlatMachine.{due_now, rule_after}
use Rattle.definition.specs.Carrying.{begins}
use Rattle.definition.specs.StrayCue.{StandsAfter, DecidesFor}
use Rattle.definition.specs.Demands.{MayAdvance, opening_of}

-- "its position in the file, counted in rules from 0, or 65,535 for none"
pub data Told : Option ℕ → ℕ → Type 0 where
  rule : (i : ℕ) → Told (some i) i
  no_rule_held : Told none no_position

-- The rule of the external part of a confluent transition, in its order.
pub data DecidesConfluent (m : Model) (c p : ℕ) (x : Bag) (o : Option ℕ) : Type 0 where
  internal_first : (component_at m.components c).order ≡ 0 → Decides m.ranges m.rules c (next_phase m c p) 0 x o → DecidesConfluent m c p x o
  external_first : (component_at m.components c).order ≡ 1 → Decides m.ranges m.rules c p (ticks (advance_of m c p)) x o → DecidesConfluent m c p x o

-- The i-th atomic in file order had no external part in a step.
abbrev pub NoPart : ℕ → Output → Type 0
NoPart i y = get_or y.decided i none ≡ none

-- "the rule of its last external part" in the steps that gave xs, "with 65,535 if it had none".
pub data LastPart (i : ℕ) : List Output → ℕ → Type 0 where
  last : (before after : List Output) (y : Output) (n : ℕ) → get_or y.decided i none ≡ some n → Every (NoPart i) after → LastPart i (before ++ (y ∷ after)) n
  no_part : (xs : List Output) → Every (NoPart i) xs → LastPart i xs no_position

-- An advance that no row before "each instant" refuses, and how its instants end.
pub record AdvanceEnds (file run : Bytes) (t : ℕ) (bag trace : Bytes) (m : Model) (e : Ended (List Entry)) : Type 0 where
  pub bytes : AllBytes file
  pub model : accepted file ≡ ok m
  pub may : MayAdvance m run t bag
  pub ends : Ends (nested m) (length trace) t (to_bag bag) (begins (opening_of m run) (run_of m run).entries) e

pub record DecidedRules : Type 0 where
  -- "each transition passes it up": an atomic's own, and only where it has an external part
  pub external : (m : Model) (c now e : ℕ) (s : InPhase) (r : Entry) (x : Bag) (o : Option ℕ) (n : ℕ) → StandsAfter m c now e s r → DecidesFor m c now r x o → Told o n
      → ((atomic m c).ext s e x).decided ≡ record { atomic = c; position = n; messages = length x } ∷ []
  pub confluent : (m : Model) (c now e : ℕ) (s : InPhase) (r : Entry) (x : Bag) (o : Option ℕ) (n : ℕ) → StandsAfter m c now e s r → due_now m now c r ≡ true
      → DecidesConfluent m c r.phase x o → Told o n → ((atomic m c).con s x).decided ≡ record { atomic = c; position = n; messages = length x } ∷ []
  pub internal : (m : Model) (c : ℕ) (s : InPhase) → ((atomic m c).int s).decided ≡ []
  -- the same of the flat machine, whatever stood there before
  pub flat_external : (m : Model) (c now : ℕ) (r : Entry) (y : Message) (x : Bag) (o : Option ℕ) (n before : ℕ) → DecidesFor m c now r (y ∷ x) o → Told o n
      → rule_after m now c false (y ∷ x) r before ≡ n
  pub flat_confluent : (m : Model) (c now : ℕ) (r : Entry) (y : Message) (x : Bag) (o : Option ℕ) (n before : ℕ) → DecidesConfluent m c r.phase (y ∷ x) o → Told o n
      → rule_after m now c true (y ∷ x) r before ≡ n
  pub flat_internal : (m : Model) (c now : ℕ) (due : Bool) (r : Entry) (before : ℕ) → rule_after m now c due [] r before ≡ before
  -- "If no instant was done, or the table has under two bytes an atomic, the table stays untouched"
  pub no_instant : (file run : Bytes) (t : ℕ) (bag trace table : Bytes) → (advance file run t bag trace table).instants ≡ 0
      → (advance file run t bag trace table).table ≡ table
  pub short : (file run : Bytes) (t : ℕ) (bag trace table : Bytes) (m : Model) → accepted file ≡ ok m → length table < position_size * atomic_count m
      → (advance file run t bag trace table).table ≡ table
  -- "After an advance a lent table holds, for each atomic in file order, the rule of its last external part in the last instant done": the
  -- rules that the steps of an instant leave are those of the last external parts, and two bytes of the table are each of them
  pub last_part_lem : (xs : List Output) (i : ℕ) → LastPart i xs (get_or (instant_rules xs) i no_position)
  pub entry : (file run : Bytes) (t : ℕ) (bag trace table : Bytes) (m : Model) (e : Ended (List Entry)) → AdvanceEnds file run t bag trace m e
      → 0 < e.progress.instants → position_size * atomic_count m ≤ length table → (i : ℕ) → i < atomic_count m
      → take position_size (drop (position_size * i) (advance file run t bag trace table).table) ≡ bytes_of position_size (get_or e.progress.rules i no_position)
  -- "bytes past its entries always stay."
  pub past_entries : (file run : Bytes) (t : ℕ) (bag trace table : Bytes) (m : Model) → accepted file ≡ ok m
      → (length (advance file run t bag trace table).table ≡ length table)
      × (drop (position_size * atomic_count m) (advance file run t bag trace table).table ≡ drop (position_size * atomic_count m) table)
