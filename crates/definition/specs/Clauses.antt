-- A saved run that fits, a given bag that fits, and the rule that decides, as clauses of documents 01 and 02 and with no test of the engine's.
-- Demands 1 and 2 pin the engine's tests to them. Assumes nothing.
use Rattle.std.specs.Prelude.{◌≡◌, ◌⊎◌, ℕ, suc, ◌+◌, ◌≤◌, ◌<◌, List, [], ◌∷◌, map, length, get_or}
use Rattle.std.proofs.Math.Option.{Option, none, some}
use Rattle.definition.specs.Lists.{concat}
use Rattle.definition.specs.Bytes.{Bytes, number_at}
use Rattle.definition.specs.Limits.{port_count, never_field, max_moment, max_given}
use Rattle.definition.specs.Model.{Message, Bag, Rule, RangeReading, inclusive, half_open, Model, no_rule, component_at, atomics}
use Rattle.definition.specs.Records.{message_layout, message_bytes}
use Rattle.definition.specs.Sound.{Held, Every}
use Rattle.definition.specs.Devs.{finite}
use Rattle.definition.specs.Atomic.{advance_of}
use Rattle.definition.specs.SavedRun.{Entry, no_entry, atomic_count, run_length, run_of}

-- ---- saved runs

-- The entry r of the atomic c in a run with that open moment.
pub record EntryFits (m : Model) (opening c : ℕ) (r : Entry) : Type 0 where
  -- "the count and phases agree with the model"
  pub phase : r.phase < (component_at m.components c).phases
  -- "no last moment is at or after the open one (0 is allowed with open moment 0)"
  pub last : (r.last < opening) ⊎ ((opening ≡ 0) × (r.last ≡ 0))
  -- "nothing is due before it"
  pub due : (a : ℕ) → advance_of m c r.phase ≡ finite a → opening ≤ r.last + a

pub record RunFits (m : Model) (s : Bytes) : Type 0 where
  pub long : run_length (atomic_count m) ≤ length s
  pub number_of_atomics : number_at 2 8 s ≡ atomic_count m
  -- "the open moment is at most 1,000,000,000,001"
  pub opening : (run_of m s).opening ≤ suc max_moment
  pub entries : (i : ℕ) → i < atomic_count m → EntryFits m (run_of m s).opening (get_or (atomics m.components) i 0) (get_or (run_of m s).entries i no_entry)

-- ---- given bags

-- The messages x, as "rows of port 1, value 2; at most 16".
pub record BagFits (b : Bytes) (x : Bag) : Type 0 where
  pub rows : b ≡ concat (map message_bytes x)
  pub held : Every (λ y. Held (message_layout y)) x
  pub few : length x ≤ max_given
  -- "Ports are 0 to 3"
  pub ports : Every (λ y. y.port < port_count) x

-- ---- the deciding rule

-- Some of the elements, in their order.
pub data Among {A : Type 0} : List A → List A → Type 0 where
  nothing : Among [] []
  with : (x : A) (ys xs : List A) → Among ys xs → Among (x ∷ ys) (x ∷ xs)
  without : (x : A) (ys xs : List A) → Among ys xs → Among ys (x ∷ xs)

-- "messages on that port with a value in the range"
abbrev pub Meets : Rule → Message → Type 0
Meets k x = (x.port ≡ k.port) × (k.low ≤ x.value) × (x.value ≤ k.high)

-- Before the high end or at it; with a fifth section "that high end is excluded".
abbrev pub UpToEnd : RangeReading → ℕ → ℕ → Type 0
UpToEnd inclusive e high = e ≤ high
UpToEnd half_open e high = e < high

pub record WithinElapsed (r : RangeReading) (k : Rule) (e : ℕ) : Type 0 where
  pub from : k.low_elapsed ≤ e
  -- "4,294,967,295 still means no end"
  pub to : UpToEnd r e k.high_elapsed ⊎ (k.high_elapsed ≡ never_field)

-- "Conditions: component, phase, elapsed time within the range, and at least the least count of messages"
pub record Holds (r : RangeReading) (c p e : ℕ) (x : Bag) (k : Rule) : Type 0 where
  pub component : k.component ≡ c
  pub phase : k.phase ≡ p
  pub elapsed : WithinElapsed r k e
  pub messages : (ys : Bag) × Among ys x × (length ys ≡ k.least) × Every (Meets k) ys

-- "the first rule in file order whose conditions all hold decides": its position, or none "where no rule holds".
pub data Decides (r : RangeReading) (ks : List Rule) (c p e : ℕ) (x : Bag) : Option ℕ → Type 0 where
  first : (i : ℕ) → i < length ks → Holds r c p e x (get_or ks i no_rule) → ((j : ℕ) → j < i → Holds r c p e x (get_or ks j no_rule) → ⊥)
      → Decides r ks c p e x (some i)
  none_holds : ((j : ℕ) → j < length ks → Holds r c p e x (get_or ks j no_rule) → ⊥) → Decides r ks c p e x none
