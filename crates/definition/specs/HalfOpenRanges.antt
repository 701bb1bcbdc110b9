-- Request (vi) of document 02, "Half-open elapsed ranges", as statements about the definitions; crate `theory` proves them. That everything
-- claimed for a chain holds "under either reading, shown with the reading as a parameter", is said by the demands themselves: they are over
-- every model, and the reading is a field of it. Assumes nothing.
use Rattle.std.specs.Prelude.{◌≡◌, ◌⊎◌, ℕ, ◌≤◌, ◌<◌, [], ◌∷◌, ◌++◌, true, false}
use Rattle.definition.specs.Lists.{count}
use Rattle.definition.specs.Bytes.{Bytes, AllBytes, ok}
use Rattle.definition.specs.Limits.{never_field}
use Rattle.definition.specs.Model.{Bag, Rule, RangeReading, inclusive, half_open, Model, read_as}
use Rattle.definition.specs.File.{model_bytes}
use Rattle.definition.specs.Pinned.Decoder.{accepted}
use Rattle.definition.specs.Atomic.{meets, holds}
use Rattle.definition.specs.Flatten.{flatten}
use Rattle.definition.specs.Demands.{flat_form}

-- "Two rules that meet at 500 ms": where the range of the one ends, that of the other begins.
pub record MeetAt (e : ℕ) (k l : Rule) : Type 0 where
  pub ends : k.high_elapsed ≡ e
  pub begins : l.low_elapsed ≡ e
  pub with_end : e < never_field
  pub before : k.low_elapsed ≤ e
  pub after : e ≤ l.high_elapsed

-- What a rule asks besides the elapsed time, of component c in phase p with bag x.
pub record HoldsElse (c p : ℕ) (x : Bag) (k : Rule) : Type 0 where
  pub component : k.component ≡ c
  pub phase : k.phase ≡ p
  pub messages : k.least ≤ count (meets k) x

pub record HalfOpenRanges : Type 0 where
  -- "Two rules that meet at 500 ms both hold on that tick" in a model of four sections ..
  pub both : (c p e : ℕ) (x : Bag) (k l : Rule) → HoldsElse c p x k → HoldsElse c p x l → MeetAt e k l
      → (holds inclusive c p e x k ≡ true) × (holds inclusive c p e x l ≡ true)
  -- .. and with a fifth only the later, since "that high end is excluded".
  pub later : (c p e : ℕ) (x : Bag) (k l : Rule) → HoldsElse c p x k → HoldsElse c p x l → MeetAt e k l → l.low_elapsed < l.high_elapsed
      → (holds half_open c p e x k ≡ false) × (holds half_open c p e x l ≡ true)
  -- No other elapsed time is read otherwise.
  pub elsewhere : (c p e : ℕ) (x : Bag) (k : Rule) → (e ≡ k.high_elapsed → ⊥) → holds half_open c p e x k ≡ holds inclusive c p e x k
  -- "4,294,967,295 still means no end"
  pub no_end : (r : RangeReading) (c p e : ℕ) (x : Bag) (k : Rule) → HoldsElse c p x k → k.high_elapsed ≡ never_field → k.low_elapsed ≤ e
      → holds r c p e x k ≡ true
  -- "Four-section files keep the inclusive reading", and the others have "count 1, then the byte 2" behind their four sections and nothing more.
  pub sections : (file : Bytes) (m : Model) → AllBytes file → accepted file ≡ ok m
      → ((m.ranges ≡ inclusive) × (file ≡ model_bytes (read_as m inclusive))) ⊎ ((m.ranges ≡ half_open) × (file ≡ model_bytes (read_as m inclusive) ++ (1 ∷ 0 ∷ 2 ∷ [])))
  -- "flattening copies the section"
  pub copied : (file buffer : Bytes) (m n : Model) → AllBytes file → accepted file ≡ ok m → (flatten file buffer).number ≡ 0
      → accepted (flat_form file buffer) ≡ ok n → n.ranges ≡ m.ranges
