-- The table of refusals for a model file, as a relation: the place where reading stops, and the condition that holds there, the rows
-- before it having passed. No decoder stands in it: of a section only the count is read, and its records are told by the bytes that
-- spell them. Demand 1 is stated with it. Assumes nothing.
use Rattle.std.specs.Prelude.{◌≡◌, ℕ, ◌+◌, ◌*◌, ◌≤◌, ◌<◌, List, [], ◌++◌, length, get_or}
use Rattle.definition.specs.Bytes.{Bytes, number_at, laid_out}
use Rattle.definition.specs.Limits.{count_size, max_routes}
use Rattle.definition.specs.Model.{Component, Phase, Rule, RangeReading, inclusive, half_open, Model, no_rule}
use Rattle.definition.specs.File.{section_bytes, ranges_bytes}
use Rattle.definition.specs.Routes.{routes}
use Rattle.definition.specs.Sound.{Held, Every, ElapsedKeeps, Form, component_form, phase_form, rule_form, coupling_form, Lines}

-- ---- one section, at the front of the bytes s

module _ {A : Type 0} (f : Form A) (s : Bytes) where
  -- The section has the records xs, and the bytes `rest` follow it.
  pub record Spells (xs : List A) (rest : Bytes) : Type 0 where
    pub bytes : s ≡ section_bytes (λ x. laid_out (f.layout x)) xs ++ rest
    pub held : Every (λ x. Held (f.layout x)) xs

  -- "each section" and "its records": no row refuses it.
  pub record Passes (xs : List A) (rest : Bytes) : Type 0 where
    pub spells : Spells xs rest
    pub lines : Lines f xs

  -- Reading stops in it, with a number.
  pub data Stops : ℕ → Type 0 where
    -- "1 count cut off"
    count_cut : length s < count_size → Stops 1
    -- "then 3 count over its limit, or no component"
    count_wrong : count_size ≤ length s → (f.Within (number_at count_size 0 s) → ⊥) → Stops 3
    -- "then 5 phase count is not the sum"
    not_the_sum : count_size ≤ length s → f.Within (number_at count_size 0 s) → (f.Right (number_at count_size 0 s) → ⊥) → Stops 5
    -- "then 1 records cut off"
    records_cut : count_size ≤ length s → f.Within (number_at count_size 0 s) → f.Right (number_at count_size 0 s)
        → length s < count_size + number_at count_size 0 s * f.size → Stops 1
    -- "4 component, 6 phase, 7 rule, 8 coupling breaks a line above"
    line_broken : (xs : List A) (rest : Bytes) → Spells xs rest → f.Within (length xs) → f.Right (length xs)
        → (i : ℕ) → i < length xs → (f.Keeps xs i → ⊥) → Stops f.number

-- ---- the file

-- "Four sections stand in a fixed order", and no row refuses one of them. The reading of ranges is not told by them.
pub record FourPass (file : Bytes) (m : Model) (rest : Bytes) : Type 0 where
  pub after_components_lem : Bytes
  pub after_phases_lem : Bytes
  pub after_rules_lem : Bytes
  pub components : Passes component_form file m.components after_components_lem
  pub phases : Passes (phase_form m.components) after_components_lem m.phases after_phases_lem
  pub rules : Passes (rule_form m.components) after_phases_lem m.rules after_rules_lem
  pub couplings : Passes (coupling_form m.components) after_rules_lem m.couplings rest

-- What follows the couplings: nothing, or "a fifth section: count 1, then the byte 2", and the bytes `rest` after it.
pub data Fifth (s : Bytes) : RangeReading → Bytes → Type 0 where
  absent : s ≡ [] → Fifth s inclusive []
  present : (rest : Bytes) → s ≡ ranges_bytes half_open ++ rest → Fifth s half_open rest

-- .. and no row refuses that either.
pub record FivePass (file : Bytes) (m : Model) (rest : Bytes) : Type 0 where
  pub after_couplings : Bytes
  pub four : FourPass file m after_couplings
  pub fifth : Fifth after_couplings m.ranges rest
  pub elapsed : Every (ElapsedKeeps m.ranges) m.rules

-- The number of a file, 0 where no row applies to it.
pub data Judged (file : Bytes) : ℕ → Type 0 where
  in_components : (n : ℕ) → Stops component_form file n → Judged file n
  in_phases : (cs : List Component) (s : Bytes) (n : ℕ) → Passes component_form file cs s → Stops (phase_form cs) s n → Judged file n
  in_rules : (cs : List Component) (ps : List Phase) (s r : Bytes) (n : ℕ) → Passes component_form file cs s → Passes (phase_form cs) s ps r
      → Stops (rule_form cs) r n → Judged file n
  in_couplings : (cs : List Component) (ps : List Phase) (rs : List Rule) (s r u : Bytes) (n : ℕ) → Passes component_form file cs s
      → Passes (phase_form cs) s ps r → Passes (rule_form cs) r rs u → Stops (coupling_form cs) u n → Judged file n
  -- "20, and not 1 or 3, when bytes follow the couplings and are not such a section"
  no_such_section : (m : Model) (s : Bytes) → FourPass file m s → ((r : RangeReading) (rest : Bytes) → Fifth s r rest → ⊥) → Judged file 20
  -- "Equal elapsed ends are refused by 7 once the fifth section has been read"
  equal_ends : (m : Model) (s rest : Bytes) → FourPass file m s → Fifth s half_open rest
      → (i : ℕ) → i < length m.rules → (get_or m.rules i no_rule).low_elapsed ≡ (get_or m.rules i no_rule).high_elapsed → Judged file 7
  -- "2 remains for bytes after it."
  left_over : (m : Model) (rest : Bytes) → FivePass file m rest → 0 < length rest → Judged file 2
  -- "9 more than 1,024"
  many_routes : (m : Model) → FivePass file m [] → max_routes < length (routes m) → Judged file 9
  -- "0 is success."
  no_row : (m : Model) → FivePass file m [] → length (routes m) ≤ max_routes → Judged file 0
