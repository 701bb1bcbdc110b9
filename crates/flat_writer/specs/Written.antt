-- The flat form as the code has it: the atomics' numbers and ranks from the tables of a call, the couplings from the sorted rows. The laws in
-- proofs/ say that it is the definition's flat form, where tables and rows are a model's. Assumes nothing.
use Rattle.std.specs.Prelude.{ℕ, ◌+◌, ◌*◌, List, ◌∷◌, map, length, get_or}
use Rattle.definition.specs.Lists.{up_from}
use Rattle.definition.specs.Bytes.{Bytes, stored}
use Rattle.definition.specs.Limits.{fifth_size}
use Rattle.definition.specs.File.{model_bytes}
use Rattle.definition.specs.Model.{Component, Phase, Rule, RangeReading, inclusive, half_open, Model, no_component, component_at}
use Rattle.model_records.specs.Values.{components_in, phases_in, rules_in}
use Rattle.spec_step.specs.Tables.{numbers_at, ranges_in}
use Rattle.law_base.specs.Keys.{coupling_of}
use Rattle.flat_ranks.specs.Ranks.{rank_of}

-- The component numbers of n atomics, by position.
unfoldable pub numbers_in : List ℕ → ℕ → List ℕ
numbers_in t n = map (λ i. get_or t (numbers_at + i) 0) (up_from 0 n)

-- An atomic under the root.
unfoldable pub under_root : Component → Component
under_root k = record { kind = 1; parent = 0; phases = k.phases; initial = k.initial; order = k.order }

unfoldable pub atomics_by : List Component → List ℕ → ℕ → List Component
atomics_by cs t n = map (λ c. under_root (component_at cs c)) (numbers_in t n)

unfoldable pub components_by : List Component → List ℕ → ℕ → List Component
components_by cs t n = no_component ∷ atomics_by cs t n

unfoldable pub rule_by : List ℕ → Rule → Rule
rule_by t k = record {
  component = rank_of t k.component;
  phase = k.phase;
  next = k.next;
  port = k.port;
  low = k.low;
  high = k.high;
  least = k.least;
  low_elapsed = k.low_elapsed;
  high_elapsed = k.high_elapsed;
}

unfoldable pub flat_by : List Component → List Phase → List Rule → List ℕ → ℕ → List ℕ → Model
flat_by cs ps rs t n rows = record { components = components_by cs t n; phases = ps; rules = map (rule_by t) rs; couplings = map coupling_of rows; ranges = ranges_in t }

-- Its bytes at the front of a buffer, and how many they are: a fifth section stands where the model has one.
abbrev pub flat_written : Bytes → Bytes → Bytes → List ℕ → ℕ → List ℕ → Bytes → Bytes
flat_written components phases rules t n rows out = stored (model_bytes (flat_by (components_in components) (phases_in phases) (rules_in rules) t n rows)) out

abbrev pub ranges_size : RangeReading → ℕ
ranges_size inclusive = 0
ranges_size half_open = fifth_size

abbrev pub flat_size : Bytes → Bytes → List ℕ → ℕ → ℕ → ℕ
flat_size phases rules t n count = 13 + 5 * n + 18 * length (phases_in phases) + 18 * length (rules_in rules) + 4 * count + ranges_size (ranges_in t)
