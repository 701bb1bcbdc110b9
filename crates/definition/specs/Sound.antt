-- What an accepted model is: each line of documents 01 and 02 on the model file as a clause over its records, and each section's form.
-- Nothing here reads a file. Assumes nothing.
use Rattle.std.specs.Prelude.{◌≡◌, ◌⊎◌, ℕ, suc, ◌+◌, ◌^◌, ◌≤◌, ◌<◌, List, [], ◌∷◌, length, get_or}
use Rattle.definition.specs.Bytes.{Layout}
use Rattle.definition.specs.Limits.{max_components, max_ancestors, max_own_phases, max_phases, max_outputs, max_rules, max_couplings, max_routes, port_count, max_advance, never_field, component_size, phase_size, rule_size, coupling_size}
use Rattle.definition.specs.Model.{Message, Component, Phase, Rule, Coupling, RangeReading, inclusive, half_open, Model, no_message, no_phase, no_rule, no_coupling, component_at, phases_before, slots, coupling_row}
use Rattle.definition.specs.Records.{component_layout, phase_layout, rule_layout, coupling_layout}
use Rattle.definition.specs.File.{phase_total}
use Rattle.definition.specs.Routes.{routes}

-- Each value is one that its width holds: "Values are any 16-bit number", and so for every field.
abbrev pub Held : Layout → Type 0
Held [] = Unit {0}
Held (f ∷ fs) = (f.1 < 256 ^ f.0) × Held fs

abbrev pub Every : {A : Type 0} → (A → Type 0) → List A → Type 0
Every P [] = Unit {0}
Every P (x ∷ xs) = P x × Every P xs

-- The first row does not lie above the second in dictionary order.
abbrev pub NotAbove : List ℕ → List ℕ → Type 0
NotAbove [] ys = Unit {0}
NotAbove (x ∷ xs) [] = ⊥
NotAbove (x ∷ xs) (y ∷ ys) = (x < y) ⊎ ((x ≡ y) × NotAbove xs ys)

-- ---- components

-- Component c has n ancestors: its parent, the parent's parent and so on up to the root.
pub data Ancestors (cs : List Component) : ℕ → ℕ → Type 0 where
  of_root : Ancestors cs 0 0
  of_child : (c n : ℕ) → 0 < c → Ancestors cs (component_at cs c).parent n → Ancestors cs c (suc n)

-- The lines for component i, whose record is k.
pub record ComponentKeeps (cs : List Component) (i : ℕ) (k : Component) : Type 0 where
  -- "kind (0 coupled, 1 atomic)"
  pub kind : (k.kind ≡ 0) ⊎ (k.kind ≡ 1)
  -- "Component 0, the root, is coupled with 0 in its parent byte"
  pub root : i ≡ 0 → (k.kind ≡ 0) × (k.parent ≡ 0)
  -- "Any other parent is an earlier coupled component."
  pub parent : 0 < i → (k.parent < i) × ((component_at cs k.parent).kind ≡ 0)
  -- "At most 8 ancestors."
  pub ancestors : (n : ℕ) × Ancestors cs i n × (n ≤ max_ancestors)
  -- "An atomic has 1 to 64 phases, an initial phase below that count, and order 0 (internal first) or 1 (external first)."
  pub atomic : k.kind ≡ 1 → (1 ≤ k.phases) × (k.phases ≤ max_own_phases) × (k.initial < k.phases) × (k.order ≤ 1)
  -- "A coupled component has zeros in the last three bytes"
  pub coupled : k.kind ≡ 0 → (k.phases ≡ 0) × (k.initial ≡ 0) × (k.order ≡ 0)

-- ---- phases

abbrev pub slot_at : Phase → ℕ → Message
slot_at k i = get_or (slots k) i no_message

-- The lines for a phase of an atomic that has `own` phases.
pub record PhaseKeeps (own : ℕ) (k : Phase) : Type 0 where
  -- "0 to 1,000,000,000, or 4,294,967,295 for never"
  pub advance : (k.advance ≤ max_advance) ⊎ (k.advance ≡ never_field)
  -- "Every phase number in a phase or rule record lies below its atomic's phase count."
  pub next : k.next < own
  -- "output count (1, 0 to 4)"
  pub outputs : k.output_count ≤ max_outputs
  -- "Ports are 0 to 3"
  pub ports : (i : ℕ) → i < k.output_count → (slot_at k i).port < port_count
  -- "Used slots never fall in (port, value)"
  pub used : (i : ℕ) → suc i < k.output_count
      → NotAbove ((slot_at k i).port ∷ (slot_at k i).value ∷ []) ((slot_at k (suc i)).port ∷ (slot_at k (suc i)).value ∷ [])
  -- "unused ones are zero"
  pub unused : (i : ℕ) → k.output_count ≤ i → slot_at k i ≡ no_message

-- ---- rules

pub record RuleKeeps (cs : List Component) (k : Rule) : Type 0 where
  -- "atomic component (1)"
  pub component : k.component < length cs
  pub atomic : (component_at cs k.component).kind ≡ 1
  -- "Every phase number in a phase or rule record lies below its atomic's phase count."
  pub phase : k.phase < (component_at cs k.component).phases
  pub next : k.next < (component_at cs k.component).phases
  -- "Ports are 0 to 3"
  pub port : k.port < port_count
  -- "Low is at most high in both ranges."
  pub values : k.low ≤ k.high
  pub elapsed : k.low_elapsed ≤ k.high_elapsed

-- With a fifth section "low elapsed must be below high elapsed".
abbrev pub ElapsedKeeps : RangeReading → Rule → Type 0
ElapsedKeeps inclusive k = Unit {0}
ElapsedKeeps half_open k = k.low_elapsed < k.high_elapsed

-- ---- couplings

-- "Source is the target's parent, its sibling, or its child"; the root "is nobody's child or sibling".
pub data Related (cs : List Component) (s t : ℕ) : Type 0 where
  parent : 0 < t → (component_at cs t).parent ≡ s → Related cs s t
  sibling : 0 < s → 0 < t → (component_at cs s).parent ≡ (component_at cs t).parent → Related cs s t
  child : 0 < s → (component_at cs s).parent ≡ t → Related cs s t

pub record CouplingKeeps (cs : List Component) (k : Coupling) : Type 0 where
  pub source : k.source < length cs
  pub target : k.target < length cs
  pub related : Related cs k.source k.target
  -- "never the same component"
  pub other : k.source ≡ k.target → ⊥
  -- "Ports are 0 to 3"
  pub source_port_lem : k.source_port < port_count
  pub target_port_lem : k.target_port < port_count

-- "Records never fall as four-byte rows."
abbrev pub NotFalling : List Coupling → ℕ → Type 0
NotFalling ks i = (j : ℕ) → suc j ≡ i → NotAbove (coupling_row (get_or ks j no_coupling)) (coupling_row (get_or ks i no_coupling))

-- ---- sections

-- The form of a section: the width of its records and their layout, how many there may be and must be, the lines that the record at a
-- place keeps, and the number of one that breaks a line.
pub record Form (A : Type 0) : Type 1 where
  pub size : ℕ
  pub layout : A → Layout
  pub Within : ℕ → Type 0
  pub Right : ℕ → Type 0
  pub Keeps : List A → ℕ → Type 0
  pub number : ℕ

-- "Components, 1 to 64, 5 bytes"
abbrev pub component_form : Form Component
component_form = record {
  size = component_size;
  layout = component_layout;
  Within = λ n. (1 ≤ n) × (n ≤ max_components);
  Right = λ n. Unit {0};
  Keeps = λ cs i. ComponentKeeps cs i (component_at cs i);
  number = 4;
}

-- "Phases, at most 512, 18 bytes, atomic by atomic in file order; their count is the sum of the phase counts"
abbrev pub phase_form : List Component → Form Phase
phase_form cs = record {
  size = phase_size;
  layout = phase_layout;
  Within = λ n. n ≤ max_phases;
  Right = λ n. n ≡ phase_total cs;
  Keeps = λ ps i. (c p : ℕ) → c < length cs → p < (component_at cs c).phases → i ≡ phases_before cs c + p
      → PhaseKeeps (component_at cs c).phases (get_or ps i no_phase);
  number = 6;
}

-- "Rules, at most 1,024, 18 bytes"
abbrev pub rule_form : List Component → Form Rule
rule_form cs = record {
  size = rule_size;
  layout = rule_layout;
  Within = λ n. n ≤ max_rules;
  Right = λ n. Unit {0};
  Keeps = λ rs i. RuleKeeps cs (get_or rs i no_rule);
  number = 7;
}

-- "Couplings, at most 1,024, 4 bytes"
abbrev pub coupling_form : List Component → Form Coupling
coupling_form cs = record {
  size = coupling_size;
  layout = coupling_layout;
  Within = λ n. n ≤ max_couplings;
  Right = λ n. Unit {0};
  Keeps = λ ks i. CouplingKeeps cs (get_or ks i no_coupling) × NotFalling ks i;
  number = 8;
}

-- The records of a section in which no record and no count is wrong.
pub record Lines {A : Type 0} (f : Form A) (xs : List A) : Type 0 where
  pub within : f.Within (length xs)
  pub right : f.Right (length xs)
  pub held : Every (λ x. Held (f.layout x)) xs
  pub keeps : (i : ℕ) → i < length xs → f.Keeps xs i

-- ---- the model

pub record Sound (m : Model) : Type 0 where
  pub components : Lines component_form m.components
  pub phases : Lines (phase_form m.components) m.phases
  pub rules : Lines (rule_form m.components) m.rules
  pub couplings : Lines (coupling_form m.components) m.couplings
  pub ranges : Every (ElapsedKeeps m.ranges) m.rules
  -- "at most 1,024 in all"
  pub routes_few : length (routes m) ≤ max_routes
