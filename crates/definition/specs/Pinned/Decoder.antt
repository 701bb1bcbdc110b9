-- The model file read: a decoder that computes, in the order of the table of refusals. What it answers is pinned by demand 1: its number is
-- that of the relation `Judged`, and it accepts the sound models by their bytes and nothing else. Assumes nothing.
use Rattle.std.specs.Prelude.{ℕ, zero, suc, ◌+◌, ◌*◌, List, [], ◌∷◌, map, Bool, true, false, ◌&&◌, ◌||◌, not, cond, leb, ltb, eqb, length, drop, get_or, replicate}
use Rattle.definition.specs.Lists.{concat, all, up_from, rises}
use Rattle.definition.specs.Bytes.{Bytes, Result, ok, ◌>>=◌, refuse_if, number_of, number_at, chunks}
use Rattle.definition.specs.Limits.{max_components, max_ancestors, max_own_phases, max_phases, max_outputs, max_rules, max_couplings, max_routes, port_count, max_advance, never_field, half_open_byte, count_size, component_size, phase_size, rule_size, coupling_size, fifth_size}
use Rattle.definition.specs.Model.{Component, Phase, Rule, Coupling, RangeReading, inclusive, half_open, Model, no_phase, no_rule, no_coupling, component_at, is_atomic, is_child, is_sibling, slots, outputs, message_le, coupling_le}
use Rattle.definition.specs.Records.{message_at, port_fits}
use Rattle.definition.specs.File.{phase_total}
use Rattle.definition.specs.Routes.{routes}

-- ---- components

unfoldable pub to_component : Bytes → Component
to_component r = record { kind = number_at 1 0 r; parent = number_at 1 1 r; phases = number_at 1 2 r; initial = number_at 1 3 r; order = number_at 1 4 r }

-- "A coupled component has zeros in the last three bytes"
unfoldable pub coupled_fields : Component → Bool
coupled_fields k = eqb k.phases 0 && eqb k.initial 0 && eqb k.order 0

-- "An atomic has 1 to 64 phases, an initial phase below that count, and order 0 .. or 1"
unfoldable pub atomic_fields : Component → Bool
atomic_fields k = leb 1 k.phases && leb k.phases max_own_phases && ltb k.initial k.phases && leb k.order 1

unfoldable pub kind_fields : Component → Bool
kind_fields k = (eqb k.kind 0 && coupled_fields k) || (eqb k.kind 1 && atomic_fields k)

-- "Component 0, the root, is coupled with 0 in its parent byte"
unfoldable pub root_fields : Component → Bool
root_fields k = eqb k.kind 0 && eqb k.parent 0

-- Going up from component c at most n times leads to the root.
unfoldable pub root_within : ℕ → List Component → ℕ → Bool
root_within zero cs c = eqb c 0
root_within (suc n) cs c = eqb c 0 || root_within n cs (component_at cs c).parent

-- "Any other parent is an earlier coupled component. At most 8 ancestors."
unfoldable pub place_fits : List Component → ℕ → Bool
place_fits cs i =
    ltb (component_at cs i).parent i && eqb (component_at cs (component_at cs i).parent).kind 0 && root_within max_ancestors cs i

unfoldable pub component_fits : List Component → ℕ → Bool
component_fits cs i = kind_fields (component_at cs i) && cond (eqb i 0) (root_fields (component_at cs i)) (place_fits cs i)

-- ---- phases

unfoldable pub to_phase : Bytes → Phase
to_phase r = record {
  advance = number_at 4 0 r;
  next = number_at 1 4 r;
  output_count = number_at 1 5 r;
  slot0 = message_at 6 r;
  slot1 = message_at 9 r;
  slot2 = message_at 12 r;
  slot3 = message_at 15 r;
}

-- "0 to 1,000,000,000, or 4,294,967,295 for never"
unfoldable pub advance_fits : ℕ → Bool
advance_fits a = leb a max_advance || eqb a never_field

-- "Used slots never fall in (port, value)"
unfoldable pub used_fit : Phase → Bool
used_fit k = all port_fits (outputs k) && rises message_le (outputs k)

-- "unused ones are zero"
unfoldable pub unused_fit : Phase → Bool
unused_fit k = all (λ x. eqb x.port 0 && eqb x.value 0) (drop k.output_count (slots k))

-- `bound` is the phase count of the phase's atomic: "Every phase number in a phase or rule record lies below its atomic's phase count."
unfoldable pub phase_fields : ℕ → Phase → Bool
phase_fields bound k = advance_fits k.advance && ltb k.next bound && leb k.output_count max_outputs && used_fit k && unused_fit k

-- The bound of each phase record, in file order.
unfoldable pub bounds : List Component → List ℕ
bounds cs = concat (map (λ k. replicate k.phases k.phases) cs)

unfoldable pub phase_fits : List Component → List Phase → ℕ → Bool
phase_fits cs ps i = phase_fields (get_or (bounds cs) i 0) (get_or ps i no_phase)

-- ---- rules

unfoldable pub to_rule : Bytes → Rule
to_rule r = record {
  component = number_at 1 0 r;
  phase = number_at 1 1 r;
  next = number_at 1 2 r;
  port = number_at 1 3 r;
  low = number_at 2 4 r;
  high = number_at 2 6 r;
  least = number_at 2 8 r;
  low_elapsed = number_at 4 10 r;
  high_elapsed = number_at 4 14 r;
}

-- "atomic component", phases below its count, a port, "Low is at most high in both ranges."
unfoldable pub rule_fields : List Component → Rule → Bool
rule_fields cs k =
    ltb k.component (length cs) && is_atomic cs k.component && ltb k.phase (component_at cs k.component).phases
    && ltb k.next (component_at cs k.component).phases && ltb k.port port_count && leb k.low k.high
    && leb k.low_elapsed k.high_elapsed

unfoldable pub rule_fits : List Component → List Rule → ℕ → Bool
rule_fits cs rs i = rule_fields cs (get_or rs i no_rule)

-- ---- couplings

unfoldable pub to_coupling : Bytes → Coupling
to_coupling r = record { source = number_at 1 0 r; source_port = number_at 1 1 r; target = number_at 1 2 r; target_port = number_at 1 3 r }

-- "Source is the target's parent, its sibling, or its child; never the same component."
unfoldable pub related : List Component → ℕ → ℕ → Bool
related cs s t = is_child cs s t || is_sibling cs s t || is_child cs t s

unfoldable pub coupling_fields : List Component → Coupling → Bool
coupling_fields cs k =
    ltb k.source (length cs) && ltb k.target (length cs) && ltb k.source_port port_count && ltb k.target_port port_count
    && related cs k.source k.target

-- "Records never fall as four-byte rows."
unfoldable pub not_falling : List Coupling → ℕ → Bool
not_falling ks zero = true
not_falling ks (suc i) = coupling_le (get_or ks i no_coupling) (get_or ks (suc i) no_coupling)

unfoldable pub coupling_fits : List Component → List Coupling → ℕ → Bool
coupling_fits cs ks i = coupling_fields cs (get_or ks i no_coupling) && not_falling ks i

-- ---- a section

-- What a section gives: its records, and the rest of the file.
pub record Section (A : Type 0) : Type 0 where
  pub records : List A
  pub rest : Bytes

-- "1 count cut off; then 3 ..; then 5 ..; then 1 records cut off": the count, where `wrong n` is the number that count n gets, or 0.
unfoldable pub section_count : ℕ → (ℕ → ℕ) → Bytes → Result ℕ
section_count size wrong s = do
  _ ← refuse_if (ltb (length s) count_size) 1
  _ ← refuse_if (ltb 0 (wrong (number_at count_size 0 s))) (wrong (number_at count_size 0 s))
  _ ← refuse_if (ltb (length s) (count_size + number_at count_size 0 s * size)) 1
  ok (number_at count_size 0 s)

-- Then its records in order, each by its number among all; `bad` is the number of a record that breaks a line.
unfoldable pub section : {A : Type 0} → ℕ → (ℕ → ℕ) → (Bytes → A) → (List A → ℕ → Bool) → ℕ → Bytes → Result (Section A)
section size wrong to fits bad s = do
  n ← section_count size wrong s
  let xs = map to (chunks n size (drop count_size s))
  _ ← refuse_if (not (all (fits xs) (up_from 0 n))) bad
  ok (record { records = xs; rest = drop (count_size + n * size) s })

-- ---- the counts

-- Number a where the test passes, or else b.
abbrev pub or_else : Bool → ℕ → ℕ → ℕ
or_else true a b = a
or_else false a b = b

-- "3 count over its limit, or no component"
unfoldable pub component_count_refusal : ℕ → ℕ
component_count_refusal n = or_else (ltb max_components n || eqb n 0) 3 0

-- "then 5 phase count is not the sum"
unfoldable pub phase_count_refusal : ℕ → ℕ → ℕ
phase_count_refusal total n = or_else (ltb max_phases n) 3 (or_else (not (eqb n total)) 5 0)

unfoldable pub limit_refusal : ℕ → ℕ → ℕ
limit_refusal limit n = or_else (ltb limit n) 3 0

-- ---- the four sections

unfoldable pub component_section : Bytes → Result (Section Component)
component_section s = section component_size component_count_refusal to_component component_fits 4 s

unfoldable pub phase_section : List Component → Bytes → Result (Section Phase)
phase_section cs s = section phase_size (phase_count_refusal (phase_total cs)) to_phase (phase_fits cs) 6 s

unfoldable pub rule_section : List Component → Bytes → Result (Section Rule)
rule_section cs s = section rule_size (limit_refusal max_rules) to_rule (rule_fits cs) 7 s

unfoldable pub coupling_section : List Component → Bytes → Result (Section Coupling)
coupling_section cs s = section coupling_size (limit_refusal max_couplings) to_coupling (coupling_fits cs) 8 s

-- ---- what follows them, and the end of the file

-- How ranges are read, and the rest of the file.
pub record RangesTold : Type 0 where
  pub ranges : RangeReading
  pub rest : Bytes

-- "a fifth section: count 1, then the byte 2", at the front of the bytes
unfoldable pub is_fifth : Bytes → Bool
is_fifth s = leb fifth_size (length s) && eqb (number_at count_size 0 s) 1 && eqb (number_at 1 count_size s) half_open_byte

-- "20, and not 1 or 3, when bytes follow the couplings and are not such a section"
unfoldable pub fifth_section : Bytes → Result RangesTold
fifth_section [] = ok (record { ranges = inclusive; rest = [] })
fifth_section (b ∷ s) = do
  _ ← refuse_if (not (is_fifth (b ∷ s))) 20
  ok (record { ranges = half_open; rest = drop fifth_size (b ∷ s) })

-- "In such a model low elapsed must be below high elapsed"
unfoldable pub elapsed_fits : RangeReading → Rule → Bool
elapsed_fits inclusive k = true
elapsed_fits half_open k = ltb k.low_elapsed k.high_elapsed

-- "2 bytes left over"
unfoldable pub end_of_file : Bytes → Result (Unit {0})
end_of_file s = refuse_if (ltb 0 (length s)) 2

-- "Equal elapsed ends are refused by 7 once the fifth section has been read"; "2 remains for bytes after it."
unfoldable pub further_sections : List Rule → Bytes → Result RangeReading
further_sections rs s = do
  e ← fifth_section s
  _ ← refuse_if (not (all (elapsed_fits e.ranges) rs)) 7
  _ ← end_of_file e.rest
  ok e.ranges

-- "Each section is read from where the one before it ended."
unfoldable pub decode : Bytes → Result Model
decode s = do
  a ← component_section s
  b ← phase_section a.records a.rest
  c ← rule_section a.records b.rest
  d ← coupling_section a.records c.rest
  r ← further_sections c.records d.rest
  ok (record { components = a.records; phases = b.records; rules = c.records; couplings = d.records; ranges = r })

-- ---- acceptance

-- "A model is accepted when no number of the table down to routes .. applies to its bytes": 1 to 8, 20, 7 and 2, then 9.
unfoldable pub accepted : Bytes → Result Model
accepted file = do
  m ← decode file
  _ ← refuse_if (ltb max_routes (length (routes m))) 9
  ok m

-- The number by which a model file is refused, or 0.
unfoldable pub check_model : Bytes → ℕ
check_model file = number_of (accepted file)
