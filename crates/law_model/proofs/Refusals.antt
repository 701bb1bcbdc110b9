-- No refusal of a model file has the number 0, so that the number alone tells whether a file was accepted. Assumes nothing.
use mathlib.Core.Path.{◌≡◌, refl}
use Prim.Native.Nat.{ℕ, ◌+◌, ◌*◌, ◌<◌}
use mathlib.Core.List.{List, [], ◌∷◌, map}
use mathlib.Core.Bool.{Bool, true, false, not}
use native.Mathlib.Omega.{arith}
use lib.Dec.{ltb}
use lib.ListN.{length, drop}
use borrow.Author.Tests.{ltb-true}
use Rattle.definition.specs.Lists.{all, up_from}
use Rattle.definition.specs.Bytes.{Bytes, Result, ok, refused, ◌>>=◌, refuse_if, number_at, chunks}
use Rattle.definition.specs.Limits.{count_size, max_rules, max_couplings, max_routes, component_size, phase_size, rule_size, coupling_size}
use Rattle.definition.specs.Model.{Rule}
use Rattle.definition.specs.File.{phase_total}
use Rattle.definition.specs.Routes.{routes}
use Rattle.definition.specs.Pinned.Decoder.{to_component, component_fits, to_phase, phase_fits, to_rule, rule_fits, to_coupling, coupling_fits, section_count, section, component_count_refusal, phase_count_refusal, limit_refusal, component_section, phase_section, rule_section, coupling_section, is_fifth, fifth_section, elapsed_fits, end_of_file, further_sections, decode, accepted}

abbrev pub Positive : {A : Type 0} → Result A → Type 0
Positive (ok a) = Unit {0}
Positive (refused n) = 0 < n

positive-bind : {A B : Type 0} (r : Result A) (f : A → Result B) → Positive r → ((a : A) → Positive (f a)) → Positive (r >>= f)
positive-bind (ok a) f p q = q a
positive-bind (refused n) f p q = p

positive-if : {B : Type 0} (t : Bool) (n : ℕ) (f : Unit {0} → Result B) → (t ≡ true → 0 < n) → Positive (f tt) → Positive (refuse_if t n >>= f)
positive-if true n f p q = p refl
positive-if false n f p q = q

section-positive : {A : Type 0} (size : ℕ) (wrong : ℕ → ℕ) (to : Bytes → A) (fits : List A → ℕ → Bool) (bad : ℕ) → 0 < bad → (s : Bytes)
    → Positive (section size wrong to fits bad s)
unfolding section section_count
section-positive size wrong to fits bad h s = positive-bind (section_count size wrong s) _ count (λ n. positive-if (not (all (fits (map to (chunks n size (drop count_size s)))) (up_from 0 n))) bad _ (λ e. h) tt)
  where
    count : Positive (section_count size wrong s)
    count = unfold section_count in
        (let n = number_at count_size 0 s in
        positive-if (ltb (length s) count_size) 1 _ (λ e. omega arith)
        (positive-if (ltb 0 (wrong n)) (wrong n) _ (λ e. ltb-true 0 (wrong n) e)
        (positive-if (ltb (length s) (count_size + n * size)) 1 _ (λ e. omega arith) tt)))

fifth-positive : (s : Bytes) → Positive (fifth_section s)
unfolding fifth_section
fifth-positive [] = tt
fifth-positive (b ∷ s) = positive-if (not (is_fifth (b ∷ s))) 20 _ (λ e. omega arith) tt

further-positive : (rs : List Rule) (s : Bytes) → Positive (further_sections rs s)
unfolding further_sections end_of_file
further-positive rs s =
    positive-bind (fifth_section s) _ (fifth-positive s)
    (λ e. positive-if (not (all (elapsed_fits e.ranges) rs)) 7 _ (λ t. omega arith) (positive-if (ltb 0 (length e.rest)) 2 _ (λ t. omega arith) tt))

decode-positive : (s : Bytes) → Positive (decode s)
unfolding decode component_section phase_section rule_section coupling_section
decode-positive s =
    positive-bind (component_section s) _ (section-positive component_size component_count_refusal to_component component_fits 4 (omega arith) s)
    (λ a. let cs = a.records in
    positive-bind (phase_section cs a.rest) _ (section-positive phase_size (phase_count_refusal (phase_total cs)) to_phase (phase_fits cs) 6 (omega arith) a.rest)
    (λ b. positive-bind (rule_section cs b.rest) _ (section-positive rule_size (limit_refusal max_rules) to_rule (rule_fits cs) 7 (omega arith) b.rest)
    (λ c. positive-bind (coupling_section cs c.rest) _ (section-positive coupling_size (limit_refusal max_couplings) to_coupling (coupling_fits cs) 8 (omega arith) c.rest)
    (λ d. positive-bind (further_sections c.records d.rest) _ (further-positive c.records d.rest) (λ r. tt)))))

pub accepted-positive : (s : Bytes) → Positive (accepted s)
unfolding accepted
accepted-positive s = positive-bind (decode s) _ (decode-positive s) (λ m. positive-if (ltb max_routes (length (routes m))) 9 _ (λ e. omega arith) tt)
