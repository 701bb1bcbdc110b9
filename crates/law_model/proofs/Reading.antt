-- A model that the decoder gives of bytes is sound, and an accepted one has few routes besides: each section's records are kept by their bytes, and its count is within the
-- limit. Assumes nothing.
use mathlib.Core.Path.{◌≡◌, refl, subst}
use Prim.Native.Nat.{ℕ, zero, suc, ◌≤◌, ◌<◌}
use mathlib.Core.Bool.{Bool, true, false}
use native.Mathlib.Omega.{arith}
use lib.Dec.{ltb, eqb}
use lib.ListN.{length}
use borrow.Author.Tests.{ltb-false, eqb-true}
use Rattle.definition.specs.Bytes.{Bytes, AllBytes, ok, ◌>>=◌}
use Rattle.definition.specs.Limits.{max_components, max_phases, max_rules, max_couplings, max_routes, component_size, phase_size, rule_size, coupling_size}
use Rattle.definition.specs.Model.{Model}
use Rattle.definition.specs.Records.{component_bytes, phase_bytes, rule_bytes, coupling_bytes}
use Rattle.definition.specs.File.{phase_total}
use Rattle.definition.specs.Routes.{routes}
use Rattle.definition.specs.Pinned.Decoder.{to_component, component_fits, to_phase, phase_fits, to_rule, rule_fits, to_coupling, coupling_fits, component_count_refusal, phase_count_refusal, limit_refusal, component_section, phase_section, rule_section, coupling_section, further_sections, decode, accepted}
use Rattle.law_model.proofs.Layouts.{record-kept}
use Rattle.law_model.proofs.Spellings.{component-spelled, phase-spelled, rule-spelled, coupling-spelled}
use Rattle.law_model.proofs.WellFormed.{WellFormed, Accepted}
use Rattle.law_model.proofs.Sections.{section-given}
use Rattle.law_model.proofs.Further.{further-given}
use Rattle.law_base.proofs.Results.{ok_same, bind_ok, refuse-ok}

-- ---- a record read of bytes is kept by its bytes

component-kept : (r : Bytes) → AllBytes r → to_component (component_bytes (to_component r)) ≡ to_component r
unfolding component_bytes
component-kept r b = record-kept component-spelled b

phase-kept : (r : Bytes) → AllBytes r → to_phase (phase_bytes (to_phase r)) ≡ to_phase r
unfolding phase_bytes
phase-kept r b = record-kept phase-spelled b

rule-kept : (r : Bytes) → AllBytes r → to_rule (rule_bytes (to_rule r)) ≡ to_rule r
unfolding rule_bytes
rule-kept r b = record-kept rule-spelled b

coupling-kept : (r : Bytes) → AllBytes r → to_coupling (coupling_bytes (to_coupling r)) ≡ to_coupling r
unfolding coupling_bytes
coupling-kept r b = record-kept coupling-spelled b

-- ---- a count that gets no number

pub most-within : (limit n : ℕ) → limit_refusal limit n ≡ 0 → n ≤ limit
unfolding limit_refusal
most-within limit n e = go (ltb limit n) refl
  where
    go : (t : Bool) → ltb limit n ≡ t → n ≤ limit
    go true f = absurd (let g = rw f at e in omega arith)
    go false f = ltb-false limit n f

pub components-within : (n : ℕ) → component_count_refusal n ≡ 0 → n ≤ max_components
unfolding component_count_refusal
components-within n e = go (ltb max_components n) refl
  where
    go : (t : Bool) → ltb max_components n ≡ t → n ≤ max_components
    go true f = absurd (let g = rw f at e in omega arith)
    go false f = ltb-false max_components n f

components-some : (n : ℕ) → component_count_refusal n ≡ 0 → 0 < n
unfolding component_count_refusal
components-some zero e = absurd (omega arith)
components-some (suc n) e = omega arith

pub phases-right : (total n : ℕ) → phase_count_refusal total n ≡ 0 → (n ≤ max_phases) × (n ≡ total)
unfolding phase_count_refusal
phases-right total n e = go (ltb max_phases n) refl (eqb n total) refl
  where
    go : (t : Bool) → ltb max_phases n ≡ t → (u : Bool) → eqb n total ≡ u → (n ≤ max_phases) × (n ≡ total)
    go true f u g = absurd (let h = rw f at e in omega arith)
    go false f true g = (ltb-false max_phases n f, eqb-true n total g)
    go false f false g = absurd (let h = rw (f, g) at e in omega arith)

-- ---- the file

decode-sound : (s : Bytes) (m : Model) → AllBytes s → decode s ≡ ok m → WellFormed m
unfolding decode component_section phase_section rule_section coupling_section
decode-sound s m h e =
    let A = bind_ok (component_section s) _ m e in
    let cs = A.0.records in
    let total = phase_total cs in
    let B = bind_ok (phase_section cs A.0.rest) _ m A.2 in
    let C = bind_ok (rule_section cs B.0.rest) _ m B.2 in
    let D = bind_ok (coupling_section cs C.0.rest) (λ d. further_sections C.0.records d.rest >>= λ r. ok (record { components = cs; phases = B.0.records; rules = C.0.records; couplings = d.records; ranges = r })) m C.2 in
    let E = bind_ok (further_sections C.0.records D.0.rest) _ m D.2 in
    let a = section-given component_size component_count_refusal to_component component_bytes component_fits 4 max_components s A.0 h components-within component-kept A.1 in
    let b = section-given phase_size (phase_count_refusal total) to_phase phase_bytes (phase_fits cs) 6 max_phases A.0.rest B.0 a.rest_bytes (λ n r. (phases-right total n r).0) phase-kept B.1 in
    let c = section-given rule_size (limit_refusal max_rules) to_rule rule_bytes (rule_fits cs) 7 max_rules B.0.rest C.0 b.rest_bytes (most-within max_rules) rule-kept C.1 in
    let d = section-given coupling_size (limit_refusal max_couplings) to_coupling coupling_bytes (coupling_fits cs) 8 max_couplings C.0.rest D.0 c.rest_bytes (most-within max_couplings) coupling-kept D.1 in
    subst WellFormed (ok_same _ m E.2)
    (record {
      some_component = components-some (length cs) a.right;
      components = a.checked;
      phase_count = (phases-right total (length B.0.records) b.right).1;
      phases = b.checked;
      rules = c.checked;
      couplings = d.checked;
      ranges = further-given C.0.records D.0.rest E.0 E.1;
    })

pub accepted_sound : (file : Bytes) (m : Model) → AllBytes file → accepted file ≡ ok m → Accepted m
unfolding accepted
accepted_sound file m h e =
    let D = bind_ok (decode file) _ m e in
    let F = refuse-ok (ltb max_routes (length (routes D.0))) 9 _ m D.2 in
    subst Accepted (ok_same D.0 m F.1)
    (record { sound = decode-sound file D.0 h D.1; few_routes = ltb-false max_routes (length (routes D.0)) F.0 })
