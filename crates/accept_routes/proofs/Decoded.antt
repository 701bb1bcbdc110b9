-- What a decoded model has as far as ways go, and the check's last line. Assumes nothing.
use mathlib.Core.Path.{◌≡◌, refl, ap, ◌∙◌}
use mathlib.Core.List.{List}
use mathlib.Core.Bool.{Bool, true, false}
use Prim.Native.Nat.{ℕ, ◌≤◌, ◌<◌, min}
use native.Mathlib.Omega.{arith}
use lib.Dec.{ltb}
use lib.ListN.{length}
use borrow.Author.Tests.{ltb-false}
use Rattle.definition.specs.Bytes.{Bytes, ok, refused, ◌>>=◌, refuse_if}
use Rattle.definition.specs.Limits.{max_components, max_couplings, max_routes}
use Rattle.definition.specs.Model.{Model}
use Rattle.definition.specs.Routes.{routes}
use Rattle.definition.specs.Pinned.Decoder.{to_component, component_fits, to_coupling, coupling_fits, Section, or_else, component_count_refusal, limit_refusal, component_section, phase_section, rule_section, coupling_section, further_sections, decode, accepted}
use Rattle.law_base.proofs.Lists.{each}
use Rattle.law_base.proofs.Results.{bind_ok, ok_same}
use Rattle.law_bytes.proofs.Sections.{Gives, section-gives}
use Rattle.model_records.specs.Values.{components_in, couplings_in, model_in}
use Rattle.model_file.specs.declared.Counts as N
use Rattle.model_file.specs.Checked.{components_part, couplings_part, model_of}
use Rattle.model_file.proofs.Chain.{component-limit}
use Rattle.table_couplings.specs.declared.End.TheVariants.{Target}
use Rattle.table_couplings.specs.Links.{link_end, Held, begun, zeros}
use Rattle.table_couplings.proofs.Nodes.{on-nodes}
use Rattle.accept_routes.specs.Routed.{Linked}
use Rattle.law_routes.specs.Ways.{ways_cap, WaysCounted, Placed, table_routes}
use Rattle.law_routes.proofs.Placed.{rising, coupled-parents}
use Rattle.law_routes.proofs.Total.{routes-counted, over_limit}

-- Each record of an accepted section keeps its lines.
kept-all : {A : Type 0} (size : ℕ) (w : ℕ → ℕ) (to : Bytes → A) (fits : List A → ℕ → Bool) (s : Bytes) (x : Section A) → Gives size w to fits s x
    → (i : ℕ) → i < length x.records → fits x.records i ≡ true
kept-all size w to fits s x g =
    let e = g.is in
    rw e (λ i l. each (fits _) 0 _ g.each i (omega arith) (omega (arith, g.count)))

-- A right count of couplings.
coupling-count : (n : ℕ) → limit_refusal max_couplings n ≡ 0 → n ≤ max_couplings
unfolding limit_refusal
coupling-count n e = go (ltb max_couplings n) refl e
  where
    go : (b : Bool) → ltb max_couplings n ≡ b → or_else b 3 0 ≡ 0 → n ≤ max_couplings
    go true f e = absurd (omega arith)
    go false f e = ltb-false max_couplings n f

pub decode-placed : (s : Bytes) (m : Model) → decode s ≡ ok m
    → Placed m.components m.couplings × (length m.components ≤ max_components) × (length m.couplings ≤ max_couplings)
unfolding decode component_section coupling_section
decode-placed s m e =
    let a = bind_ok (component_section s) _ m e in
    let b = bind_ok (phase_section a.0.records a.0.rest) _ m a.2 in
    let c = bind_ok (rule_section a.0.records b.0.rest) _ m b.2 in
    let d = bind_ok (coupling_section a.0.records c.0.rest) _ m c.2 in
    let f = bind_ok (further_sections c.0.records d.0.rest) _ m d.2 in
    let g : record { components = a.0.records; phases = b.0.records; rules = c.0.records; couplings = d.0.records; ranges = f.0 } ≡ m = ok_same _ m f.2 in
    let h = component-limit s a.1 in
    let u = section-gives 5 component_count_refusal to_component component_fits 4 s (omega arith) a.1 in
    let v = section-gives 4 (limit_refusal max_couplings) to_coupling (coupling_fits a.0.records) 8 c.0.rest (omega arith) d.1 in
    rw (← g) (
      record {
        some_component = h.0;
        components = kept-all 5 component_count_refusal to_component component_fits s a.0 u;
        couplings = kept-all 4 (limit_refusal max_couplings) to_coupling (coupling_fits a.0.records) c.0.rest d.0 v;
      },
      h.1,
      rw (ap (λ y. length y.records) v.is ∙ v.count) (coupling-count _ v.right),
    )

-- The table tells whether there are too many routes.
pub routes-told : (m : Model) (table : List ℕ) (total : ℕ) → Placed m.components m.couplings → WaysCounted m.components m.couplings table
    → total ≡ min ways_cap (table_routes m.components table) → ltb max_routes total ≡ ltb max_routes (length (routes m))
routes-told m table total p h e =
    ap (ltb max_routes) e
    ∙ over_limit _ _ (routes-counted m table p.some_component (rising m.components p.components) (coupled-parents m.components p.components) h)

-- ---- the same for the parts of a file

module _ (file : Bytes) (n : N.Counts) (e : decode file ≡ ok (model_of file n)) where
  pub parts-placed : Placed (components_in (components_part file n)) (couplings_in (couplings_part file n)) × (length (components_in (components_part file n)) ≤ max_components)
      × (length (couplings_in (couplings_part file n)) ≤ max_couplings)
  unfolding model_of model_in
  parts-placed = decode-placed file (model_of file n) e

  -- The words that were put are those of the file's links.
  pub ends-linked : (targets s t : List ℕ) {a b : Bytes} → a ≡ components_part file n → b ≡ couplings_part file n → s ≡ zeros
      → Held (link_end Target (components_in a) (couplings_in b)) (length (couplings_in b)) targets × (t ≡ begun (components_in a) (couplings_in b) s) → Linked file n targets t
  ends-linked targets s t p q z h =
      let w = parts-placed in
      let k = rw (p, q) at h in
      record { ends = k.0; begins = k.1 ∙ ap (begun (components_in (components_part file n)) (couplings_in (couplings_part file n))) z; nodes = on-nodes (components_in (components_part file n)) (couplings_in (couplings_part file n)) w.0.couplings w.1 }

  -- The check's last line, by the table.
  pub parts-told : (table : List ℕ) (total : ℕ) (b : Bool) → WaysCounted (components_in (components_part file n)) (couplings_in (couplings_part file n)) table
      → total ≡ min ways_cap (table_routes (components_in (components_part file n)) table) → ltb max_routes total ≡ b
      → accepted file ≡ (refuse_if b 9 >>= λ _. ok (model_of file n))
  unfolding accepted model_of model_in
  parts-told table total b h t f = rw (e, ← routes-told (model_of file n) table total parts-placed.0 h t, f)

  -- The number of routes of an accepted model.
  pub parts-routes : (table : List ℕ) (total : ℕ) → WaysCounted (components_in (components_part file n)) (couplings_in (couplings_part file n)) table
      → total ≡ min ways_cap (table_routes (components_in (components_part file n)) table) → total ≤ max_routes → length (routes (model_of file n)) ≡ total
  unfolding model_of model_in
  parts-routes table total h t l =
      let p = parts-placed.0 in
      omega (arith, t, routes-counted (model_of file n) table p.some_component (rising (model_of file n).components p.components) (coupled-parents (model_of file n).components p.components) h)

pub accepted-no : (file : Bytes) (n : ℕ) → decode file ≡ refused n → accepted file ≡ refused n
unfolding accepted
accepted-no file n e = rw e
