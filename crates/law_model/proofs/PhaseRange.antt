-- An atomic's phases put out on ports that there are, and its transitions lead to a phase of its own: what keeps a run fitting.
-- Assumes nothing.
use mathlib.Core.Path.{◌≡◌, refl, sym, ap, ap₂, ◌∙◌, subst}
use Prim.Native.Nat.{ℕ, zero, suc, ◌+◌, ◌-◌, ◌<◌}
use mathlib.Core.List.{List, [], ◌∷◌, ◌++◌}
use mathlib.Core.Option.{Option, none, some}
use mathlib.Core.Bool.{Bool, true, false, ◌&&◌, cond}
use native.Mathlib.Omega.{arith}
use lib.Dec.{leb, ltb, eqb}
use lib.ListN.{length, get_or, replicate, length-replicate, get_or-replicate, get_or-append, get_or-eq_default, length-append}
use lib.Seq.{get_or-append-add, get_or-append_seam, append_snoc}
use borrow.Author.Tests.{ltb-true, ltb-false}
use Rattle.definition.specs.Lists.{concat, sum, all}
use Rattle.definition.specs.Limits.{max_outputs, port_count}
use Rattle.definition.specs.Model.{Bag, Component, Phase, Rule, Model, no_component, no_phase, no_rule, component_at, is_atomic, phases_before, phase_at, outputs}
use Rattle.definition.specs.Records.{port_fits}
use Rattle.definition.specs.File.{phase_total}
use Rattle.definition.specs.Pinned.Decoder.{advance_fits, used_fit, phase_fields, bounds, phase_fits, rule_fields}
use Rattle.definition.specs.Devs.{ticks}
use Rattle.definition.specs.Atomic.{holds, deciding, advance_of, next_phase, rule_for}
use Rattle.definition.specs.SavedRun.{Entry}
use Rattle.definition.specs.FlatMachine.{led_to, external_part, both_parts, moved_by, moved}
use Rattle.law_base.proofs.Tests.{and_left, and_right}
use Rattle.law_base.proofs.Bags.{holds-component}
use Rattle.law_model.proofs.WellFormed.{WellFormed, rules-fit}

-- ---- the bounds of the phase records

pub length-bounds : (cs : List Component) → length (bounds cs) ≡ phase_total cs
unfolding bounds phase_total concat sum
length-bounds [] = refl
length-bounds (k ∷ cs) = length-append (replicate k.phases k.phases) _ ∙ ap₂ ◌+◌ (length-replicate k.phases k.phases) (length-bounds cs)

-- the bound that stands beside a component's own phase
pub bound_at : (cs : List Component) (c p : ℕ) → p < (component_at cs c).phases
    → (get_or (bounds cs) (phases_before cs c + p) 0 ≡ (component_at cs c).phases) × (phases_before cs c + p < length (bounds cs))
unfolding bounds phases_before component_at no_component concat sum
bound_at [] c p l = absurd (omega arith)
bound_at (k ∷ cs) zero p l =
    let n = k.phases in
    let e : 0 + p ≡ p = omega arith in (
      ap (λ i. get_or (replicate n n ++ bounds cs) i 0) e ∙ get_or-append (replicate n n) (bounds cs) 0 p (omega (arith, length-replicate n n)) ∙ get_or-replicate n p n 0 l,
      omega (arith, length-append (replicate n n) (bounds cs), length-replicate n n),
    )
bound_at (k ∷ cs) (suc c) p l =
    let n = k.phases in
    let ih = bound_at cs c p l in
    let before = phases_before cs c in
    let e : n + before + p ≡ length (replicate n n) + (before + p) = omega (arith, length-replicate n n) in (
      ap (λ i. get_or (replicate n n ++ bounds cs) i 0) e ∙ get_or-append-add (replicate n n) (bounds cs) (before + p) 0 ∙ ih.0,
      omega (arith, length-append (replicate n n) (bounds cs), length-replicate n n, ih.1),
    )

-- ---- a phase that keeps its lines

next-below : (bound : ℕ) (k : Phase) → phase_fields bound k ≡ true → k.next < bound
unfolding phase_fields
next-below bound k h =
    let a = advance_fits k.advance in
    let b = ltb k.next bound in
    let c = leb k.output_count max_outputs in
    ltb-true k.next bound (and_right a b (and_left (a && b) c (and_left (a && b && c) _ (and_left (a && b && c && used_fit k) _ h))))

used-ports : (bound : ℕ) (k : Phase) → phase_fields bound k ≡ true → all port_fits (outputs k) ≡ true
unfolding phase_fields used_fit
used-ports bound k h =
    let a = advance_fits k.advance && ltb k.next bound && leb k.output_count max_outputs in
    and_left (all port_fits (outputs k)) _ (and_right a (used_fit k) (and_left (a && used_fit k) _ h))

pub outputs-fit : (m : Model) → WellFormed m → (c p : ℕ) → all port_fits (outputs (phase_at m c p)) ≡ true
unfolding phase_at phase_fits
outputs-fit m w c p = go (ltb i (length m.phases)) refl
  where
    i : ℕ
    i = phases_before m.components c + p

    go : (t : Bool) → ltb i (length m.phases) ≡ t → all port_fits (outputs (get_or m.phases i no_phase)) ≡ true
    go true e = used-ports _ (get_or m.phases i no_phase) (w.phases.fit i (ltb-true i _ e))
    go false e = rw (get_or-eq_default m.phases no_phase (ltb-false i _ e)) (unfold outputs no_phase all in refl)

-- ---- transitions

module _ (m : Model) (w : WellFormed m) (c : ℕ) where
  -- p is a phase of c
  abbrev pub Own : ℕ → Type 0
  Own p = p < (component_at m.components c).phases

  next-own : (p : ℕ) → Own p → Own (next_phase m c p)
  unfolding next_phase phase_at phase_fits
  next-own p h =
      let cs = m.components in
      let i = phases_before cs c + p in
      let b = bound_at cs c p h in
      omega (arith, b.0, next-below _ _ (w.phases.fit i (omega (arith, b.1, length-bounds cs, w.phase_count))))

  rule-own : (k : Rule) → rule_fields m.components k ≡ true → k.component ≡ c → Own k.next
  unfolding rule_fields
  rule-own k h e =
      let cs = m.components in
      let a = ltb k.component (length cs) && is_atomic cs k.component && ltb k.phase (component_at cs k.component).phases in
      let b = ltb k.next (component_at cs k.component).phases in
      let p = ltb k.port port_count in
      let v = leb k.low k.high in
      omega (arith, ltb-true k.next _ (and_right a b (and_left (a && b) p (and_left (a && b && p) v (and_left (a && b && p && v) _ h)))), ap (λ d. (component_at cs d).phases) e)

  -- the rules `ks` behind others
  led-own : (p e : ℕ) (x : Bag) (before ks : List Rule) → all (rule_fields m.components) ks ≡ true → Own p
      → Own (led_to (before ++ ks) p (deciding (holds m.ranges c p e x) (length before) ks))
  unfolding deciding led_to all
  led-own p e x before [] h o = o
  led-own p e x before (k ∷ ks) h o = go (holds m.ranges c p e x k) refl (led-own p e x (before ++ (k ∷ [])) ks (and_right (rule_fields m.components k) _ h) o)
    where
      go : (b : Bool) → holds m.ranges c p e x k ≡ b
          → Own (led_to ((before ++ (k ∷ [])) ++ ks) p (deciding (holds m.ranges c p e x) (length (before ++ (k ∷ []))) ks))
          → Own (led_to (before ++ (k ∷ ks)) p (cond (holds m.ranges c p e x k) (some (length before)) (deciding (holds m.ranges c p e x) (suc (length before)) ks)))
      go true f ih = rw f (subst (λ (r : Rule). Own r.next) (sym (get_or-append_seam before k ks no_rule)) (rule-own k (and_left (rule_fields m.components k) _ h) (holds-component m.ranges c p e x k f)))
      go false f ih =
          let n : length (before ++ (k ∷ [])) ≡ suc (length before) = length-append before (k ∷ []) ∙ omega arith in
          rw (f, ← n, ← append_snoc before k ks) ih

  external-own : (p e : ℕ) (x : Bag) → Own p → Own (external_part m c p e x)
  unfolding external_part rule_for
  external-own p e x o = led-own p e x [] m.rules (rules-fit m w) o

  both_own : (p : ℕ) (x : Bag) → Own p → Own (both_parts m c p x)
  unfolding both_parts
  both_own p x o = go (eqb (component_at m.components c).order 0)
    where
      go : (b : Bool) → Own (cond b (external_part m c (next_phase m c p) 0 x) (next_phase m c (external_part m c p (ticks (advance_of m c p)) x)))
      go true = external-own (next_phase m c p) 0 x (next-own p o)
      go false = next-own _ (external-own p _ x o)

  -- the phase of an entry that a search has moved is where the search led
  moved-phase : (now : ℕ) (o : Option ℕ) (r : Entry) → (moved_by m now o r).phase ≡ led_to m.rules r.phase o
  unfolding moved_by led_to
  moved-phase now none r = refl
  moved-phase now (some i) r = refl

  pub moved-own : (now : ℕ) (b : Bool) (x : Bag) (r : Entry) → Own r.phase → Own (moved m now c b x r).phase
  unfolding moved external_part
  moved-own now true [] r o = next-own r.phase o
  moved-own now true (y ∷ x) r o = both_own r.phase (y ∷ x) o
  moved-own now false [] r o = o
  moved-own now false (y ∷ x) r o = subst Own (sym (moved-phase now _ r)) (external-own r.phase (now - r.last) (y ∷ x) o)
