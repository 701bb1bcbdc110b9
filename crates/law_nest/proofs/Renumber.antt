-- The flat form's components, phases and rules are those of the model, by another number: the root keeps its number, an atomic gets its
-- place, and its phases, rules, due moments and transitions are the same. Assumes nothing.
use mathlib.Core.Path.{◌≡◌, refl, sym, ap, ◌∙◌}
use Prim.Native.Nat.{ℕ, zero, suc, ◌+◌, ◌-◌, ◌≤◌, ◌<◌}
use mathlib.Core.List.{List, [], ◌∷◌, map, map-map}
use mathlib.Core.Bool.{Bool, true, false, ◌||◌, not, cond}
use native.Mathlib.Omega.{arith}
use native.Mathlib.Nat.{sub-zero, zero-add}
use lib.Dec.{eqb}
use lib.ListN.{length, take, get_or, length-map}
use borrow.Author.Tests.{eqb-true, eq-eqb, ne_eqb}
use Rattle.definition.specs.Lists.{all, keep, up_from, sum, count}
use Rattle.definition.specs.Model.{Bag, Component, Rule, Model, no_component, no_phase, component_at, is_atomic, atomics, is_child, children, phase_at, no_rule, phases_before}
use Rattle.law_model.proofs.WellFormed.{ComponentsFit, WellFormed}
use Rattle.definition.specs.Atomic.{within_elapsed, holds, advance_of, next_phase, rule_for, deciding, meets}
use Rattle.definition.specs.SavedRun.{Entry, due_of}
use Rattle.definition.specs.Flatten.{place_in, renumbered, flat_atomic, flat_components, flat_rule, flat}
use Rattle.definition.specs.FlatMachine.{led_to, external_part, both_parts, rule_of_both, due_now, moved_by, moved}
use Rattle.law_base.proofs.Sums.{sum_of, sum-map}
use Rattle.law_base.proofs.Lists.{all-every, all_map, map-cong-if, sum-map-of, get_d_map, take-map, all-at}
use Rattle.law_base.proofs.Tests.{and-true, or_right}
use Rattle.law_nest.proofs.Occurs.{occurs, Distinct, kept-distinct}
use Rattle.law_nest.proofs.Places.{place-below, place_at, place-eqb, places, up_suc, sum-to-place, take-up}
use Rattle.law_nest.proofs.Components.{rooted, atomic-below, root-not, no-phases, atomic-once, atomics-atomic}
use mathlib.Core.Option.{Option, none, some}
use Rattle.law_nest.proofs.Parts.{part}

keep-up : (p : ℕ → Bool) (k n : ℕ) → ((i : ℕ) → i < n → p (k + i) ≡ true) → keep p (up_from k n) ≡ up_from k n
unfolding keep up_from
keep-up p k zero h = refl
keep-up p k (suc n) h =
    let first : p k ≡ true = ap p (let q : k ≡ k + 0 = omega arith in q) ∙ h 0 (omega arith) in
    rw (first, keep-up p (suc k) n (λ i l. ap p (let q : suc k + i ≡ k + suc i = omega arith in q) ∙ h (suc i) (omega arith)))

pub distinct-atomics : (cs : List Component) → Distinct (atomics cs)
unfolding atomics
distinct-atomics cs = kept-distinct (is_atomic cs) 0 (length cs)

-- ---- a root and atomics under it

-- all but the first
keep-behind : (p : ℕ → Bool) (n : ℕ) → p 0 ≡ false → ((i : ℕ) → i < n → p (suc i) ≡ true) → keep p (up_from 0 (suc n)) ≡ up_from 1 n
unfolding keep up_from
keep-behind p n e h =
    ap (λ b. cond b (0 ∷ keep p (up_from 1 n)) (keep p (up_from 1 n))) e
    ∙ keep-up p 1 n (λ i b. ap p (let q : 1 + i ≡ suc i = omega arith in q) ∙ h i b)

atomics-up : (k : Component) (l : List Component) → k.kind ≡ 0 → all (λ a. eqb a.kind 1) l ≡ true → atomics (k ∷ l) ≡ up_from 1 (length l)
unfolding atomics is_atomic component_at
atomics-up k l e h = keep-behind (is_atomic (k ∷ l)) (length l) (ap (λ n. eqb n 1) e) (λ i b. all-at (λ a. eqb a.kind 1) l i no_component h b)

pub children-up : (k : Component) (l : List Component) → all (λ a. eqb a.parent 0) l ≡ true → children (k ∷ l) 0 ≡ up_from 1 (length l)
unfolding children is_child component_at
children-up k l h =
    keep-behind (is_child (k ∷ l) 0) (length l) refl
    (λ i b. and-true (not (eqb (suc i) 0)) _ (ap not (ne_eqb (suc i) 0 (λ d. omega arith))) (all-at (λ a. eqb a.parent 0) l i no_component h b))

pub flat_up : (cs : List Component) → atomics (flat_components cs) ≡ up_from 1 (length (atomics cs))
unfolding flat_components flat_atomic no_component
flat_up cs =
    atomics-up no_component (map (flat_atomic cs) (atomics cs)) refl
    (all_map (λ a. eqb a.kind 1) (flat_atomic cs) (atomics cs) ∙ all-every (λ c. true) (atomics cs) (λ c. refl))
    ∙ ap (up_from 1) (length-map (atomics cs) (flat_atomic cs))

-- ---- the new numbers

module _ (cs : List Component) where
  -- the root or an atomic
  unfoldable pub is_listed : ℕ → Bool
  is_listed c = eqb 0 c || is_atomic cs c

  pub listed-root : is_listed 0 ≡ true
  unfolding is_listed
  listed-root = refl

  pub listed-atomic : (c : ℕ) → is_atomic cs c ≡ true → is_listed c ≡ true
  unfolding is_listed
  listed-atomic c e = or_right (eqb 0 c) _ e

  pub new-root : renumbered cs 0 ≡ 0
  unfolding renumbered place_in
  new-root = refl

  module _ (h : ComponentsFit cs) (l : 0 < length cs) where
    pub new-atomic : (c : ℕ) → is_atomic cs c ≡ true → renumbered cs c ≡ suc (place_in c (atomics cs))
    unfolding renumbered place_in
    new-atomic c e = rw (root-not cs c (rooted cs h l) e)

    pub listed-occurs : (c : ℕ) → is_listed c ≡ true → 0 < occurs c (0 ∷ atomics cs)
    unfolding is_listed count
    listed-occurs c e = go (eqb 0 c) refl
      where
        go : (t : Bool) → eqb 0 c ≡ t → 0 < cond (eqb c 0) 1 0 + occurs c (atomics cs)
        go true f = rw (eq-eqb c 0 (sym (eqb-true 0 c f))) (omega arith)
        go false f = omega (arith, atomic-once cs h l c (rw f at e))

    -- the root and the atomics keep their identity
    pub new-eqb : (a b : ℕ) → is_listed b ≡ true → eqb (renumbered cs a) (renumbered cs b) ≡ eqb a b
    unfolding renumbered
    new-eqb a b e = place-eqb a b (0 ∷ atomics cs) (listed-occurs b e)

    pub flat-atomics : atomics (flat_components cs) ≡ map (renumbered cs) (atomics cs)
    flat-atomics =
        flat_up cs
        ∙ sym (map-cong-if (is_atomic cs) (renumbered cs) (λ c. suc (place_in c (atomics cs))) (atomics cs) (atomics-atomic cs h l) new-atomic
        ∙ sym (map-map suc (λ c. place_in c (atomics cs)) (atomics cs)) ∙ ap (map suc) (places (atomics cs) (distinct-atomics cs)) ∙ up_suc 0 (length (atomics cs)))

    pub flat-component : (c : ℕ) → is_atomic cs c ≡ true → component_at (flat_components cs) (renumbered cs c) ≡ flat_atomic cs c
    unfolding component_at flat_components
    flat-component c e =
        let o : 0 < occurs c (atomics cs) = omega (arith, atomic-once cs h l c e) in
        ap (λ i. get_or (no_component ∷ map (flat_atomic cs) (atomics cs)) i no_component) (new-atomic c e)
        ∙ get_d_map (flat_atomic cs) (atomics cs) (place_in c (atomics cs)) 0 no_component (place-below c (atomics cs) o)
        ∙ ap (flat_atomic cs) (place_at c (atomics cs) 0 o)

    -- as many phases stand before an atomic's own
    flat-before : (c : ℕ) → is_atomic cs c ≡ true
        → phases_before (flat_components cs) (renumbered cs c) ≡ phases_before cs c
    unfolding phases_before flat_components no_component flat_atomic sum atomics component_at
    flat-before c e =
        let b = atomic-below cs c e in
        let H : ℕ → ℕ = λ d. (component_at cs d).phases in
        let L = atomics cs in
        let j = place_in c L in
        ap (λ i. sum (map (λ k. k.phases) (take i (no_component ∷ map (flat_atomic cs) L)))) (new-atomic c e)
        ∙ zero-add _
        ∙ ap (λ l. sum (map (λ k. k.phases) l)) (take-map (flat_atomic cs) j L)
        ∙ sum-map-of (λ k. k.phases) (map (flat_atomic cs) (take j L))
        ∙ sum-map (λ k. k.phases) (flat_atomic cs) (take j L)
        ∙ same (take j L)
        ∙ to-place c e
        ∙ sym (sum-map-of H (up_from 0 c))
        ∙ ap sum (sym (upto c (omega arith)))
      where
        same : (l : List ℕ) → sum_of (λ d. (flat_atomic cs d).phases) l ≡ sum_of (λ d. (component_at cs d).phases) l
        same l = refl

        to-place : (c : ℕ) → is_atomic cs c ≡ true
            → sum_of (λ d. (component_at cs d).phases) (take (place_in c (atomics cs)) (atomics cs)) ≡ sum_of (λ d. (component_at cs d).phases) (up_from 0 c)
        to-place c e =
            sum-to-place (λ d. (component_at cs d).phases) (is_atomic cs) (no-phases cs h l) c 0 (length cs) (omega arith) (let b = atomic-below cs c e in omega arith) e
            ∙ ap (λ n. sum_of (λ d. (component_at cs d).phases) (up_from 0 n)) (sub-zero c)

        upto : (c : ℕ) → c ≤ length cs → map (λ k. k.phases) (take c cs) ≡ map (λ d. (component_at cs d).phases) (up_from 0 c)
        upto c b = take-up (λ k. k.phases) cs no_component c b

-- ---- an atomic's phases, rules and transitions

pub new-atomics : (m : Model) → WellFormed m → atomics (flat m).components ≡ map (renumbered m.components) (atomics m.components)
unfolding flat
new-atomics m w = flat-atomics m.components w.components.fit w.some_component

module _ (m : Model) (w : WellFormed m) (c : ℕ) (e : is_atomic m.components c ≡ true) where
  pub flat-phase : (p : ℕ) → phase_at (flat m) (renumbered m.components c) p ≡ phase_at m c p
  unfolding phase_at flat
  flat-phase p = ap (λ n. get_or m.phases (n + p) no_phase) (flat-before m.components w.components.fit w.some_component c e)

  flat-deciding : (p t : ℕ) (x : Bag) (at : ℕ) (ks : List Rule)
      → deciding (holds m.ranges (renumbered m.components c) p t x) at (map (flat_rule m.components) ks) ≡ deciding (holds m.ranges c p t x) at ks
  unfolding deciding holds within_elapsed meets flat_rule
  flat-deciding p t x at [] = refl
  flat-deciding p t x at (k ∷ ks) =
      rw (new-eqb m.components w.components.fit w.some_component k.component c (listed-atomic m.components c e), flat-deciding p t x (suc at) ks)

  flat-next : (ks : List Rule) (i : ℕ) → (get_or (map (flat_rule m.components) ks) i no_rule).next ≡ (get_or ks i no_rule).next
  unfolding flat_rule
  flat-next [] i = refl
  flat-next (k ∷ ks) zero = refl
  flat-next (k ∷ ks) (suc i) = flat-next ks i

  flat-led : (ks : List Rule) (p : ℕ) (o : Option ℕ) → led_to (map (flat_rule m.components) ks) p o ≡ led_to ks p o
  unfolding led_to
  flat-led ks p none = refl
  flat-led ks p (some i) = flat-next ks i

  flat-advance : (p : ℕ) → advance_of (flat m) (renumbered m.components c) p ≡ advance_of m c p
  unfolding advance_of
  flat-advance p = rw (flat-phase p)

  flat-follow : (p : ℕ) → next_phase (flat m) (renumbered m.components c) p ≡ next_phase m c p
  unfolding next_phase
  flat-follow p = ap (λ k. k.next) (flat-phase p)

  -- the same rule decides, at the same position
  flat-rule : (p t : ℕ) (x : Bag) → rule_for (flat m) (renumbered m.components c) p t x ≡ rule_for m c p t x
  unfolding rule_for flat
  flat-rule p t x = flat-deciding p t x 0 m.rules

  flat_external : (p t : ℕ) (x : Bag) → external_part (flat m) (renumbered m.components c) p t x ≡ external_part m c p t x
  unfolding external_part flat
  flat_external p t x = flat-led m.rules p _ ∙ ap (led_to m.rules p) (flat-rule p t x)

  flat-order : (component_at (flat m).components (renumbered m.components c)).order ≡ (component_at m.components c).order
  unfolding flat flat_atomic
  flat-order = ap (λ k. k.order) (flat-component m.components w.components.fit w.some_component c e)

  flat-both : (p : ℕ) (x : Bag) → both_parts (flat m) (renumbered m.components c) p x ≡ both_parts m c p x
  unfolding both_parts
  flat-both p x = simp (flat-order, flat-follow, flat_external, flat-advance)

  pub flat-due : (r : Entry) → due_of (flat m) (renumbered m.components c) r ≡ due_of m c r
  unfolding due_of
  flat-due r = rw (flat-advance r.phase)

  pub flat-now : (now : ℕ) (r : Entry) → due_now (flat m) now (renumbered m.components c) r ≡ due_now m now c r
  unfolding due_now
  flat-now now r = rw (flat-due r)

  flat-moved-by : (now : ℕ) (o : Option ℕ) (r : Entry) → moved_by (flat m) now o r ≡ moved_by m now o r
  unfolding moved_by flat
  flat-moved-by now none r = refl
  flat-moved-by now (some i) r = rw (flat-next m.rules i)

  pub flat-moved : (now : ℕ) (b : Bool) (x : Bag) (r : Entry) → moved (flat m) now (renumbered m.components c) b x r ≡ moved m now c b x r
  unfolding moved
  flat-moved now true [] r = rw (flat-follow r.phase)
  flat-moved now true (y ∷ x) r = rw (flat-both r.phase (y ∷ x))
  flat-moved now false [] r = refl
  flat-moved now false (y ∷ x) r = flat-moved-by now _ r ∙ ap (λ o. moved_by m now o r) (flat-rule r.phase (now - r.last) (y ∷ x))

  -- and so the same rule is told
  flat-both-rule : (p : ℕ) (x : Bag) → rule_of_both (flat m) (renumbered m.components c) p x ≡ rule_of_both m c p x
  unfolding rule_of_both
  flat-both-rule p x = simp (flat-order, flat-follow, flat-rule, flat-advance)

  pub flat-part : (now : ℕ) (b : Bool) (x : Bag) (r : Entry) → part (flat m) now (renumbered m.components c) b x r ≡ part m now c b x r
  unfolding part
  flat-part now b [] r = refl
  flat-part now true (y ∷ x) r = rw (flat-both-rule r.phase (y ∷ x))
  flat-part now false (y ∷ x) r = rw (flat-rule r.phase (now - r.last) (y ∷ x))
