-- What follows from what is known of accepted components: their kinds by their phase counts, their depths by their parents', kinship by
-- parents alone. Assumes nothing.
use mathlib.Core.Path.{◌≡◌, refl, sym, ap, subst, ◌∙◌}
use mathlib.Core.List.{List}
use mathlib.Core.Bool.{Bool, true, false, ◌&&◌, ◌||◌, not, cond, true≢false, and-false, or-false}
use Prim.Native.Nat.{ℕ, zero, suc, ◌+◌, ◌-◌, ◌≤◌, ◌<◌}
use native.Mathlib.Omega.{arith}
use lib.Dec.{leb, ltb, eqb}
use lib.ListN.{length, get_or, set, length-set}
use lib.Seq.{get_or-set_same, get_or-set_other}
use borrow.Author.Tests.{ltb-true, leb-true, leb-false, eqb-true, eqb-false, lt-ltb, le-ltb, le-leb, lt-leb, eq-eqb, ne_eqb}
use Rattle.definition.specs.Limits.{max_components, max_ancestors, max_own_phases, port_count}
use Rattle.definition.specs.Model.{Component, Rule, component_at, is_atomic, is_child, is_sibling}
use Rattle.definition.specs.Pinned.Decoder.{coupled_fields, atomic_fields, kind_fields, root_fields, root_within, place_fits, component_fits, rule_fields, related}
use Rattle.law_base.proofs.Tests.{and_left, and_right, eqb-sym}
use Rattle.model_checks.specs.Known.{Accepted, Each, PhaseCounts, Depths}
use Rattle.model_checks.proofs.Laws.{root-here, root_none, root-up}

-- ---- arrays

-- What holds below n, and of n, holds below n + 1.
up_to : (P : ℕ → Type 0) (n : ℕ) → ((c : ℕ) → c < n → P c) → P n → (c : ℕ) → c < n + 1 → P c
up_to P n h e c b = go (eqb c n) refl
  where
    go : (t : Bool) → eqb c n ≡ t → P c
    go true f = subst P (sym (eqb-true c n f)) e
    go false f = h c (omega (arith, eqb-false c n f))

-- None are known at first.
pub each_none : (is : ℕ → ℕ → Type 0) (array : List ℕ) → length array ≡ max_components → Each is 0 array
each_none is array e = record { room = e; holds = λ c l. absurd (omega arith) }

-- One more is known.
pub each_more : (is : ℕ → ℕ → Type 0) (n : ℕ) (array : List ℕ) (x : ℕ) → n < max_components → Each is n array → is n x → Each is (n + 1) (set array n x)
each_more is n array x l h e = record { room = length-set array n x ∙ h.room; holds = up_to (λ c. is c (get_or (set array n x) c 0)) n earlier last }
  where
    earlier : (c : ℕ) → c < n → is c (get_or (set array n x) c 0)
    earlier c b = subst (λ v. is c v) (sym (get_or-set_other array n c x 0 (λ q. absurd (omega arith)))) (h.holds c b)

    last : is n (get_or (set array n x) n 0)
    last = subst (λ v. is n v) (sym (get_or-set_same array n x 0 (omega (arith, h.room)))) e

-- ---- accepted components

pub accepted-none : (cs : List Component) → Accepted cs 0
accepted-none cs = record { few = omega arith; fit = λ c l. absurd (omega arith) }

pub accepted-more : (cs : List Component) (n : ℕ) → Accepted cs n → n < max_components → component_fits cs n ≡ true → Accepted cs (n + 1)
accepted-more cs n a l e = record { few = omega arith; fit = up_to (λ c. component_fits cs c ≡ true) n a.fit e }

kind-kept : (cs : List Component) (c : ℕ) → component_fits cs c ≡ true → kind_fields (component_at cs c) ≡ true
unfolding component_fits
kind-kept cs c e = and_left (kind_fields (component_at cs c)) (cond (eqb c 0) (root_fields (component_at cs c)) (place_fits cs c)) e

-- It is coupled where it has no phases,
phases-coupled : (k : Component) → kind_fields k ≡ true → eqb k.phases 0 ≡ eqb k.kind 0
unfolding kind_fields coupled_fields atomic_fields
phases-coupled k e = go (eqb k.kind 0) refl (eqb k.phases 0) refl
  where
    go : (a : Bool) → eqb k.kind 0 ≡ a → (b : Bool) → eqb k.phases 0 ≡ b → b ≡ a
    go true f true g = refl
    go false f false g = refl
    go true f false g =
        let z = eqb-true k.kind 0 f in
        absurd (true≢false (sym (rw (f, g, ne_eqb k.kind 1 (λ q. absurd (omega arith))) at e)))
    go false f true g =
        let z = eqb-true k.phases 0 g in
        let n : leb 1 k.phases ≡ false = lt-leb 1 k.phases (omega arith) in
        absurd (true≢false (sym (simp (f, n, and-false) at e)))

-- and atomic where it has one.
phases-atomic : (k : Component) → kind_fields k ≡ true → (x : ℕ) → (eqb k.kind 1 && ltb x k.phases) ≡ ltb x k.phases
unfolding kind_fields coupled_fields atomic_fields
phases-atomic k e x = go (eqb k.kind 1) refl (ltb x k.phases) refl
  where
    go : (a : Bool) → eqb k.kind 1 ≡ a → (b : Bool) → ltb x k.phases ≡ b → (a && b) ≡ b
    go true f b g = refl
    go false f false g = refl
    go false f true g =
        let z = ltb-true x k.phases g in
        let n : eqb k.phases 0 ≡ false = ne_eqb k.phases 0 (λ q. absurd (omega arith)) in
        absurd (true≢false (sym (simp (f, n, and-false) at e)))

-- Its phases are few.
pub phases-few : (cs : List Component) (c : ℕ) → component_fits cs c ≡ true → (component_at cs c).phases ≤ max_own_phases
unfolding kind_fields coupled_fields atomic_fields
phases-few cs c e = go (eqb k.kind 0) refl (kind-kept cs c e)
  where
    k : Component
    k = component_at cs c

    go : (t : Bool) → eqb k.kind 0 ≡ t → kind_fields k ≡ true → k.phases ≤ max_own_phases
    go true f h = let n = eqb-true k.phases 0 (phases-coupled k h ∙ f) in omega arith
    go false f h =
        let a = and_right (eqb k.kind 1) (((leb 1 k.phases && leb k.phases max_own_phases) && ltb k.initial k.phases) && leb k.order 1) (rw f at h) in
        leb-true k.phases max_own_phases (and_right (leb 1 k.phases) (leb k.phases max_own_phases) (and_left _ _ (and_left _ _ a)))

-- The root stands as its own parent.
root-parent : (cs : List Component) (c : ℕ) → component_fits cs c ≡ true → c ≡ 0 → (component_at cs c).parent ≡ 0
unfolding component_fits root_fields
root-parent cs c e z =
    let h = and_right (kind_fields (component_at cs c)) (eqb (component_at cs c).kind 0 && eqb (component_at cs c).parent 0) (rw (eq-eqb c 0 z) at e) in
    eqb-true (component_at cs c).parent 0 (and_right (eqb (component_at cs c).kind 0) (eqb (component_at cs c).parent 0) h)

-- One that is not the root has its place.
place_kept : (cs : List Component) (c : ℕ) → component_fits cs c ≡ true → (c ≡ 0 → ⊥) → place_fits cs c ≡ true
unfolding component_fits
place_kept cs c e z = and_right (kind_fields (component_at cs c)) (place_fits cs c) (rw (ne_eqb c 0 z) at e)

parent_below : (cs : List Component) (c : ℕ) → component_fits cs c ≡ true → (c ≡ 0 → ⊥) → (component_at cs c).parent < c
unfolding place_fits
parent_below cs c e z =
    let p = (component_at cs c).parent in
    ltb-true p c (and_left (ltb p c) (eqb (component_at cs p).kind 0) (and_left (ltb p c && eqb (component_at cs p).kind 0) (root_within max_ancestors cs c) (place_kept cs c e z)))

root_kept : (cs : List Component) (c : ℕ) → component_fits cs c ≡ true → (c ≡ 0 → ⊥) → root_within max_ancestors cs c ≡ true
unfolding place_fits
root_kept cs c e z =
    let p = (component_at cs c).parent in
    and_right (ltb p c && eqb (component_at cs p).kind 0) (root_within max_ancestors cs c) (place_kept cs c e z)

-- ---- depths

below_next : (d n : ℕ) → leb d n ≡ ltb d (suc n)
below_next d n = go (leb d n) refl
  where
    go : (t : Bool) → leb d n ≡ t → t ≡ ltb d (suc n)
    go true e = sym (lt-ltb d (suc n) (omega (arith, leb-true d n e)))
    go false e = sym (le-ltb d (suc n) (omega (arith, leb-false d n e)))

both-more : (d n : ℕ) → leb d n ≡ leb (d + 1) (suc n)
both-more d n = go (leb d n) refl
  where
    go : (t : Bool) → leb d n ≡ t → t ≡ leb (d + 1) (suc n)
    go true e = sym (le-leb (d + 1) (suc n) (omega (arith, leb-true d n e)))
    go false e = sym (lt-leb (d + 1) (suc n) (omega (arith, leb-false d n e)))

pub depth-root : (cs : List Component) (c : ℕ) → c ≡ 0 → (most : ℕ) → root_within most cs c ≡ leb 0 most
depth-root cs c e most = root-here most cs c e ∙ sym (le-leb 0 most (omega arith))

module _ (cs : List Component) (c : ℕ) (z : c ≡ 0 → ⊥) (d : ℕ) (h : (most : ℕ) → root_within most cs (component_at cs c).parent ≡ leb d most) where
  depth-more : (most : ℕ) → root_within most cs c ≡ leb (d + 1) most
  depth-more zero = root_none cs c z ∙ sym (lt-leb (d + 1) 0 (omega arith))
  depth-more (suc n) =
      let e : suc n - 1 ≡ n = omega arith in
      root-up (suc n) cs c (omega arith) z ∙ ap (λ n. root_within n cs (component_at cs c).parent) e ∙ h n ∙ both-more d n

  -- The parent of an accepted component is less deep than the deepest.
  depth_below : component_fits cs c ≡ true → d < max_ancestors
  depth_below e =
      let l = leb-true (d + 1) max_ancestors (sym (depth-more max_ancestors) ∙ root_kept cs c e z) in
      omega arith

  -- The place of a component, by what is known of its parent.
  place-by : (component_at cs c).parent < c → component_fits cs (component_at cs c).parent ≡ true → {count : ℕ} → count ≡ (component_at cs (component_at cs c).parent).phases
      → (eqb count 0 && ltb d max_ancestors) ≡ place_fits cs c
  unfolding place_fits
  place-by l e f =
      let p = (component_at cs c).parent in
      let k = phases-coupled (component_at cs p) (kind-kept cs p e) in
      let r : root_within max_ancestors cs c ≡ ltb d max_ancestors = root-up max_ancestors cs c (omega arith) z ∙ h 7 ∙ below_next d 7 in
      rw (f, k, r, lt-ltb p c l)

-- A parent that is not earlier is refused.
pub misplaced : (cs : List Component) (c p : ℕ) → (c ≡ 0 → ⊥) → p ≡ (component_at cs c).parent → c ≤ p → component_fits cs c ≡ false
unfolding component_fits place_fits
misplaced cs c p z e l = rw (ne_eqb c 0 z, le-ltb (component_at cs c).parent c (rw (← e) l)) (simp and-false)

-- Component c, whose parent p is among the c components that are known.
module _ (cs : List Component) (c p : ℕ) (z : c ≡ 0 → ⊥) (e : p ≡ (component_at cs c).parent) (depths : List ℕ) (ds : Depths cs c depths) where
  up : p < c → (most : ℕ) → root_within most cs (component_at cs c).parent ≡ leb (get_or depths p 0) most
  up l most = rw (← e) (ds.holds p l most)

  pub fits_by : (counts : List ℕ) → PhaseCounts cs c counts → Accepted cs c → p < c
      → (kind_fields (component_at cs c) && (eqb (get_or counts p 0) 0 && ltb (get_or depths p 0) max_ancestors)) ≡ component_fits cs c
  unfolding component_fits
  fits_by counts ps a l =
      let f : get_or counts p 0 ≡ (component_at cs (component_at cs c).parent).phases = rw (← e) (ps.holds p l) in
      let g : component_fits cs (component_at cs c).parent ≡ true = rw (← e) (a.fit p l) in
      rw (ne_eqb c 0 z, place-by cs c z (get_or depths p 0) (up l) (rw (← e) l) g f)

  -- Where c is accepted, it is one deeper than its parent.
  module _ (k : component_fits cs c ≡ true) where
    pub over_below : p < c
    over_below = rw e (parent_below cs c k z)

    pub depth-fits : get_or depths p 0 < max_ancestors
    depth-fits = depth_below cs c z (get_or depths p 0) (up over_below) k

    pub deeper : (most : ℕ) → root_within most cs c ≡ leb (get_or depths p 0 + 1) most
    deeper most = depth-more cs c z (get_or depths p 0) (up over_below) most

-- ---- rules

-- A component with a phase x is atomic.
atomic-by : (cs : List Component) (c x : ℕ) → component_fits cs c ≡ true → (is_atomic cs c && ltb x (component_at cs c).phases) ≡ ltb x (component_at cs c).phases
unfolding is_atomic
atomic-by cs c x e = phases-atomic (component_at cs c) (kind-kept cs c e) x

pub rule-by : (cs : List Component) (k : Rule) → Accepted cs (length cs) → k.component < length cs → {bound : ℕ} → bound ≡ (component_at cs k.component).phases
    → (ltb k.phase bound && ltb k.next bound && ltb k.port port_count && leb k.low k.high && leb k.low_elapsed k.high_elapsed) ≡ rule_fields cs k
unfolding rule_fields
rule-by cs k a l e = rw (e, lt-ltb k.component (length cs) l, atomic-by cs k.component k.phase (a.fit k.component l))

-- ---- kinship

-- Nobody is its own relative.
pub related-self : (cs : List Component) (n c : ℕ) → Accepted cs n → c < n → related cs c c ≡ false
unfolding related is_child is_sibling
related-self cs n c a l = go (eqb c 0) refl
  where
    go : (t : Bool) → eqb c 0 ≡ t
        → ((not t && eqb (component_at cs c).parent c) || ((not (eqb c c) && not t) && (not t && eqb (component_at cs c).parent (component_at cs c).parent))
        || (not t && eqb (component_at cs c).parent c)) ≡ false
    go true f = simp (and-false)
    go false f =
        let p = parent_below cs c (a.fit c l) (eqb-false c 0 f) in
        rw (ne_eqb (component_at cs c).parent c (λ q. absurd (omega arith)), eq-eqb c c refl)

or_self : (a : Bool) → (a || a) ≡ a
or_self true = refl
or_self false = refl

or-last : (a b c : Bool) → ((a || b) || c) ≡ ((a || c) || b)
or-last true b c = refl
or-last false true true = refl
or-last false true false = refl
or-last false false true = refl
or-last false false false = refl

-- Two others are relatives where they have the same parent, or one is the other's.
module _ (cs : List Component) (n s t : ℕ) (a : Accepted cs n) (ls : s < n) (lt : t < n) (d : s ≡ t → ⊥) where
  pub related-by : ((eqb (component_at cs t).parent s || eqb (component_at cs s).parent t) || eqb (component_at cs s).parent (component_at cs t).parent) ≡ related cs s t
  unfolding related is_child is_sibling
  related-by = go (eqb s 0) refl (eqb t 0) refl
    where
      ps : ℕ
      ps = (component_at cs s).parent

      pt : ℕ
      pt = (component_at cs t).parent

      go : (x : Bool) → eqb s 0 ≡ x → (y : Bool) → eqb t 0 ≡ y
          → ((eqb pt s || eqb ps t) || eqb ps pt) ≡ (((not y && eqb pt s) || ((not (eqb s t) && not x) && (not y && eqb pt ps))) || (not x && eqb ps t))
      go true f true g = absurd (d (eqb-true s 0 f ∙ sym (eqb-true t 0 g)))
      go true f false g =
          let z = eqb-true s 0 f in
          let e : ps ≡ s = root-parent cs s (a.fit s ls) z ∙ sym z in
          rw (e, ne_eqb s t d, eqb-sym s pt) (simp (and-false, or-false, or_self))
      go false f true g =
          let z = eqb-true t 0 g in
          let e : pt ≡ t = root-parent cs t (a.fit t lt) z ∙ sym z in
          rw (e, eqb-sym t s, ne_eqb s t d) (simp (and-false, or-false, or_self))
      go false f false g = rw (ne_eqb s t d, eqb-sym pt ps) (or-last (eqb pt s) (eqb ps t) (eqb ps pt))
