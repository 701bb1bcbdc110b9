-- Carried due moments: what is due now, the marks and the next due moment, read off them, are those of the state; and a state changed at one
-- position has one of them changed. Assumes nothing.
use mathlib.Core.Path.{◌≡◌, refl, sym, ap, ap₂, ◌∙◌}
use Prim.Native.Nat.{ℕ, zero, suc, ◌+◌, ◌<◌, ◌≤◌, min}
use mathlib.Core.List.{List, [], ◌∷◌}
use mathlib.Core.Bool.{Bool, true, false, cond, true≢false}
use native.Mathlib.Omega.{arith}
use lib.ListN.{length, get_or, set}
use lib.Seq.{get_or-set_same, get_or-set_other}
use lib.Dec.{eqb, ltb}
use borrow.Author.Tests.{eqb-true, eqb-false, ne_eqb, le-ltb}
use Rattle.definition.specs.Limits.{max_components, never_field, never_moment}
use Rattle.definition.specs.Model.{Bag, Phase, Rule}
use Rattle.definition.specs.Devs.{Time, finite, never, earlier, same_time, ticks}
use Rattle.definition.specs.Advance.{is_before}
use Rattle.definition.specs.Engine.{due_number}
use Rattle.clock.specs.Times.{latest}
use Rattle.run_state.specs.declared.State.{State}
use Rattle.run_state.specs.Held.{changed_at}
use Rattle.spec_step.specs.Tables.{links, numbers_at, positions_at, child_at, sibling_at, child_rows, atomic_at}
use Rattle.spec_step.specs.TableStep.{phase_in, due_in, due_at_position, least_of, due_below, table_next, mark_of, marked, record_of, changed_by}
use Rattle.spec_step.specs.Ranges.{InRange, Seated}
use Rattle.law_step.proofs.Changed.{SetAt, set_at, kept_at, set-at-or-kept}
use Rattle.spec_step.specs.Carried.{Carried, end_mark, end_marked, least_end, end_below, next_end}

-- ---- times as numbers

-- no moment below the latest number is never
pub now-number : (u : Time) (now : ℕ) → now < latest → eqb (due_number u) now ≡ same_time u (finite now)
unfolding due_number same_time
now-number (finite a) now l = refl
now-number never now l = ne_eqb never_moment now (λ e. omega arith)

pub before-number : (u : Time) (t : ℕ) → t ≤ latest → ltb (due_number u) t ≡ is_before u t
unfolding due_number is_before
before-number (finite a) t l = refl
before-number never t l = le-ltb never_moment t l

-- and where it lies before t the number is the moment
pub moment-number : (u : Time) (t : ℕ) → is_before u t ≡ true → due_number u ≡ ticks u
unfolding due_number is_before ticks
moment-number (finite a) t e = refl
moment-number never t e = absurd (true≢false (sym e))

earlier-number : (u v : Time) → due_number u ≤ never_moment → due_number v ≤ never_moment → min (due_number u) (due_number v) ≡ due_number (earlier u v)
unfolding due_number earlier
earlier-number (finite a) (finite b) p q = refl
earlier-number (finite a) never p q = omega arith
earlier-number never (finite b) p q = omega arith
earlier-number never never p q = omega arith

-- ---- rows of children: all are numbered above their parent

-- Every element passes.
abbrev pub Each : (ℕ → Type 0) → List ℕ → Type 0
Each P [] = Unit {0}
Each P (x ∷ xs) = P x × Each P xs

-- A component above c.
abbrev pub Above : ℕ → ℕ → Type 0
Above c d = (c < d) × (d < max_components)

module _ (t : List ℕ) (r : InRange t) where
  links-above : (n j c : ℕ) → j < max_components → (0 < j → c < j) → Each (Above c) (links (λ d. get_or t (sibling_at + d) 0) n j)
  unfolding links
  links-above zero j c l h = tt
  links-above (suc n) j c l h = go (eqb j 0) refl (λ p. links-above n (get_or t (sibling_at + j) 0) c (r.siblings j l) p)
    where
      go : (b : Bool) → eqb j 0 ≡ b → ((0 < get_or t (sibling_at + j) 0 → c < get_or t (sibling_at + j) 0) → Each (Above c) (links (λ d. get_or t (sibling_at + d) 0) n (get_or t (sibling_at + j) 0)))
          → Each (Above c) (cond b [] (j ∷ links (λ d. get_or t (sibling_at + d) 0) n (get_or t (sibling_at + j) 0)))
      go true e ih = tt
      go false e ih =
          let p : c < j = h (omega (arith, eqb-false j 0 e)) in
          ((p, l), ih (λ q. omega (arith, r.siblings_rise j l q)))

  pub children-above : (c : ℕ) → c < max_components → Each (Above c) (child_rows t c)
  unfolding child_rows
  children-above c l = links-above max_components (get_or t (child_at + c) 0) c (r.children c l) (r.children_rise c l)

  -- ---- the least over the tree: levels enough are levels enough

  least-same : (f g : ℕ → ℕ) (c : ℕ) (l : List ℕ) → Each (Above c) l → ((d : ℕ) → Above c d → f d ≡ g d) → least_end f l ≡ least_end g l
  unfolding least_end
  least-same f g c [] e s = refl
  least-same f g c (d ∷ l) e s = ap₂ min (s d e.0) (least-same f g c l e.1 s)

  pub levels-enough : (ends : List ℕ) (n m c : ℕ) → c < max_components → max_components ≤ n + c → max_components ≤ m + c → end_below t ends n c ≡ end_below t ends m c
  unfolding end_below
  levels-enough ends zero m c l a b = absurd (omega arith)
  levels-enough ends (suc n) zero c l a b = absurd (omega arith)
  levels-enough ends (suc n) (suc m) c l a b =
      ap (cond (atomic_at t c) (get_or ends (get_or t (positions_at + c) 0) 0))
      (least-same (end_below t ends n) (end_below t ends m) c (child_rows t c) (children-above c l) (λ d p. levels-enough ends n m d p.1 (omega (arith, p.0)) (omega (arith, p.0))))

-- ---- the marks

module _ (ps : List Phase) (t : List ℕ) (n : ℕ) (st : State) (ends : List ℕ) (h : Carried ps t n st ends) where
  mark-carried : (now i : ℕ) → now < latest → i < n → end_mark t now st.phase ends i (get_or t (numbers_at + i) 0) ≡ mark_of ps t now st i
  unfolding end_mark mark_of record_of
  mark-carried now i l b =
      ap (λ e. cond e (suc (record_of t (get_or t (numbers_at + i) 0) (get_or st.phase i 0))) 0) (ap (λ e. eqb e now) (h i b) ∙ now-number (due_at_position ps t st i) now l)

  pub marked-carried : (now m i : ℕ) (es : List ℕ) → now < latest → i + m ≤ n → end_marked t now st.phase ends m i es ≡ marked ps t now st m i es
  unfolding end_marked marked
  marked-carried now zero i es l b = refl
  marked-carried now (suc m) i es l b =
      rw (mark-carried now i l (omega arith)) (marked-carried now m (i + 1) _ l (omega arith))

  -- ---- the next due moment

  due-bounded : (i : ℕ) → due_number (due_at_position ps t st i) ≤ never_moment
  unfolding due_at_position due_in due_number
  due-bounded i = go (eqb (phase_in ps t (get_or t (numbers_at + i) 0) (get_or st.phase i 0)).advance never_field)
    where
      go : (b : Bool) → due_number (cond b never (finite (min (get_or st.last i 0 + (phase_in ps t (get_or t (numbers_at + i) 0) (get_or st.phase i 0)).advance) latest))) ≤ never_moment
      go true = omega arith
      go false = omega arith

  least-carried : (f : ℕ → ℕ) (g : ℕ → Time) (c : ℕ) (l : List ℕ) → Each (Above c) l → ((d : ℕ) → Above c d → (f d ≡ due_number (g d)) × (f d ≤ never_moment))
      → (least_end f l ≡ due_number (least_of g l)) × (least_end f l ≤ never_moment)
  unfolding least_end least_of due_number
  least-carried f g c [] e s = (refl, omega arith)
  least-carried f g c (d ∷ l) e s =
      let one = s d e.0 in
      let more = least-carried f g c l e.1 s in
      (ap₂ min one.0 more.0 ∙ earlier-number (g d) (least_of g l) (omega (arith, one.0, one.1)) (omega (arith, more.0, more.1)), omega (arith, one.1, more.1))

  module _ (r : InRange t) (w : Seated n t) where
    below-carried : (levels c : ℕ) → c < max_components → (end_below t ends levels c ≡ due_number (due_below ps t st levels c)) × (end_below t ends levels c ≤ never_moment)
    unfolding end_below due_below due_number
    below-carried zero c l = (refl, omega arith)
    below-carried (suc m) c l =
        go (atomic_at t c) refl (least-carried (end_below t ends m) (due_below ps t st m) c (child_rows t c) (children-above t r c l) (λ d p. below-carried m d p.1))
      where
        i : ℕ
        i = get_or t (positions_at + c) 0

        go : (b : Bool) → atomic_at t c ≡ b
            → (least_end (end_below t ends m) (child_rows t c) ≡ due_number (least_of (due_below ps t st m) (child_rows t c))) × (least_end (end_below t ends m) (child_rows t c) ≤ never_moment)
            → (cond b (get_or ends i 0) (least_end (end_below t ends m) (child_rows t c)) ≡ due_number (cond b (due_at_position ps t st i) (least_of (due_below ps t st m) (child_rows t c))))
            × (cond b (get_or ends i 0) (least_end (end_below t ends m) (child_rows t c)) ≤ never_moment)
        go true e ih = (h i (w c l e), omega (arith, h i (w c l e), due-bounded i))
        go false e ih = ih

    pub next-carried : next_end t ends ≡ due_number (table_next ps t st)
    unfolding next_end table_next
    next-carried = (below-carried max_components 0 (omega arith)).0

-- ---- one position changed

module _ (ps : List Phase) (t : List ℕ) where
  -- what is carried elsewhere stays where nothing else of the state has changed
  pub carried-put : (n : ℕ) (st st' : State) (ends : List ℕ) (i : ℕ) → i < length ends → ((j : ℕ) → (i ≡ j → ⊥) → due_at_position ps t st' j ≡ due_at_position ps t st j)
      → Carried ps t n st ends → Carried ps t n st' (set ends i (due_number (due_at_position ps t st' i)))
  carried-put n st st' ends i l same h j b = go (eqb i j) refl
    where
      v : ℕ
      v = due_number (due_at_position ps t st' i)

      go : (e : Bool) → eqb i j ≡ e → get_or (set ends i v) j 0 ≡ due_number (due_at_position ps t st' j)
      go true e = let p : i ≡ j = eqb-true i j e in ap (λ k. get_or (set ends i v) k 0) (sym p) ∙ get_or-set_same ends i v 0 l ∙ ap (λ k. due_number (due_at_position ps t st' k)) p
      go false e = get_or-set_other ends i j v 0 (λ q. eqb-false i j e (sym q)) ∙ h j b ∙ ap due_number (sym (same j (eqb-false i j e)))

  at-elsewhere : (st : State) (i p last j : ℕ) → (i ≡ j → ⊥) → due_at_position ps t (changed_at st i p last) j ≡ due_at_position ps t st j
  unfolding due_at_position changed_at
  at-elsewhere st i p last j d = ap₂ (due_in ps t (get_or t (numbers_at + j) 0)) (get_or-set_other st.phase i j p 0 (λ q. d (sym q))) (get_or-set_other st.last i j last 0 (λ q. d (sym q)))

  pub changed-elsewhere : (rs : List Rule) (now : ℕ) (st : State) (i c : ℕ) (due : Bool) (x : Bag) (j : ℕ) → (i ≡ j → ⊥)
      → due_at_position ps t (changed_by ps t rs now st i c due x) j ≡ due_at_position ps t st j
  changed-elsewhere rs now st i c due x j d = go (set-at-or-kept ps t rs now st i c due x)
    where
      go : {after : State} → SetAt now st i after → due_at_position ps t after j ≡ due_at_position ps t st j
      go (set_at p) = at-elsewhere st i p now j d
      go kept_at = refl
