-- Carried due moments as the loops meet them: one position more, and the least over a chain of children. Assumes nothing.
use mathlib.Core.Path.{◌≡◌, refl, sym, ap, ap₂, ◌∙◌}
use mathlib.Core.List.{List, [], ◌∷◌}
use mathlib.Core.Bool.{Bool, true, false}
use Prim.Native.Nat.{ℕ, zero, suc, ◌+◌, ◌-◌, ◌<◌, ◌≤◌, min}
use native.Mathlib.Omega.{arith}
use lib.Dec.{eqb}
use lib.ListN.{length, get_or, set}
use lib.Seq.{get_or-set_same}
use borrow.Author.Tests.{ne_eqb, eq-eqb, eqb-true, eqb-false}
use Rattle.definition.specs.Limits.{max_components, never_moment}
use Rattle.definition.specs.Model.{Phase}
use Rattle.definition.specs.Engine.{due_number}
use Rattle.run_state.specs.declared.State.{State}
use Rattle.spec_step.specs.Tables.{links, numbers_at, child_at, sibling_at, positions_at, child_rows, atomic_at}
use Rattle.spec_step.specs.TableStep.{due_in, due_at_position}
use Rattle.spec_step.specs.Carried.{Carried, least_end, end_below}
use Rattle.law_step.proofs.Carried.{carried-put}

-- ---- one position more

pub carried-more : (ps : List Phase) (t : List ℕ) (st : State) (ends : List ℕ) (i : ℕ) → i < length ends
    → Carried ps t i st ends → Carried ps t (i + 1) st (set ends i (due_number (due_at_position ps t st i)))
carried-more ps t st ends i l h j b = go (eqb i j) refl
  where
    v : ℕ
    v = due_number (due_at_position ps t st i)

    go : (e : Bool) → eqb i j ≡ e → get_or (set ends i v) j 0 ≡ due_number (due_at_position ps t st j)
    go true e = let p : i ≡ j = eqb-true i j e in ap (λ k. get_or (set ends i v) k 0) (sym p) ∙ get_or-set_same ends i v 0 l ∙ ap (λ k. due_number (due_at_position ps t st k)) p
    go false e = carried-put ps t i st st ends i l (λ k d. refl) h j (omega (arith, eqb-false i j e))

-- ---- the least over a chain

-- A component is asked at all levels, its children at one level less.
abbrev pub levels_left : ℕ
levels_left = max_components - 1

module _ (t : List ℕ) where
  -- The children that are left of a chain.
  abbrev pub children_from : ℕ → ℕ → List ℕ
  children_from left d = links (λ k. get_or t (sibling_at + k) 0) left d

  -- one child more, after i of n at most
  pub least_more : (f : ℕ → ℕ) (n i d u : ℕ) → i < n → (d ≡ 0 → ⊥)
      → min (min u (f d)) (least_end f (children_from (n - (i + 1)) (get_or t (sibling_at + d) 0))) ≡ min u (least_end f (children_from (n - i) d))
  unfolding least_end links
  least_more f n i d u h some = let e : n - i ≡ suc (n - (i + 1)) = omega arith in rw (e, ne_eqb d 0 some) (omega arith)

  -- none left
  pub least_none : (f : ℕ → ℕ) (left d u : ℕ) → u ≤ never_moment → d ≡ 0 → u ≡ min u (least_end f (children_from left d))
  unfolding least_end links
  least_none f zero d u l z = omega arith
  least_none f (suc n) d u l z = rw (eq-eqb d 0 z) (omega arith)

  pub least-end : (f : ℕ → ℕ) (n i d u : ℕ) → u ≤ never_moment → n ≤ i → u ≡ min u (least_end f (children_from (n - i) d))
  unfolding least_end links
  least-end f n i d u l h = let e : n - i ≡ 0 = omega arith in rw e (omega arith)

  -- the two cases of a component
  pub end-atomic : (ends : List ℕ) (c : ℕ) → atomic_at t c ≡ true → get_or ends (get_or t (positions_at + c) 0) 0 ≡ end_below t ends max_components c
  unfolding end_below
  end-atomic ends c a = rw a

  least-bounded : (f : ℕ → ℕ) (l : List ℕ) → least_end f l ≤ never_moment
  unfolding least_end
  least-bounded f [] = omega arith
  least-bounded f (d ∷ l) = omega (arith, least-bounded f l)

  pub end-coupled : (ends : List ℕ) (c : ℕ) → atomic_at t c ≡ false
      → min never_moment (least_end (end_below t ends levels_left) (children_from max_components (get_or t (child_at + c) 0))) ≡ end_below t ends max_components c
  unfolding end_below child_rows
  end-coupled ends c a = rw a (omega (arith, least-bounded (end_below t ends levels_left) (child_rows t c)))

-- The due moment at a position, by the component and the phase that stand there.
pub due-named : (ps : List Phase) (t : List ℕ) (st : State) (i c p : ℕ) → c ≡ get_or t (numbers_at + i) 0 → p ≡ get_or st.phase i 0
    → due_in ps t c p (get_or st.last i 0) ≡ due_at_position ps t st i
unfolding due_at_position
due-named ps t st i c p q r = ap₂ (λ c p. due_in ps t c p (get_or st.last i 0)) q r
