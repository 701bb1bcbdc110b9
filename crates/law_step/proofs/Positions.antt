-- The state that the code holds, by positions, and the entries of the definition, by component numbers, say the same of each atomic: its phase, its
-- last moment, its phase record and when it is due. Assumes nothing.
use mathlib.Core.Path.{◌≡◌, refl, sym, ap, ◌∙◌}
use Prim.Native.Nat.{ℕ, zero, suc, ◌+◌, ◌≤◌, ◌<◌, min}
use mathlib.Core.List.{List, [], ◌∷◌, map}
use mathlib.Core.Bool.{Bool, true, false, ◌&&◌, cond}
use native.Mathlib.Omega.{arith}
use native.Mathlib.Nat.{add-zero}
use lib.Dec.{eqb, ltb}
use lib.ListN.{length, get_or, get_or-eq_default}
use borrow.Author.Tests.{leb-true, ltb-true, ltb-false}
use Rattle.definition.specs.Lists.{up_from, count}
use Rattle.definition.specs.Limits.{max_advance, never_field}
use Rattle.definition.specs.Model.{Phase, Model, no_phase, is_atomic, atomics, phases_before, phase_at}
use Rattle.definition.specs.Pinned.Decoder.{advance_fits, phase_fields, phase_fits, used_fit}
use Rattle.definition.specs.Devs.{finite, never, later}
use Rattle.definition.specs.Atomic.{advance_of}
use Rattle.definition.specs.SavedRun.{Entry, look_up, entry_of, due_of}
use Rattle.definition.specs.Flatten.{place_in}
use Rattle.law_base.proofs.Tests.{and_left, eqb-sym, or-first}
use Rattle.law_base.proofs.Lists.{get_d_map, all-at}
use Rattle.law_model.proofs.WellFormed.{WellFormed}
use Rattle.law_nest.proofs.Occurs.{occurs, Distinct}
use Rattle.law_nest.proofs.Places.{places}
use Rattle.law_nest.proofs.Components.{atomic-below, atomic-once, atomics-atomic}
use Rattle.law_nest.proofs.Renumber.{distinct-atomics}
use Rattle.clock.specs.Times.{latest}
use Rattle.run_state.specs.declared.State.{State}
use Rattle.run_state.specs.Held.{entries_of}
use Rattle.spec_step.specs.TableStep.{record_of, phase_in, due_in, due_at_position}
use Rattle.spec_step.specs.Tabled.{Tabled}

-- ---- places

pub get_or-up : (k n i : ℕ) → i < n → get_or (up_from k n) i 0 ≡ k + i
unfolding up_from
get_or-up k zero i l = absurd (omega arith)
get_or-up k (suc n) zero l = omega arith
get_or-up k (suc n) (suc i) l = get_or-up (suc k) n i (omega arith) ∙ omega arith

pub place_of : (l : List ℕ) (i : ℕ) → Distinct l → i < length l → place_in (get_or l i 0) l ≡ i
place_of l i d b =
    sym (get_d_map (λ c. place_in c l) l i 0 0 b) ∙ ap (λ ks. get_or ks i 0) (places l d) ∙ get_or-up 0 (length l) i b ∙ omega arith

-- what is looked up among values by place
look_up-place : (f : ℕ → Entry) (l : List ℕ) (k c : ℕ) → 0 < occurs c l → look_up l (map f (up_from k (length l))) c ≡ f (k + place_in c l)
unfolding look_up place_in up_from count
look_up-place f [] k c h = absurd (omega arith)
look_up-place f (a ∷ l) k c h = go (eqb a c) refl (look_up-place f l (suc k) c)
  where
    go : (b : Bool) → eqb a c ≡ b → (0 < occurs c l → look_up l (map f (up_from (suc k) (length l))) c ≡ f (suc k + place_in c l))
        → cond (eqb a c) (f k) (look_up l (map f (up_from (suc k) (length l))) c) ≡ f (k + cond (eqb a c) 0 (suc (place_in c l)))
    go true e ih = rw (e, add-zero)
    go false e ih =
        let g = rw (eqb-sym c a, e) at h in
        let s : suc k + place_in c l ≡ k + suc (place_in c l) = omega arith in
        rw e (ih (omega arith) ∙ ap f s)

-- ---- advances

-- every phase record has an advance that fits
advances : (m : Model) → WellFormed m → (i : ℕ) → advance_fits (get_or m.phases i no_phase).advance ≡ true
advances m w i = go (ltb i (length m.phases)) refl
  where
    fields : (j : ℕ) → j < length m.phases → advance_fits (get_or m.phases j no_phase).advance ≡ true
    fields j l =
        unfold phase_fits phase_fields in
        (let k = get_or m.phases j no_phase in
        let a = advance_fits k.advance in
        and_left a _ (and_left (a && _) _ (and_left (a && _ && _) _ (and_left (a && _ && _ && used_fit k) _ (w.phases.fit j l)))))

    go : (b : Bool) → ltb i (length m.phases) ≡ b → advance_fits (get_or m.phases i no_phase).advance ≡ true
    go true e = fields i (ltb-true i (length m.phases) e)
    go false e = ap (λ (k : Phase). advance_fits k.advance) (get_or-eq_default m.phases no_phase (ltb-false i (length m.phases) e)) ∙ (unfold advance_fits no_phase in refl)

-- ---- one atomic

-- the entry at a position
abbrev pub held_at : State → ℕ → Entry
held_at st i = record { phase = get_or st.phase i 0; last = get_or st.last i 0 }

module _ (m : Model) (w : WellFormed m) (st : State) where
  -- the entries that the state holds
  abbrev pub entries : List Entry
  entries = entries_of (length (atomics m.components)) st

  abbrev pub at_entry : ℕ → Entry
  at_entry = entry_of m entries

  pub entry_at : (c : ℕ) → is_atomic m.components c ≡ true → at_entry c ≡ held_at st (place_in c (atomics m.components))
  unfolding entry_of entries_of
  entry_at c e =
      let o = atomic-once m.components w.components.fit w.some_component c e in
      look_up-place (held_at st) (atomics m.components) 0 c (omega arith) ∙ ap (held_at st) (let z : 0 + place_in c (atomics m.components) ≡ place_in c (atomics m.components) = omega arith in z)

  -- the atomic at a position
  abbrev pub atomic_at_place : ℕ → ℕ
  atomic_at_place i = get_or (atomics m.components) i 0

  pub place_is : (i : ℕ) → i < length (atomics m.components) → place_in (atomic_at_place i) (atomics m.components) ≡ i
  place_is i l = place_of (atomics m.components) i (distinct-atomics m.components) l

  pub atomic-at : (i : ℕ) → i < length (atomics m.components) → is_atomic m.components (atomic_at_place i) ≡ true
  atomic-at i l = all-at (is_atomic m.components) (atomics m.components) i 0 (atomics-atomic m.components w.components.fit w.some_component) l

  pub place-entry : (i : ℕ) → i < length (atomics m.components) → at_entry (atomic_at_place i) ≡ held_at st i
  place-entry i l = entry_at (atomic_at_place i) (atomic-at i l) ∙ ap (held_at st) (place_is i l)

  module _ (t : List ℕ) (h : Tabled m t) where
    pub phase-is : (c p : ℕ) → c < length m.components → phase_in m.phases t c p ≡ phase_at m c p
    unfolding phase_in record_of phase_at
    phase-is c p l = ap (λ n. get_or m.phases (n + p) no_phase) (h.phases c l)

    -- where the last moment is not too late, an atomic is due as the definition says
    pub due-is : (c p last : ℕ) → c < length m.components → last + max_advance ≤ latest
        → due_in m.phases t c p last ≡ due_of m c (record { phase = p; last = last })
    unfolding due_in due_of advance_of later
    due-is c p last l soon = ap (λ (k : Phase). cond (eqb k.advance never_field) never (finite (min (last + k.advance) latest))) (phase-is c p l) ∙ go (eqb (phase_at m c p).advance never_field) refl
      where
        fits : advance_fits (phase_at m c p).advance ≡ true
        fits = unfold phase_at in (advances m w (phases_before m.components c + p))

        small : eqb (phase_at m c p).advance never_field ≡ false → (phase_at m c p).advance ≤ max_advance
        small e = unfold advance_fits in (leb-true (phase_at m c p).advance max_advance (or-first _ _ (unfold advance_fits in fits) e))

        go : (b : Bool) → eqb (phase_at m c p).advance never_field ≡ b
            → cond (eqb (phase_at m c p).advance never_field) never (finite (min (last + (phase_at m c p).advance) latest))
            ≡ later last (cond (eqb (phase_at m c p).advance never_field) never (finite (phase_at m c p).advance))
        go true e = rw e
        go false e = let s = small e in let q : min (last + (phase_at m c p).advance) latest ≡ last + (phase_at m c p).advance = omega arith in rw e (ap finite q)

    -- the atomic at a position
    pub due-at : (i : ℕ) → i < length (atomics m.components) → get_or st.last i 0 + max_advance ≤ latest
        → due_at_position m.phases t st i ≡ due_of m (atomic_at_place i) (held_at st i)
    unfolding due_at_position
    due-at i l soon =
        ap (λ c. due_in m.phases t c (get_or st.phase i 0) (get_or st.last i 0)) (h.numbers i l)
        ∙ due-is (atomic_at_place i) (get_or st.phase i 0) (get_or st.last i 0) (atomic-below m.components (atomic_at_place i) (atomic-at i l)) soon
