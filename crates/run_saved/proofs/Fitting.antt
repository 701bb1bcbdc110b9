-- The entries of a run against the atomics, component by component: from a component on, with k atomics before it, the rest is the
-- whole. Assumes nothing.
use mathlib.Core.Path.{◌≡◌, refl, sym, ap, ap₂, ◌∙◌}
use mathlib.Core.List.{List, [], ◌∷◌, map}
use mathlib.Core.Bool.{Bool, true, false, ◌&&◌, ◌||◌, not, cond}
use Prim.Native.Nat.{ℕ, suc, ◌+◌, ◌*◌, ◌-◌, ◌≤◌, ◌<◌}
use native.Mathlib.Omega.{arith}
use native.Mathlib.Nat.{sub-zero}
use mir.Val.{bool_byte}
use lib.Dec.{leb, ltb, eqb}
use lib.ListN.{length, drop, get_or}
use lib.Seq.{drop-drop}
use Rattle.definition.specs.Lists.{keep, up_from}
use Rattle.definition.specs.Bytes.{Bytes, number_at, chunks}
use Rattle.definition.specs.Limits.{head_size, entry_size}
use Rattle.definition.specs.Model.{Component, no_phase, component_at, is_atomic, atomics, phases_before, phase_at}
use Rattle.definition.specs.Devs.{Time}
use Rattle.definition.specs.Atomic.{advance_of}
use Rattle.definition.specs.SavedRun.{Entry, to_entry, to_run, atomic_count, run_of, due_of, not_before, run_length, entry_fits, entries_fit, run_fits}
use Rattle.law_bytes.specs.Parts.{row}
use Rattle.law_base.proofs.Tests.{clash}
use Rattle.model_records.specs.Values.{components_in, phases_in, model_in}
use Rattle.model_records.proofs.Counting.{counted}
use Rattle.clock.specs.Times.{latest}
use Rattle.clock.specs.After.{due_after}
use Rattle.clock.proofs.Laws.{after-tested}
use Rattle.run_saved.specs.Runs.{bare, entry_at, entries_fit_in}

-- ---- rows and components from a number on

rows-from : (size n k : ℕ) (s : Bytes) → k < n → chunks (n - k) size (drop (size * k) s) ≡ row size k s ∷ chunks (n - (k + 1)) size (drop (size * (k + 1)) s)
unfolding chunks row
rows-from size n k s h =
    let e : n - k ≡ suc (n - (k + 1)) = omega arith in
    let f : size * k + size ≡ size * (k + 1) = omega arith in
    rw (e, drop-drop size (size * k) s, f)

-- The atomics from component c on.
unfoldable pub atomics_from : List Component → ℕ → List ℕ
atomics_from cs c = keep (is_atomic cs) (up_from c (length cs - c))

pub from_first : (cs : List Component) → atomics_from cs 0 ≡ atomics cs
unfolding atomics_from atomics
from_first cs = rw sub-zero

module _ (cs : List Component) (c : ℕ) (h : c < length cs) where
  from_step : atomics_from cs c ≡ cond (is_atomic cs c) (c ∷ atomics_from cs (c + 1)) (atomics_from cs (c + 1))
  unfolding atomics_from keep up_from
  from_step =
      let e : length cs - c ≡ suc (length cs - (c + 1)) = omega arith in
      let f : c + 1 ≡ suc c = omega arith in
      rw (e, f)

  pub from-atomic : is_atomic cs c ≡ true → atomics_from cs c ≡ c ∷ atomics_from cs (c + 1)
  from-atomic e = from_step ∙ rw e

  pub from-coupled : is_atomic cs c ≡ false → atomics_from cs c ≡ atomics_from cs (c + 1)
  from-coupled e = from_step ∙ rw e

  -- How many there are.
  pub left-more : (k n : ℕ) → k + length (atomics_from cs c) ≡ n → k + cond (is_atomic cs c) 1 0 + length (atomics_from cs (c + 1)) ≡ n
  left-more k n e = go (is_atomic cs c) refl
    where
      go : (b : Bool) → is_atomic cs c ≡ b → k + cond b 1 0 + length (atomics_from cs (c + 1)) ≡ n
      go true f = omega (arith, ap length (from-atomic f))
      go false f = omega (arith, ap length (from-coupled f))

pub from_end : (cs : List Component) (c : ℕ) → length cs ≤ c → atomics_from cs c ≡ []
unfolding atomics_from keep up_from
from_end cs c h = let e : length cs - c ≡ 0 = omega arith in rw e

-- ---- fitting

-- The test of the entries from component c on, with k atomics before it.
unfoldable pub fit_from : Bytes → Bytes → Bytes → ℕ → ℕ → Bool
fit_from components phases s c k =
    entries_fit (bare components phases) (number_at 8 0 s) (atomics_from (components_in components) c)
    (map to_entry (chunks (length (atomics (components_in components)) - k) entry_size (drop (entry_size * k) (drop head_size s))))

pub fit-first : (components phases s : Bytes) → entries_fit_in components phases s ≡ fit_from components phases s 0 0
unfolding entries_fit_in fit_from bare model_in run_of to_run atomic_count
fit-first components phases s =
    let e : entry_size * 0 ≡ 0 = omega arith in
    rw (from_first, sub-zero, e)

module _ (components phases s : Bytes) (c k : ℕ) (h : c < length (components_in components))
    (left : k + length (atomics_from (components_in components) c) ≡ length (atomics (components_in components))) where
  abbrev opening : ℕ
  opening = number_at 8 0 s

  fit-here : is_atomic (components_in components) c ≡ true
      → fit_from components phases s c k ≡ (entry_fits (bare components phases) opening c (entry_at s k) && fit_from components phases s (c + 1) (k + 1))
  unfolding fit_from entries_fit entry_at
  fit-here e =
      let f = from-atomic (components_in components) c h e in
      let l : k < length (atomics (components_in components)) = omega (arith, ap length f) in
      rw (f, rows-from entry_size (length (atomics (components_in components))) k (drop head_size s) l)

  fit_on : is_atomic (components_in components) c ≡ false → fit_from components phases s c k ≡ fit_from components phases s (c + 1) k
  unfolding fit_from
  fit_on e = rw (from-coupled (components_in components) c h e)

  -- A component that is coupled, or whose entry fits.
  pub fit-more : (is_atomic (components_in components) c && not (entry_fits (bare components phases) opening c (entry_at s k))) ≡ false
      → fit_from components phases s (c + 1) (k + cond (is_atomic (components_in components) c) 1 0) ≡ fit_from components phases s c k
  fit-more e = go (is_atomic (components_in components) c) refl (entry_fits (bare components phases) opening c (entry_at s k)) refl
    where
      go : (a : Bool) → is_atomic (components_in components) c ≡ a → (f : Bool) → entry_fits (bare components phases) opening c (entry_at s k) ≡ f
          → fit_from components phases s (c + 1) (k + cond a 1 0) ≡ fit_from components phases s c k
      go true p true q = sym (fit-here p ∙ rw q)
      go true p false q = absurd (clash (ap₂ (λ (a b : Bool). a && not b) p q) e)
      go false p f q = let z : k + 0 ≡ k = omega arith in rw z (sym (fit_on p))

  pub fit-fails : (is_atomic (components_in components) c && not (entry_fits (bare components phases) opening c (entry_at s k))) ≡ true
      → fit_from components phases s c k ≡ false
  fit-fails e = go (is_atomic (components_in components) c) refl (entry_fits (bare components phases) opening c (entry_at s k)) refl
    where
      go : (a : Bool) → is_atomic (components_in components) c ≡ a → (f : Bool) → entry_fits (bare components phases) opening c (entry_at s k) ≡ f
          → fit_from components phases s c k ≡ false
      go true p false q = fit-here p ∙ rw q
      go true p true q = absurd (clash e (ap₂ (λ (a b : Bool). a && not b) p q))
      go false p f q = absurd (clash e (ap (λ (a : Bool). a && not (entry_fits (bare components phases) opening c (entry_at s k))) p))

pub fit-end : (components phases s : Bytes) (c k : ℕ) → length (components_in components) ≤ c → fit_from components phases s c k ≡ true
unfolding fit_from entries_fit
fit-end components phases s c k h = rw (from_end (components_in components) c h)

-- ---- one entry

-- The lines of one entry, as the code tests them.
pub entry-tested : (components phases : Bytes) (opening c : ℕ) (own : Component) (first : ℕ) (e : Entry)
    → own ≡ component_at (components_in components) c → first ≡ phases_before (components_in components) c → opening ≤ latest
    → (ltb e.phase own.phases && (ltb e.last opening || (eqb opening 0 && eqb e.last 0))
    && not_before opening (due_after e.last (get_or (phases_in phases) (first + e.phase) no_phase).advance))
    ≡ entry_fits (bare components phases) opening c e
unfolding entry_fits due_of advance_of phase_at bare model_in
entry-tested components phases opening c own first e p q h =
    rw (p, q, after-tested opening e.last (get_or (phases_in phases) (phases_before (components_in components) c + e.phase) no_phase).advance h)

-- What the test of one entry says, where its parts are what they should be.
pub tested_at : (components phases s : Bytes) (c k first opening : ℕ) (own : Component) (e : Entry) (due : Time) (r : Bool)
    → own ≡ component_at (components_in components) c → first ≡ phases_before (components_in components) c
    → opening ≡ number_at 8 0 s → opening ≤ latest → e ≡ entry_at s k
    → due ≡ due_after e.last (get_or (phases_in phases) (first + e.phase) no_phase).advance
    → r ≡ (ltb e.phase own.phases && (ltb e.last opening || (eqb opening 0 && eqb e.last 0)) && not_before opening due)
    → r ≡ entry_fits (bare components phases) (number_at 8 0 s) c (entry_at s k)
tested_at components phases s c k first opening own e due r p q o h f d t =
    t ∙ rw d (entry-tested components phases opening c own first e p q h)
    ∙ ap₂ (λ (n : ℕ) (x : Entry). entry_fits (bare components phases) n c x) o f

pub atomic-said : (cs : List Component) (c : ℕ) (own : Component) → own ≡ component_at cs c → eqb own.kind 1 ≡ is_atomic cs c
unfolding is_atomic
atomic-said cs c own e = ap (λ (k : Component). eqb k.kind 1) e

-- One more where it is an atomic, as the code counts.
pub atomic-counted : (cs : List Component) (c : ℕ) (own : Component) (n : ℕ) → own ≡ component_at cs c → n ≡ bool_byte (eqb own.kind 1) → n ≡ cond (is_atomic cs c) 1 0
atomic-counted cs c own n e h = h ∙ ap bool_byte (atomic-said cs c own e) ∙ counted (is_atomic cs c)

-- ---- the whole test

pub fits_said : (components phases s : Bytes) (n : ℕ) → n ≡ length (atomics (components_in components))
    → (leb (head_size + entry_size * n) (length s) && eqb (number_at 2 8 s) n && leb (number_at 8 0 s) 1000000000001 && entries_fit_in components phases s)
    ≡ run_fits (bare components phases) s
unfolding run_fits run_length atomic_count entries_fit_in bare model_in run_of to_run
fits_said components phases s n e = rw e
