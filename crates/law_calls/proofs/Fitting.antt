-- Every start and every advance leaves a run that fits the model and reads back as the run that was meant. Assumes nothing.
use mathlib.Core.Path.{◌≡◌, refl, sym, ap, ◌∙◌}
use Prim.Native.Nat.{ℕ, suc, ◌^◌, ◌≤◌, ◌<◌}
use mathlib.Core.List.{List, [], ◌∷◌, ◌++◌, map}
use mathlib.Core.Bool.{true, ◌&&◌}
use native.Mathlib.Omega.{arith}
use lib.Dec.{leb, ltb, eqb}
use lib.ListN.{length, length-append}
use borrow.Author.Tests.{ltb-true, leb-true, le-leb, lt-ltb, le-ltb, eq-eqb, eqb-true}
use Rattle.definition.specs.Lists.{all}
use Rattle.definition.specs.Bytes.{Bytes, AllBytes, Result, ok, refused, ◌>>=◌, number_at, stored}
use Rattle.definition.specs.Limits.{max_moment, max_own_phases}
use Rattle.definition.specs.Model.{Bag, Model, component_at, is_atomic, atomics}
use Rattle.definition.specs.Devs.{Time, finite, never}
use Rattle.definition.specs.SavedRun.{Entry, Run, run_length, to_entry, to_run, entry_bytes, run_bytes, not_before, entry_fits, entries_fit, atomic_count, run_of, run_fits}
use Rattle.definition.specs.Step.{nested}
use Rattle.definition.specs.Advance.{advance_from}
use Rattle.definition.specs.Pinned.Decoder.{atomic_fields, accepted}
use Rattle.definition.specs.Engine.{start_run, start, wrote, advance_checks, advanced, advance, to_bag}
use Rattle.law_base.proofs.Tests.{and_left, and_right, and-true}
use Rattle.law_base.proofs.Lists.{all_head, all_tail}
use Rattle.law_model.proofs.WellFormed.{WellFormed}
use Rattle.law_model.proofs.Reading.{accepted_sound}
use Rattle.law_model.proofs.RunBack.{entry-back, length_run, count-back, run-back}
use Rattle.law_model.proofs.Answers.{start-length}
use Rattle.law_nest.proofs.Pairs.{Pairs, pairs-length}
use Rattle.law_nest.proofs.Components.{atomic-fields, atomics-atomic}
use Rattle.law_flat.proofs.Checks.{entry-fresh, run_length_lem, advance-ok}
use Rattle.law_flat.proofs.FlatComponents.{few-atomics}
use Rattle.law_calls.proofs.Lift.{advance-alike}
use Rattle.law_calls.proofs.Kept.{Fit, entry-phase}
use Rattle.law_calls.proofs.BagOrder.{agree-order}

-- a run that fits, as entries
abbrev pub FitRun : Model → Run → Type 0
FitRun m r = Fit m r.opening r.entries × (r.opening ≤ suc max_moment)

-- ---- from bytes

to-pairs : (m : Model) (o : ℕ) (cs : List ℕ) (rs : List Entry) → length rs ≡ length cs → entries_fit m o cs rs ≡ true → Pairs (λ c r. entry_fits m o c r ≡ true) cs rs
unfolding entries_fit
to-pairs m o [] [] e h = tt
to-pairs m o [] (r ∷ rs) e h = absurd (omega arith)
to-pairs m o (c ∷ cs) [] e h = absurd (omega arith)
to-pairs m o (c ∷ cs) (r ∷ rs) e h = (and_left (entry_fits m o c r) _ h, to-pairs m o cs rs (omega arith) (and_right (entry_fits m o c r) _ h))

pub fits_run : (m : Model) (s : Bytes) → run_fits m s ≡ true → FitRun m (run_of m s) × (run_length (atomic_count m) ≤ length s) × (number_at 2 8 s ≡ atomic_count m)
unfolding run_fits
fits_run m s h =
    let r = run_of m s in
    let a = leb (run_length (atomic_count m)) (length s) in
    let b = eqb (number_at 2 8 s) (atomic_count m) in
    let c = leb r.opening (suc max_moment) in
    let k = and_left (a && b && c) _ h in
    let j = and_left (a && b) c k in (
      (to-pairs m r.opening (atomics m.components) r.entries (run_length_lem m s) (and_right (a && b && c) _ h), leb-true r.opening (suc max_moment) (and_right (a && b) c k)),
      leb-true (run_length (atomic_count m)) (length s) (and_left a b j),
      eqb-true (number_at 2 8 s) (atomic_count m) (and_right a b j),
    )

-- ---- to bytes

from-pairs : (m : Model) (o : ℕ) (cs : List ℕ) (rs : List Entry) → Pairs (λ c r. entry_fits m o c r ≡ true) cs rs → entries_fit m o cs rs ≡ true
unfolding entries_fit
from-pairs m o [] [] h = refl
from-pairs m o [] (r ∷ rs) h = absurd h
from-pairs m o (c ∷ cs) [] h = absurd h
from-pairs m o (c ∷ cs) (r ∷ rs) h = and-true _ _ h.0 (from-pairs m o cs rs h.1)

module _ (m : Model) (w : WellFormed m) where
  few-phases : (c : ℕ) → is_atomic m.components c ≡ true → (component_at m.components c).phases ≤ max_own_phases
  unfolding atomic_fields
  few-phases c e =
      let k = component_at m.components c in
      let b = leb k.phases max_own_phases in
      let i = ltb k.initial k.phases in
      let f = atomic-fields m.components w.components.fit w.some_component c e in
      leb-true k.phases max_own_phases (and_right (leb 1 k.phases) b (and_left (leb 1 k.phases && b) i (and_left (leb 1 k.phases && b && i) _ f)))

  -- the bytes hold the fields of entries that fit
  held : (o : ℕ) (cs : List ℕ) (rs : List Entry) → o ≤ suc max_moment → all (is_atomic m.components) cs ≡ true → Pairs (λ c r. entry_fits m o c r ≡ true) cs rs
      → map (λ e. to_entry (entry_bytes e)) rs ≡ rs
  unfolding all
  held o [] [] l a h = refl
  held o [] (r ∷ rs) l a h = absurd h
  held o (c ∷ cs) [] l a h = absurd h
  held o (c ∷ cs) (r ∷ rs) l a h =
      let few = few-phases c (and_left (is_atomic m.components c) _ a) in
      let p = entry-phase m o c r h.0 in
      let e = (entry-fresh m o c r h.0).0 in
      λ i. entry-back r (omega arith) (omega arith) i ∷ held o cs rs l (and_right (is_atomic m.components c) _ a) h.1 i

  -- a run that fits, written at the front of any bytes, is a run that fits
  pub fit_written : (r : Run) (rest : Bytes) → FitRun m r → (run_fits m (run_bytes r ++ rest) ≡ true) × (run_of m (run_bytes r ++ rest) ≡ r)
  unfolding run_fits run_of atomic_count
  fit_written r rest h =
      let L = atomics m.components in
      let n : length r.entries ≡ length L = pairs-length _ L r.entries h.0 in
      let f : length r.entries < 256 ^ 2 = omega (arith, few-atomics m w, w.components.few) in
      let o : r.opening < 256 ^ 8 = omega (arith, h.1) in
      let s = run_bytes r ++ rest in
      let back : to_run (length L) s ≡ r = ap (λ k. to_run k s) (sym n) ∙ run-back r rest o (held r.opening L r.entries h.1 (atomics-atomic m.components w.components.fit w.some_component) h.0) in
      let long : run_length (length L) ≤ length s = omega (arith, length-append (run_bytes r) rest, length_run r, ap run_length n) in (
        rw (back, le-leb _ _ long, count-back r rest f ∙ n, eq-eqb (length L) (length L) refl, le-leb _ _ h.1) (from-pairs m r.opening L r.entries h.0),
        back,
      )

  -- ---- the calls

  -- where an advance ends, the run fits
  pub advance-fit : (run : Bytes) (t : ℕ) (room : ℕ) (x : Bag) → run_fits m run ≡ true → (run_of m run).opening ≤ t → t ≤ max_moment
      → (let p = (advance_from (nested m) room t x (run_of m run).opening (run_of m run).entries).progress in FitRun m (record { opening = p.opening; entries = p.state }))
  advance-fit run t room x h o l =
      let a = advance-alike (agree-order m w) room t x x (λ p. refl) (run_of m run).opening (run_of m run).entries (run_of m run).entries (refl, (fits_run m run h).0.0) o in
      (a.1.state.1, omega (arith, a.2))

  initial-own : (c : ℕ) → is_atomic m.components c ≡ true → (component_at m.components c).initial < (component_at m.components c).phases
  unfolding atomic_fields
  initial-own c e =
      let k = component_at m.components c in
      let g = leb 1 k.phases && leb k.phases max_own_phases in
      ltb-true k.initial k.phases (and_right g _ (and_left (g && ltb k.initial k.phases) _ (atomic-fields m.components w.components.fit w.some_component c e)))

  -- the run that a start writes
  pub start-run : FitRun m (start_run m)
  unfolding start_run entry_fits
  start-run = (go (atomics m.components) (atomics-atomic m.components w.components.fit w.some_component), omega arith)
    where
      from_zero : (u : Time) → not_before 0 u ≡ true
      from_zero (finite a) = unfold not_before in (le-leb 0 a (omega arith))
      from_zero never = unfold not_before in refl

      go : (cs : List ℕ) → all (is_atomic m.components) cs ≡ true
          → Pairs (λ c e. entry_fits m 0 c e ≡ true) cs (map (λ c. record { phase = (component_at m.components c).initial; last = 0 }) cs)
      go [] h = tt
      go (c ∷ cs) h = (
        and-true _ _ (and-true _ _ (lt-ltb _ _ (initial-own c (all_head (is_atomic m.components) c cs h))) refl) (from_zero _),
        go cs (all_tail (is_atomic m.components) c cs h),
      )

pub advance_fits_lem : (file run : Bytes) (t : ℕ) (bag trace table : Bytes) (m : Model) → AllBytes file → accepted file ≡ ok m → run_fits m run ≡ true
    → run_fits m (advance file run t bag trace table).run ≡ true
unfolding advance advanced stored
advance_fits_lem file run t bag trace table m b e h = rw e (go (advance_checks m run t bag) refl)
  where
    w : WellFormed m
    w = (accepted_sound file m b e).sound

    go : (r : Result (Unit {0})) → advance_checks m run t bag ≡ r
        → run_fits m (advanced run trace table (advance_checks m run t bag >>= λ _. ok (advance_from (nested m) (length trace) t (to_bag bag) (run_of m run).opening (run_of m run).entries))).run ≡ true
    go (refused n) f = rw f h
    go (ok u) f = let c = advance-ok m run t bag f in rw f (fit_written m w _ _ (advance-fit m w run t (length trace) (to_bag bag) h c.not_early c.not_late)).0

pub start_fits : (file buffer : Bytes) (m : Model) → AllBytes file → accepted file ≡ ok m → run_length (atomic_count m) ≤ length buffer
    → run_fits m (start file buffer).buffer ≡ true
unfolding start wrote stored
start_fits file buffer m b e h =
    let w = (accepted_sound file m b e).sound in
    let l : length (run_bytes (start_run m)) ≤ length buffer = omega (arith, start-length m) in
    rw (e, le-ltb (length buffer) (length (run_bytes (start_run m))) l) (fit_written m w (start_run m) _ (start-run m w)).0
