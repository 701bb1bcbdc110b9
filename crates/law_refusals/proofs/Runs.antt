-- The engine's test of a saved run passes exactly where document 01's lines on it hold, entry by entry: demand 1 says so, and every call
-- that takes a run stands on it. Assumes nothing.
use mathlib.Core.Path.{◌≡◌, refl, ap}
use Prim.Native.Nat.{ℕ, zero, suc, ◌+◌, ◌≤◌, ◌<◌}
use mathlib.Core.List.{List, [], ◌∷◌}
use mathlib.Core.Bool.{Bool, true, false, false≢true}
use native.Mathlib.Omega.{arith}
use lib.ListN.{length, get_or}
use Rattle.definition.specs.Bytes.{Bytes, number_at}
use Rattle.definition.specs.Limits.{max_moment}
use Rattle.definition.specs.Model.{Model, component_at, atomics}
use Rattle.definition.specs.Devs.{Time, finite, never, later, ticks}
use Rattle.definition.specs.Atomic.{advance_of}
use Rattle.definition.specs.SavedRun.{Entry, no_entry, atomic_count, run_length, run_of, due_of, not_before, entry_fits, entries_fit, run_fits}
use Rattle.definition.specs.Clauses.{EntryFits, RunFits}
use Rattle.law_model.proofs.RunBack.{entry-count}
use Rattle.law_refusals.proofs.Tests.{Decides, less, most, equal, reworded, both, either}

-- ---- an entry

is_finite : Time → Bool
is_finite (finite a) = true
is_finite never = false

-- a moment `last` plus an advance u is not before n
due-test : (n last : ℕ) (u : Time) → Decides (not_before n (later last u)) ((a : ℕ) → u ≡ finite a → n ≤ last + a)
unfolding not_before later ticks is_finite
due-test n last (finite b) = reworded (most n (last + b)) (λ h a e. let d : b ≡ a = ap ticks e in omega arith) (λ h. h b refl)
due-test n last never = record { holds = λ h a e. absurd (false≢true (ap is_finite e)); passes = λ h. refl }

entry-test : (m : Model) (opening c : ℕ) (r : Entry) → Decides (entry_fits m opening c r) (EntryFits m opening c r)
unfolding entry_fits due_of
entry-test m opening c r =
    reworded
    (both
    (both (less r.phase (component_at m.components c).phases) (either (less r.last opening) (both (equal opening 0) (equal r.last 0))))
    (due-test opening r.last (advance_of m c r.phase)))
    (λ h. record { phase = h.0.0; last = h.0.1; due = h.1 }) (λ h. ((h.phase, h.last), h.due))

-- ---- the entries beside the atomics

module _ (m : Model) (opening : ℕ) where
  abbrev Each : List ℕ → List Entry → Type 0
  Each cs rs = (i : ℕ) → i < length cs → EntryFits m opening (get_or cs i 0) (get_or rs i no_entry)

  entries-test : (cs : List ℕ) (rs : List Entry) → length rs ≡ length cs → Decides (entries_fit m opening cs rs) (Each cs rs)
  unfolding entries_fit
  entries-test [] rs e = record { holds = λ h i l. absurd (omega arith); passes = λ h. refl }
  entries-test (c ∷ cs) [] e = absurd (omega arith)
  entries-test (c ∷ cs) (r ∷ rs) e =
      reworded (both (entry-test m opening c r) (entries-test cs rs (omega arith))) split (λ h. (h 0 (omega arith), λ i l. h (suc i) (omega arith)))
    where
      split : EntryFits m opening c r × Each cs rs → Each (c ∷ cs) (r ∷ rs)
      split h zero l = h.0
      split h (suc i) l = h.1 i (omega arith)

-- ---- a run

run-test : (m : Model) (s : Bytes) → Decides (run_fits m s) (RunFits m s)
unfolding run_fits atomic_count
run-test m s =
    let r = run_of m s in
    let n = atomic_count m in
    reworded
    (both (both (both (most (run_length n) (length s)) (equal (number_at 2 8 s) n)) (most r.opening (suc max_moment)))
    (entries-test m r.opening (atomics m.components) r.entries (entry-count m s)))
    (λ h. record { long = h.0.0.0; number_of_atomics = h.0.0.1; opening = h.0.1; entries = h.1 })
    (λ h. (((h.long, h.number_of_atomics), h.opening), h.entries))

pub fits_run : (m : Model) (run : Bytes) → run_fits m run ≡ true → RunFits m run
fits_run m run h = (run-test m run).holds h

pub run_fits_lem : (m : Model) (run : Bytes) → RunFits m run → run_fits m run ≡ true
run_fits_lem m run h = (run-test m run).passes h
