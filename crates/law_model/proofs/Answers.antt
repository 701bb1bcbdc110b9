-- What each call answers, row by row of the table: the demands and the code's own calls both go by these rows. Assumes nothing.
use mathlib.Core.Path.{◌≡◌, ap, ◌∙◌}
use mathlib.Core.Logic.{◌⊎◌, inl, inr}
use Prim.Native.Nat.{ℕ, ◌≤◌, ◌<◌}
use mathlib.Core.List.{List}
use mathlib.Core.Bool.{true, false, ◌||◌}
use native.Mathlib.Omega.{arith}
use lib.Dec.{ltb}
use lib.ListN.{length, length-map}
use borrow.Author.Tests.{lt-ltb, le-ltb, le-leb, lt-leb}
use Rattle.definition.specs.Bytes.{Bytes, ok, refused, stored}
use Rattle.definition.specs.Limits.{max_moment}
use Rattle.definition.specs.Model.{Model, atomics}
use Rattle.definition.specs.File.{model_bytes}
use Rattle.definition.specs.Pinned.Decoder.{accepted}
use Rattle.definition.specs.SavedRun.{Entry, run_length, atomic_count, run_of, run_bytes, next_due, run_fits}
use Rattle.definition.specs.Step.{nested}
use Rattle.definition.specs.Advance.{Ended, advance_from}
use Rattle.definition.specs.Engine.{start_run, start, wrote, read_at, reading, reading_checks, was_read, to_bag, bag_fits, advance_checks, advanced, advance}
use Rattle.definition.specs.Flatten.{flat, flatten}
use Rattle.definition.specs.Demands.{refused_write, refused_reading, refused_advance, opening_of, MayAdvance}
use Rattle.law_base.proofs.Tests.{or_left, or_right}
use Rattle.law_model.proofs.RunBack.{length_run}

-- ---- start

pub start-length : (m : Model) → length (run_bytes (start_run m)) ≡ run_length (atomic_count m)
unfolding start_run atomic_count
start-length m = length_run (start_run m) ∙ ap run_length (length-map (atomics m.components) _)

module _ (file buffer : Bytes) where
  pub start-model : (n : ℕ) → accepted file ≡ refused n → start file buffer ≡ refused_write n buffer
  unfolding start wrote
  start-model n e = rw e

  pub start-short : (m : Model) → accepted file ≡ ok m → length buffer < run_length (atomic_count m) → start file buffer ≡ refused_write 15 buffer
  unfolding start wrote
  start-short m e l = rw (e, lt-ltb (length buffer) (length (run_bytes (start_run m))) (omega (arith, start-length m)))

  pub start_done : (m : Model) → accepted file ≡ ok m → run_length (atomic_count m) ≤ length buffer
      → start file buffer ≡ record { number = 0; written = run_length (atomic_count m); buffer = stored (run_bytes (start_run m)) buffer }
  unfolding start wrote
  start_done m e l = rw (e, le-ltb (length buffer) (length (run_bytes (start_run m))) (omega (arith, start-length m)), ← start-length m)

  -- ---- flatten

  pub flatten-model : (n : ℕ) → accepted file ≡ refused n → flatten file buffer ≡ refused_write n buffer
  unfolding flatten wrote
  flatten-model n e = rw e

  pub flatten-short : (m : Model) → accepted file ≡ ok m → length buffer < length (model_bytes (flat m)) → flatten file buffer ≡ refused_write 15 buffer
  unfolding flatten wrote
  flatten-short m e l = rw (e, lt-ltb _ _ l)

  pub flatten_done : (m : Model) → accepted file ≡ ok m → length (model_bytes (flat m)) ≤ length buffer
      → flatten file buffer ≡ record { number = 0; written = length (model_bytes (flat m)); buffer = stored (model_bytes (flat m)) buffer }
  unfolding flatten wrote
  flatten_done m e l = rw (e, le-ltb _ _ l)

-- ---- reading

module _ (file run : Bytes) (position : ℕ) where
  pub reading-model : (n : ℕ) → accepted file ≡ refused n → reading file run position ≡ refused_reading n
  unfolding reading was_read
  reading-model n e = rw e

  pub reading-run : (m : Model) → accepted file ≡ ok m → run_fits m run ≡ false → reading file run position ≡ refused_reading 10
  unfolding reading was_read reading_checks
  reading-run m e f = rw (e, f)

  pub reading-position : (m : Model) → accepted file ≡ ok m → run_fits m run ≡ true → atomic_count m ≤ position → reading file run position ≡ refused_reading 16
  unfolding reading was_read reading_checks
  reading-position m e f l = rw (e, f, le-leb (atomic_count m) position l)

  pub reading_done : (m : Model) → accepted file ≡ ok m → run_fits m run ≡ true → position < atomic_count m
      → reading file run position ≡ read_at (run_of m run).entries position (next_due m (run_of m run).entries)
  unfolding reading was_read reading_checks
  reading_done m e f l = rw (e, f, lt-leb (atomic_count m) position l)

-- ---- advance

-- a moment that is open, and not too late
pub in_time : (m : Model) (run : Bytes) (t : ℕ) → opening_of m run ≤ t → t ≤ max_moment → ltb t (run_of m run).opening || ltb max_moment t ≡ false
in_time m run t o l = rw (le-ltb t (run_of m run).opening o, le-ltb max_moment t l)

-- where its instants end, if no check refuses it
abbrev pub end_of : Model → Bytes → ℕ → Bytes → Bytes → Ended (List Entry)
end_of m run t bag trace = advance_from (nested m) (length trace) t (to_bag bag) (opening_of m run) (run_of m run).entries

module _ (file run : Bytes) (t : ℕ) (bag trace table : Bytes) where
  pub advance-model : (n : ℕ) → accepted file ≡ refused n → advance file run t bag trace table ≡ refused_advance n run trace table
  unfolding advance advanced
  advance-model n e = rw e

  pub advance-run : (m : Model) → accepted file ≡ ok m → run_fits m run ≡ false → advance file run t bag trace table ≡ refused_advance 10 run trace table
  unfolding advance advanced advance_checks
  advance-run m e f = rw (e, f)

  pub advance-time : (m : Model) → accepted file ≡ ok m → run_fits m run ≡ true → (t < opening_of m run) ⊎ (max_moment < t)
      → advance file run t bag trace table ≡ refused_advance 11 run trace table
  unfolding advance advanced advance_checks
  advance-time m e f (inl l) = rw (e, f, or_left (ltb t (run_of m run).opening) (ltb max_moment t) (lt-ltb _ _ l))
  advance-time m e f (inr l) = rw (e, f, or_right (ltb t (run_of m run).opening) (ltb max_moment t) (lt-ltb _ _ l))

  pub advance-bag : (m : Model) → accepted file ≡ ok m → run_fits m run ≡ true → opening_of m run ≤ t → t ≤ max_moment → bag_fits bag ≡ false
      → advance file run t bag trace table ≡ refused_advance 12 run trace table
  unfolding advance advanced advance_checks
  advance-bag m e f o l g = rw (e, f, in_time m run t o l, g)

  pub advance-done : (m : Model) → accepted file ≡ ok m → MayAdvance m run t bag → advance file run t bag trace table ≡ advanced run trace table (ok (end_of m run t bag trace))
  unfolding advance advance_checks
  advance-done m e h = rw (e, h.run_fits_lem, in_time m run t h.not_early h.not_late, h.bag_fits_lem)
