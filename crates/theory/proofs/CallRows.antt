-- Each row of the table for a call gives its number and changes no lent byte, and each number above 0 comes from its row. The numbers of a
-- model file are those of `Judged` (crate law_refusals). Assumes nothing.
use mathlib.Core.Path.{◌≡◌, refl, sym, ap, subst}
use Prim.Native.Nat.{ℕ, ◌≤◌, ◌<◌}
use mathlib.Core.Bool.{Bool, true, false}
use native.Mathlib.Omega.{arith}
use lib.Dec.{ltb, leb}
use lib.ListN.{length}
use borrow.Author.Tests.{ltb-true, ltb-false, leb-true}
use Rattle.definition.specs.Bytes.{Bytes, AllBytes, Result, ok, refused, number_of}
use Rattle.definition.specs.Model.{Model}
use Rattle.definition.specs.File.{model_bytes}
use Rattle.definition.specs.Pinned.Decoder.{accepted, check_model}
use Rattle.definition.specs.Refusals.{Judged}
use Rattle.definition.specs.SavedRun.{run_length, atomic_count, run_fits}
use Rattle.definition.specs.Engine.{Wrote, start, advance, reading, reading_checks, read_at, was_read}
use Rattle.definition.specs.Flatten.{flat, flatten}
use Rattle.definition.specs.Demands.{refused_write, refused_advance, refused_reading, WriterRefusal, StartRefusal, FlattenRefusal, ReadingRefusal, AdvanceRefusal, writer_refuses_model, writer_refuses_buffer, reading_refuses_model, reading_refuses_run, reading_refuses_position, advance_refuses_model, advance_refuses_run, advance_refuses_time, advance_refuses_bag}
use Rattle.law_model.proofs.Refusals.{Positive, accepted-positive}
use Rattle.law_refusals.proofs.Judged.{judged, judged-only}
use Rattle.law_model.proofs.Answers.{start-short, start_done, reading-position, advance-time, advance-bag, start-model, flatten-model, flatten-short, flatten_done, reading-model, reading-run, advance-model, advance-run}

-- ---- the model's number

number-refused : {A : Type 0} (r : Result A) (n : ℕ) → 0 < n → number_of r ≡ n → r ≡ refused n
number-refused (ok a) n l e = absurd (omega arith)
number-refused (refused k) n l e = ap refused e

-- a row of the model's table refuses the file
pub by_row : (file : Bytes) (n : ℕ) → 0 < n → Judged file n → accepted file ≡ refused n
unfolding check_model
by_row file n l j = number-refused (accepted file) n l (judged-only file n j)

-- and where it is refused, it is by such a row
pub row-of : (file : Bytes) (n : ℕ) → AllBytes file → accepted file ≡ refused n → (0 < n) × Judged file n
unfolding check_model
row-of file n b e = (subst Positive e (accepted-positive file), subst (Judged file) (ap number_of e) (judged file b))

-- ---- a writer, by what it does with a model that is refused, with a buffer too short and with one long enough

module _ (long : Model → ℕ) (file buffer : Bytes) (w : Wrote) (model : (n : ℕ) → accepted file ≡ refused n → w ≡ refused_write n buffer)
    (short : (m : Model) → accepted file ≡ ok m → length buffer < long m → w ≡ refused_write 15 buffer)
    (done : (m : Model) → accepted file ≡ ok m → long m ≤ length buffer → w.number ≡ 0) where
  writer-refused : (n : ℕ) → WriterRefusal long file buffer n → w ≡ refused_write n buffer
  writer-refused n (writer_refuses_model k l j) = model k (by_row file k l j)
  writer-refused n (writer_refuses_buffer m e l) = short m e l

  writer-number : AllBytes file → 0 < w.number → WriterRefusal long file buffer w.number
  writer-number b l = go (accepted file) refl
    where
      refusal : (n : ℕ) → w ≡ refused_write n buffer → WriterRefusal long file buffer n → WriterRefusal long file buffer w.number
      refusal n e h = subst (WriterRefusal long file buffer) (sym (ap (λ z. z.number) e)) h

      go : (r : Result Model) → accepted file ≡ r → WriterRefusal long file buffer w.number
      go (refused n) e = let h = row-of file n b e in refusal n (model n e) (writer_refuses_model n h.0 h.1)
      go (ok m) e = room (ltb (length buffer) (long m)) refl
        where
          room : (c : Bool) → ltb (length buffer) (long m) ≡ c → WriterRefusal long file buffer w.number
          room true f = let s = ltb-true (length buffer) (long m) f in refusal 15 (short m e s) (writer_refuses_buffer m e s)
          room false f = absurd (omega (arith, l, done m e (ltb-false (length buffer) (long m) f)))

module _ (file buffer : Bytes) where
  start-long : (m : Model) → accepted file ≡ ok m → run_length (atomic_count m) ≤ length buffer → (start file buffer).number ≡ 0
  start-long m e l = ap (λ w. w.number) (start_done file buffer m e l)

  pub start_refused : (n : ℕ) → StartRefusal file buffer n → start file buffer ≡ refused_write n buffer
  start_refused = writer-refused _ file buffer (start file buffer) (start-model file buffer) (start-short file buffer) start-long

  pub start_number : AllBytes file → 0 < (start file buffer).number → StartRefusal file buffer (start file buffer).number
  start_number = writer-number _ file buffer (start file buffer) (start-model file buffer) (start-short file buffer) start-long

  flatten-long : (m : Model) → accepted file ≡ ok m → length (model_bytes (flat m)) ≤ length buffer → (flatten file buffer).number ≡ 0
  flatten-long m e l = ap (λ w. w.number) (flatten_done file buffer m e l)

  pub flatten_refused : (n : ℕ) → FlattenRefusal file buffer n → flatten file buffer ≡ refused_write n buffer
  flatten_refused = writer-refused _ file buffer (flatten file buffer) (flatten-model file buffer) (flatten-short file buffer) flatten-long

  pub flatten_number : AllBytes file → 0 < (flatten file buffer).number → FlattenRefusal file buffer (flatten file buffer).number
  flatten_number = writer-number _ file buffer (flatten file buffer) (flatten-model file buffer) (flatten-short file buffer) flatten-long

-- ---- reading

module _ (file run : Bytes) (at : ℕ) where
  reading-fine : (m : Model) → accepted file ≡ ok m → run_fits m run ≡ true → leb (atomic_count m) at ≡ false → (reading file run at).number ≡ 0
  unfolding reading was_read reading_checks read_at
  reading-fine m e f l = rw (e, f, l)

  pub reading_refused : (n : ℕ) → ReadingRefusal file run at n → reading file run at ≡ refused_reading n
  reading_refused n (reading_refuses_model k l j) = reading-model file run at k (by_row file k l j)
  reading_refused n (reading_refuses_run m e f) = reading-run file run at m e f
  reading_refused n (reading_refuses_position m e f l) = reading-position file run at m e f l

  pub reading_number : AllBytes file → 0 < (reading file run at).number → ReadingRefusal file run at (reading file run at).number
  reading_number b l = go (accepted file) refl
    where
      refusal : (r : ℕ) → (reading file run at).number ≡ r → ReadingRefusal file run at r → ReadingRefusal file run at (reading file run at).number
      refusal r e h = subst (ReadingRefusal file run at) (sym e) h

      go : (r : Result Model) → accepted file ≡ r → ReadingRefusal file run at (reading file run at).number
      go (refused n) e = let h = row-of file n b e in refusal n (ap (λ w. w.number) (reading-model file run at n e)) (reading_refuses_model n h.0 h.1)
      go (ok m) e = rows (run_fits m run) refl (leb (atomic_count m) at) refl
        where
          rows : (c : Bool) → run_fits m run ≡ c → (d : Bool) → leb (atomic_count m) at ≡ d → ReadingRefusal file run at (reading file run at).number
          rows false f d g = refusal 10 (ap (λ w. w.number) (reading-run file run at m e f)) (reading_refuses_run m e f)
          rows true f true g = let s = leb-true (atomic_count m) at g in refusal 16 (ap (λ w. w.number) (reading-position file run at m e f s)) (reading_refuses_position m e f s)
          rows true f false g = absurd (omega (arith, l, reading-fine m e f g))

-- ---- advance, before any instant

module _ (file run : Bytes) (t : ℕ) (given trace table : Bytes) where
  pub advance_refused : (n : ℕ) → AdvanceRefusal file run t given n → advance file run t given trace table ≡ refused_advance n run trace table
  advance_refused n (advance_refuses_model k l j) = advance-model file run t given trace table k (by_row file k l j)
  advance_refused n (advance_refuses_run m e f) = advance-run file run t given trace table m e f
  advance_refused n (advance_refuses_time m e f l) = advance-time file run t given trace table m e f l
  advance_refused n (advance_refuses_bag m e f o l g) = advance-bag file run t given trace table m e f o l g
