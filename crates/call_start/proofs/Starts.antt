-- A start, from the check of the model to the whole buffer. Assumes nothing.
use mathlib.Core.Path.{◌≡◌, sym, ap, ◌∙◌}
use mathlib.Core.List.{[]}
use Prim.Native.Nat.{ℕ, ◌≤◌, ◌<◌}
use lib.ListN.{length}
use borrow.Author.Tests.{lt-ltb, le-ltb}
use Rattle.definition.specs.Bytes.{Bytes, ok, refused, stored}
use Rattle.definition.specs.Model.{atomics}
use Rattle.definition.specs.Pinned.Decoder.{accepted}
use Rattle.definition.specs.SavedRun.{run_length, run_bytes, atomic_count}
use Rattle.definition.specs.Engine.{wrote, start_run, start}
use Rattle.law_model.proofs.Answers.{start-model}
use Rattle.law_model.proofs.Answers as Answers
use Rattle.model_records.specs.Values.{components_in, model_in}
use Rattle.model_file.specs.Checked.{model_of, components_part}
use Rattle.model_file.specs.declared.Counts.{Counts}
use Rattle.run_state.specs.declared.State.{State}
use Rattle.run_state.specs.Held.{entries_of}
use Rattle.run_saved.specs.Runs.{bare, run_in, start_entries}

pub start_refused : (file buffer : Bytes) (n : ℕ) → refused n ≡ accepted file → record { number = n; written = 0; buffer = buffer } ≡ start file buffer
start_refused file buffer n e = sym (start-model file buffer n (sym e))

pub start-accepted : (file buffer : Bytes) (n : Counts) → ok (model_of file n) ≡ accepted file
    → wrote buffer (ok (run_bytes (start_run (bare (components_part file n) [])))) ≡ start file buffer
unfolding start start_run model_of model_in bare
start-accepted file buffer n e = rw (← e)

-- ---- the run

module _ (buffer b : Bytes) where
  pub wrote-short : length buffer < length b → record { number = 15; written = 0; buffer = buffer } ≡ wrote buffer (ok b)
  unfolding wrote
  wrote-short h = rw (lt-ltb (length buffer) (length b) h)

  pub wrote-whole : (size : ℕ) (after : Bytes) → size ≡ length b → after ≡ stored b buffer → length b ≤ length buffer
      → record { number = 0; written = size; buffer = after } ≡ wrote buffer (ok b)
  unfolding wrote
  wrote-whole size after e f h = rw (e, f, le-ltb (length buffer) (length b) h)

module _ (components : Bytes) (n : ℕ) (count : n ≡ length (atomics (components_in components))) where
  pub start-length : length (run_bytes (start_run (bare components []))) ≡ run_length n
  unfolding atomic_count bare model_in
  start-length = Answers.start-length (bare components []) ∙ ap run_length (sym count)

  pub start-run-is : (st : State) → entries_of (length (atomics (components_in components))) st ≡ start_entries (components_in components)
      → run_in 0 n st ≡ start_run (bare components [])
  unfolding run_in start_run start_entries bare model_in
  start-run-is st e = λ i. record { opening = 0; entries = (ap (λ k. entries_of k st) count ∙ e) i }
