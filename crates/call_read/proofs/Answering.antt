-- A reading, from the check of the model to the answer. Assumes nothing.
use mathlib.Core.Path.{◌≡◌, sym, ap, ap₂, ◌∙◌}
use mathlib.Core.List.{[]}
use mathlib.Core.Bool.{true, false}
use Prim.Native.Nat.{ℕ, ◌≤◌, ◌<◌}
use native.Mathlib.Omega.{arith}
use lib.ListN.{length, drop, get_or}
use Rattle.definition.specs.Bytes.{Bytes, ok, refused, chunks}
use Rattle.definition.specs.Limits.{head_size, entry_size}
use Rattle.definition.specs.Model.{Model, atomics}
use Rattle.definition.specs.Pinned.Decoder.{accepted}
use Rattle.definition.specs.SavedRun.{Entry, no_entry, atomic_count, run_of, to_run, to_entry, run_fits, next_due}
use Rattle.definition.specs.Engine.{due_number, read_at, reading}
use Rattle.law_base.proofs.Lists.{get_d_map}
use Rattle.law_bytes.proofs.Rows.{length-rows, get_d_rows}
use Rattle.run_saved.specs.Runs.{entry_at}
use Rattle.law_model.proofs.Answers.{reading-model, reading-run, reading-position, reading_done}

-- ---- refusals

pub read-refused : (file run : Bytes) (position k : ℕ) → refused k ≡ accepted file → record { number = k; phase = 0; last = 0; due = 0 } ≡ reading file run position
read-refused file run position k e = sym (reading-model file run position k (sym e))

module _ (file run : Bytes) (position : ℕ) (m : Model) (e : ok m ≡ accepted file) where
  pub read-unfit : run_fits m run ≡ false → record { number = 10; phase = 0; last = 0; due = 0 } ≡ reading file run position
  read-unfit f = sym (reading-run file run position m (sym e) f)

  module _ (f : run_fits m run ≡ true) where
    pub read_past : length (atomics m.components) ≤ position → record { number = 16; phase = 0; last = 0; due = 0 } ≡ reading file run position
    unfolding atomic_count
    read_past l = sym (reading-position file run position m (sym e) f l)

    pub read_done : position < length (atomics m.components) → read_at (run_of m run).entries position (next_due m (run_of m run).entries) ≡ reading file run position
    unfolding atomic_count
    read_done l = sym (reading_done file run position m (sym e) f l)

-- ---- the answer

entry-is : (m : Model) (run : Bytes) (position : ℕ) → position < length (atomics m.components) → get_or (run_of m run).entries position no_entry ≡ entry_at run position
unfolding run_of to_run atomic_count entry_at
entry-is m run position l =
    let n = length (atomics m.components) in
    get_d_map to_entry (chunks n entry_size (drop head_size run)) position [] no_entry (omega (arith, length-rows entry_size n (drop head_size run)))
    ∙ ap to_entry (get_d_rows entry_size n position (drop head_size run) [] l)

pub answered : (m : Model) (run : Bytes) (position : ℕ) (e : Entry) (due : ℕ) → position < length (atomics m.components) → e ≡ entry_at run position
    → due ≡ due_number (next_due m (run_of m run).entries)
    → record { number = 0; phase = e.phase; last = e.last; due = due } ≡ read_at (run_of m run).entries position (next_due m (run_of m run).entries)
unfolding read_at
answered m run position e due l f d =
    ap₂ (λ (r : Entry) (k : ℕ). record { number = 0; phase = r.phase; last = r.last; due = k }) (f ∙ sym (entry-is m run position l)) d
