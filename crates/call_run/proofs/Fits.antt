-- A run is judged by a model's components and phases, and an accepted model has few components. Assumes nothing.
use mathlib.Core.Path.{◌≡◌, refl, sym, ap}
use mathlib.Core.List.{List, [], ◌∷◌}
use mathlib.Core.Bool.{◌&&◌}
use Prim.Native.Nat.{ℕ, ◌≤◌, ◌<◌}
use lib.ListN.{length, get_or}
use Rattle.definition.specs.Bytes.{Bytes, ok}
use Rattle.definition.specs.Limits.{max_components}
use Rattle.definition.specs.Model.{RangeReading, atomics, phase_at}
use Rattle.definition.specs.Pinned.Decoder.{accepted}
use Rattle.definition.specs.Atomic.{advance_of}
use Rattle.definition.specs.SavedRun.{Entry, atomic_count, run_of, due_of, entry_fits, entries_fit, run_fits}
use Rattle.law_bytes.proofs.Slices.{all-bytes}
use Rattle.law_model.proofs.Reading.{accepted_sound}
use Rattle.model_records.specs.Values.{components_in, model_in}
use Rattle.model_file.specs.Checked.{model_of, components_part, phases_part}
use Rattle.model_file.specs.declared.Counts.{Counts}
use Rattle.run_saved.specs.Runs.{bare}

-- An accepted model has no more components than there may be.
pub few-components : (file : Bytes) (n : Counts) → ((i : ℕ) → get_or file i 0 < 256) → ok (model_of file n) ≡ accepted file
    → length (components_in (components_part file n)) ≤ max_components
unfolding model_of model_in
few-components file n h e = (accepted_sound file (model_of file n) (all-bytes file h) (sym e)).sound.components.few

-- A run is judged by components and phases alone.
module _ (components phases rules couplings : Bytes) (ranges : RangeReading) where
  entries-alone : (o : ℕ) (cs : List ℕ) (rs : List Entry) → entries_fit (bare components phases) o cs rs ≡ entries_fit (model_in components phases rules couplings ranges) o cs rs
  unfolding entries_fit entry_fits due_of advance_of phase_at bare model_in
  entries-alone o [] rs = refl
  entries-alone o (c ∷ cs) [] = refl
  entries-alone o (c ∷ cs) (r ∷ rs) = ap (λ b. entry_fits (model_in components phases rules couplings ranges) o c r && b) (entries-alone o cs rs)

  fits-alone : (s : Bytes) → run_fits (bare components phases) s ≡ run_fits (model_in components phases rules couplings ranges) s
  unfolding run_fits run_of atomic_count bare model_in
  fits-alone s = rw (entries-alone _ (atomics (components_in components)) _)

pub fits-file : (file s : Bytes) (n : Counts) → run_fits (bare (components_part file n) (phases_part file n)) s ≡ run_fits (model_of file n) s
unfolding model_of
fits-file file s n = fits-alone (components_part file n) (phases_part file n) _ _ _ s
