-- What a saved run's code stands for: the model that runs look at, an entry, and the run of a state. Assumes nothing.
use Rattle.std.specs.Prelude.{◌≡◌, ℕ, List, [], map, Bool, drop, get_or, length}
use Rattle.definition.specs.Lists.{concat, up_from}
use Rattle.definition.specs.Bytes.{Bytes}
use Rattle.definition.specs.Limits.{head_size, entry_size, max_components}
use Rattle.definition.specs.Model.{Component, Model, inclusive, component_at, atomics}
use Rattle.definition.specs.SavedRun.{Entry, Run, to_entry, to_run, entry_bytes, run_of, entries_fit}
use Rattle.law_bytes.specs.Parts.{row}
use Rattle.model_records.specs.Values.{model_in}
use Rattle.run_state.specs.declared.State.{State}
use Rattle.run_state.specs.Held.{entries_of}
use Rattle.run_saved.specs.declared.Entry as E

-- A run is judged by a model's components and phases alone.
unfoldable pub bare : Bytes → Bytes → Model
bare components phases = model_in components phases [] [] inclusive

abbrev pub entry_of : E.Entry → Entry
entry_of e = record { phase = e.phase; last = e.last.0 }

-- The entry at a position of a run's bytes.
unfoldable pub entry_at : Bytes → ℕ → Entry
entry_at s i = to_entry (row entry_size i (drop head_size s))

-- The run of the first n atomics of a state.
unfoldable pub run_in : ℕ → ℕ → State → Run
run_in opening n st = record { opening = opening; entries = entries_of n st }

-- The entries of a run, each against its atomic: what is tested of a run besides its length, its count and its open moment.
unfoldable pub entries_fit_in : Bytes → Bytes → Bytes → Bool
entries_fit_in components phases s =
    let m = bare components phases in
    entries_fit m (run_of m s).opening (atomics m.components) (run_of m s).entries

-- The state that the bytes of a run of n atomics hold, with a place for each position.
pub record Loaded (s : Bytes) (n : ℕ) (st : State) : Type 0 where
  pub entries : entries_of n st ≡ (to_run n s).entries
  pub phases : length st.phase ≡ max_components
  pub lasts : length st.last ≡ max_components

-- ---- a state's bytes

abbrev pub held_at : State → ℕ → Entry
held_at st i = record { phase = get_or st.phase i 0; last = get_or st.last i 0 }

-- The bytes of m entries from position i on.
unfoldable pub entry_rows : State → ℕ → ℕ → Bytes
entry_rows st i m = concat (map (λ j. entry_bytes (held_at st j)) (up_from i m))

-- "Start writes 0, the initial phases and last moments 0."
unfoldable pub start_entries : List Component → List Entry
start_entries cs = map (λ c. record { phase = (component_at cs c).initial; last = 0 }) (atomics cs)
