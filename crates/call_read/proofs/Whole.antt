-- The next due moment of the whole model, by the tables that a call fills: where the model is accepted and the run fits, it is the
-- definition's. Assumes nothing.
use mathlib.Core.Path.{◌≡◌, sym, ap, ◌∙◌, subst}
use mathlib.Core.Bool.{true}
use mathlib.Core.List.{List}
use Prim.Native.Nat.{ℕ, ◌<◌}
use native.Mathlib.Omega.{arith}
use lib.ListN.{length, get_or}
use Rattle.definition.specs.Bytes.{Bytes, ok}
use Rattle.definition.specs.Model.{atomics}
use Rattle.definition.specs.Pinned.Decoder.{accepted}
use Rattle.run_saved.specs.Runs.{Loaded}
use Rattle.definition.specs.SavedRun.{atomic_count, run_of, to_run, next_due, run_fits}
use Rattle.definition.specs.Engine.{due_number}
use Rattle.model_records.specs.Values.{phases_in, model_in}
use Rattle.model_file.specs.Checked.{model_of, phases_part}
use Rattle.model_file.specs.declared.Counts.{Counts}
use Rattle.run_state.specs.declared.State.{State}
use Rattle.run_state.specs.Held.{entries_of}
use Rattle.spec_step.specs.TableStep.{table_next}
use Rattle.spec_step.specs.Ranges.{Seated}
use Rattle.spec_step.specs.TablesOf.{TablesOf}
use Rattle.spec_step.specs.Carried.{Carried, next_end}
use Rattle.law_step.proofs.Carried.{next-carried}
use Rattle.law_tables.proofs.Calls.{next-on-tables}
use Rattle.accept_tables.proofs.Accepted.{fine}

-- The next due moment, by what the code has: the model's tables, a state that holds the run's entries, and its carried due moments.
pub due-whole : (file : Bytes) (n : Counts) → ((i : ℕ) → get_or file i 0 < 256) → ok (model_of file n) ≡ accepted file → (run : Bytes) (t : List ℕ) → TablesOf (model_of file n) t
    → (st : State) (count : ℕ) → run_fits (model_of file n) run ≡ true → count ≡ length (atomics (model_of file n).components) → Loaded run count st
    → (ps : Bytes) (ends : List ℕ) → ps ≡ phases_part file n → Carried (phases_in ps) t count st ends
    → next_end t ends ≡ due_number (next_due (model_of file n) (run_of (model_of file n) run).entries)
unfolding model_of model_in run_of atomic_count
due-whole file n bytes told run t h st count f e loaded ps ends p c =
    let m = model_of file n in
    let w = (fine file n bytes told).sound in
    next-carried (phases_in ps) t count st ends c h.in_range (subst (λ k. Seated k t) (sym e) h.seated)
    ∙ ap (λ p. due_number (table_next (phases_in p) t st)) p
    ∙ ap due_number (next-on-tables m w t h.tabled run st (ap (λ k. entries_of k st) (sym e) ∙ loaded.entries ∙ ap (λ k. (to_run k run).entries) e)
    (omega (arith, h.few, loaded.phases)) (omega (arith, h.few, loaded.lasts)) f)
