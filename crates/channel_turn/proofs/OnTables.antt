-- The instants of a turn on the parts of the file, the model's tables and the state that its run was loaded into. Assumes nothing.
use mathlib.Core.Path.{◌≡◌, refl, sym, ap, ◌∙◌}
use mathlib.Core.List.{List, []}
use mathlib.Core.Bool.{Bool, true, false, ◌||◌, cond}
use Prim.Native.Nat.{ℕ, zero, suc, ◌*◌, ◌≤◌, ◌<◌}
use native.Mathlib.Omega.{arith}
use lib.Dec.{ltb, eqb}
use lib.ListN.{length, get_or}
use borrow.Author.Tests.{lt-ltb}
use Rattle.definition.specs.Lists.{concat}
use Rattle.definition.specs.Bytes.{Bytes, ok, stored}
use Rattle.definition.specs.Limits.{max_given, position_size}
use Rattle.definition.specs.Routes.{routes}
use Rattle.definition.specs.Pinned.Decoder.{accepted}
use Rattle.definition.specs.SavedRun.{atomic_count, run_of, to_run}
use Rattle.definition.specs.Engine.{advance_checks, table_bytes, advanced}
use Rattle.law_model.proofs.Reading.{accepted_sound}
use Rattle.law_bytes.proofs.Slices.{all-bytes}
use Rattle.law_tables.proofs.Calls.{turn-on-tables}
use Rattle.model_records.specs.Values.{model_in}
use Rattle.model_file.specs.Checked.{model_of, phases_part, rules_part}
use Rattle.model_file.specs.declared.Counts.{Counts}
use Rattle.run_state.specs.declared.State.{State}
use Rattle.run_state.specs.Held.{entries_of, held_end}
use Rattle.spec_step.specs.TablesOf.{TablesOf}
use Rattle.spec_step.specs.Tables.{atomics_in}
use Rattle.run_saved.specs.Runs.{Loaded}
use Rattle.instant_steps.specs.Sim.{rules_shown}
use Rattle.instant_loop.specs.Ends.{table_left, turned_by}
use Rattle.channel_turn.specs.Turns.{turned_from}

-- No table is lent: none is left.
pub no_table : (tables w : List ℕ) (instants : ℕ) → table_left tables w instants [] ≡ []
unfolding table_left
no_table tables w instants = go (eqb instants 0) (atomics_in tables)
  where
    go : (b : Bool) (n : ℕ) → cond (b || ltb 0 (position_size * n)) [] (stored (table_bytes (rules_shown n w)) []) ≡ []
    go true n = refl
    go false zero = unfold rules_shown table_bytes concat stored in refl
    go false (suc n) = rw (lt-ltb 0 (position_size * suc n) (omega arith))

module _ (file : Bytes) (n : Counts) (bytes : (i : ℕ) → get_or file i 0 < 256) (told : ok (model_of file n) ≡ accepted file) where
  pub turn-parts : (run : Bytes) (t has : ℕ) (bag : Bytes) → advance_checks (model_of file n) run t bag ≡ ok tt → (tables : List ℕ) → TablesOf (model_of file n) tables
      → (trace : Bytes) → ((i : ℕ) → get_or bag i 0 < 256) → (st : State) → Loaded run (atomics_in tables) st → (room : ℕ) → max_given * length (routes (model_of file n)) ≤ room
      → (ps rs : Bytes) → ps ≡ phases_part file n → rs ≡ rules_part file n
      → turned_by ps rs tables room has t bag run st trace [] ≡ turned_from (model_of file n) t has run bag trace
  unfolding model_of model_in run_of to_run atomic_count held_end
  turn-parts run t has bag c tables h trace given st loaded room enough ps rs p q =
      let e = h.tabled.atomic_count_lem in
      let sound = (accepted_sound file (model_of file n) (all-bytes file bytes) (sym told)).sound in
      rw (p, q, e)
      (ap (λ x. advanced run trace [] (ok x))
      (sym (turn-on-tables (model_of file n) sound tables h.tabled run st (ap (λ k. entries_of k st) (sym e) ∙ loaded.entries ∙ ap (λ k. (to_run k run).entries) e)
      (omega (arith, h.few, loaded.phases)) (omega (arith, h.few, loaded.lasts)) room enough has t bag (length trace) (all-bytes bag given) c)))
