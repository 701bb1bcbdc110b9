-- The call on the parts of its file: what the code has after its checks, from the buffers lent to the outcome. Assumes nothing.
use mathlib.Core.Path.{◌≡◌, sym, ap, ◌∙◌, subst}
use mathlib.Core.List.{List}
use mathlib.Core.Bool.{true, ◌&&◌}
use Prim.Native.Nat.{ℕ, suc, ◌*◌, ◌≤◌, ◌<◌}
use native.Mathlib.Omega.{arith}
use lib.Dec.{leb, eqb}
use lib.ListN.{length, get_or}
use borrow.Author.Tests.{leb-true}
use Rattle.definition.specs.Bytes.{Bytes, ok, number_at}
use Rattle.definition.specs.Limits.{max_given, max_routes, max_moment}
use Rattle.definition.specs.Model.{Model}
use Rattle.definition.specs.Routes.{routes}
use Rattle.definition.specs.Pinned.Decoder.{accepted}
use Rattle.definition.specs.SavedRun.{run_length, atomic_count, run_of, to_run, run_fits}
use Rattle.definition.specs.Engine.{advance_checks, advance}
use Rattle.law_base.proofs.Tests.{and_left}
use Rattle.law_flat.proofs.Checks.{advance-ok}
use Rattle.law_bytes.proofs.Slices.{all-bytes}
use Rattle.model_records.specs.Values.{model_in}
use Rattle.model_file.specs.Checked.{model_of, phases_part, rules_part}
use Rattle.model_file.specs.declared.Counts.{Counts}
use Rattle.run_state.specs.declared.State.{State}
use Rattle.run_state.specs.Held.{entries_of, held_end}
use Rattle.spec_step.specs.Ranges.{Seated}
use Rattle.spec_step.specs.TablesOf.{TablesOf}
use Rattle.spec_step.specs.Tables.{atomics_in}
use Rattle.run_saved.specs.Runs.{Loaded}
use Rattle.instant_steps.specs.Sim.{Lent}
use Rattle.instant_loop.specs.Ends.{Startable, advanced_by}
use Rattle.accept_tables.proofs.Accepted.{fine}
use Rattle.call_advance.proofs.OnTables.{call-on-tables}

-- A run that fits is long enough.
pub fits-long : (m : Model) (run : Bytes) → run_fits m run ≡ true → run_length (atomic_count m) ≤ length run
unfolding run_fits
fits-long m run h =
    let a = leb (run_length (atomic_count m)) (length run) in
    let b = eqb (number_at 2 8 run) (atomic_count m) in
    let d = leb (run_of m run).opening (suc max_moment) in
    leb-true (run_length (atomic_count m)) (length run) (and_left a b (and_left (a && b) d (and_left (a && b && d) _ h)))

module _ (file : Bytes) (n : Counts) (bytes : (i : ℕ) → get_or file i 0 < 256) (told : ok (model_of file n) ≡ accepted file) where
  -- An accepted model has at most 1,024 routes.
  pub most-routes : length (routes (model_of file n)) ≤ max_routes
  most-routes = (fine file n bytes told).few_routes

  module _ (run : Bytes) (t : ℕ) (bag : Bytes) (c : advance_checks (model_of file n) run t bag ≡ ok tt) (tables : List ℕ) (h : TablesOf (model_of file n) tables) where
    -- What the instants ask: words for the bags, a moment that may be advanced to, tables that fit, and a run buffer that is long enough.
    pub startable : (work : ℕ) → Lent work → Startable tables t work (length run)
    unfolding atomic_count
    startable work lent =
        let k = advance-ok (model_of file n) run t bag c in
        let e = h.tabled.atomic_count_lem in record {
          lent = lent;
          moment = k.not_late;
          fit = record { in_range = h.in_range; seated = subst (λ k. Seated k tables) (sym e) h.seated };
          run_fits_lem = rw e (fits-long (model_of file n) run k.run_fits_lem);
        }

    -- The call by what the code has: the parts, the model's tables and the state.
    pub call-parts : (trace table : Bytes) → ((i : ℕ) → get_or bag i 0 < 256) → (st : State) → Loaded run (atomics_in tables) st → (room : ℕ) → max_given * length (routes (model_of file n)) ≤ room
        → (ps rs : Bytes) → ps ≡ phases_part file n → rs ≡ rules_part file n → advanced_by ps rs tables room t bag run st trace table ≡ advance file run t bag trace table
    unfolding model_of model_in run_of to_run atomic_count held_end
    call-parts trace table given st loaded room enough ps rs p q =
        let e = h.tabled.atomic_count_lem in
        rw (p, q, e) (call-on-tables file run t bag trace table (model_of file n) (all-bytes file bytes) (all-bytes bag given) told c st
        (ap (λ k. entries_of k st) (sym e) ∙ loaded.entries ∙ ap (λ k. (to_run k run).entries) e) (omega (arith, h.few, loaded.phases)) (omega (arith, h.few, loaded.lasts))
        tables h.tabled room enough)
