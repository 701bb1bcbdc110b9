-- A call that is let in: its outcome is that of the instants on the model's tables, with the code's state read as entries. Assumes nothing.
use mathlib.Core.Path.{◌≡◌, sym, ap, ◌∙◌}
use Prim.Native.Nat.{ℕ, ◌*◌, ◌≤◌}
use mathlib.Core.List.{List}
use lib.ListN.{length}
use Rattle.definition.specs.Bytes.{Bytes, AllBytes, ok}
use Rattle.definition.specs.Limits.{max_given}
use Rattle.definition.specs.Model.{Model, atomics}
use Rattle.definition.specs.Routes.{routes}
use Rattle.definition.specs.Pinned.Decoder.{accepted}
use Rattle.definition.specs.SavedRun.{run_of}
use Rattle.definition.specs.Advance.{advance_from}
use Rattle.definition.specs.Engine.{advance_checks, advanced, advance, to_bag}
use Rattle.law_model.proofs.Reading.{accepted_sound}
use Rattle.run_state.specs.declared.State.{State}
use Rattle.run_state.specs.Held.{entries_of, held_end}
use Rattle.spec_step.specs.TableStep.{table_sim}
use Rattle.spec_step.specs.Tabled.{Tabled}
use Rattle.law_tables.proofs.Calls.{advance-on-tables}
use Rattle.call_advance.proofs.Checks.{advance-is}

pub call-on-tables : (file run : Bytes) (t : ℕ) (bag trace table : Bytes) (m : Model) → AllBytes file → AllBytes bag → ok m ≡ accepted file → advance_checks m run t bag ≡ ok tt
    → (st : State) → entries_of (length (atomics m.components)) st ≡ (run_of m run).entries
    → length (atomics m.components) ≤ length st.phase → length (atomics m.components) ≤ length st.last
    → (tables : List ℕ) → Tabled m tables → (room : ℕ) → max_given * length (routes m) ≤ room
    → advanced run trace table (ok (held_end (length (atomics m.components))
    (advance_from (table_sim m.phases tables m.rules (length (atomics m.components)) room) (length trace) t (to_bag bag) (run_of m run).opening st)))
    ≡ advance file run t bag trace table
call-on-tables file run t bag trace table m b c e ok-call st same phases lasts tables h room enough =
    let a = accepted_sound file m b (sym e) in
    ap (λ x. advanced run trace table (ok x))
    (sym (advance-on-tables m a.sound tables h run st same phases lasts room enough t bag (length trace) c ok-call))
    ∙ advance-is file run t bag trace table m e ok-call
