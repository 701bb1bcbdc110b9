-- What the functions of the call advance have of its file, once the model is accepted and once the checks have passed. Assumes nothing.
use Rattle.std.specs.Prelude.{◌≡◌, List, Result, ℕ, ◌*◌, ◌≤◌, length}
use Rattle.definition.specs.Bytes.{Bytes, ok}
use Rattle.definition.specs.Bytes as Definition
use Rattle.refusals.specs.Refusals.{result_as}
use Rattle.refusals.specs.declared.Refusal.{Refusal}
use Rattle.definition.specs.Limits.{max_given}
use Rattle.definition.specs.Routes.{routes}
use Rattle.definition.specs.Pinned.Decoder.{accepted}
use Rattle.definition.specs.Engine.{advance_checks}
use Rattle.model_file.specs.Checked.{model_of}
use Rattle.model_file.specs.declared.Counts.{Counts}
use Rattle.spec_step.specs.TablesOf.{TablesOf}
use Rattle.instant_steps.specs.Sim.{Lent}

-- The file's model is accepted, with its tables and so many routes.
pub record ModelOpened (file : Bytes) (n : Counts) (tables : List ℕ) (route_count : ℕ) : Type 0 where
  pub model : ok (model_of file n) ≡ accepted file
  pub tabled : TablesOf (model_of file n) tables
  pub counted : length (routes (model_of file n)) ≡ route_count

-- What a check says that answers nothing else.
abbrev pub checked_by : {T : Type 0} → Result T Refusal → Definition.Result (Unit {0})
checked_by read = result_as (λ _. tt) read

-- The checks of run, time and bag let the call in.
pub record LetIn (file : Bytes) (n : Counts) (tables : List ℕ) (run : Bytes) (t : ℕ) (bag : Bytes) : Type 0 where
  pub model : ok (model_of file n) ≡ accepted file
  pub tabled : TablesOf (model_of file n) tables
  pub checks : advance_checks (model_of file n) run t bag ≡ ok tt

-- The words lent have room for every bag of the model.
pub record Roomy (file : Bytes) (n : Counts) (work : ℕ) : Type 0 where
  pub lent : Lent work
  pub room : max_given * length (routes (model_of file n)) ≤ work
