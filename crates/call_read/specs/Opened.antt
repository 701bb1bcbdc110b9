-- What the functions of the call read have of its file, once the model is accepted and once the run fits. Assumes nothing.
use Rattle.std.specs.Prelude.{◌≡◌, true, List, ℕ}
use Rattle.definition.specs.Bytes.{Bytes, ok}
use Rattle.definition.specs.Pinned.Decoder.{accepted}
use Rattle.definition.specs.SavedRun.{run_fits}
use Rattle.model_file.specs.Checked.{model_of}
use Rattle.model_file.specs.declared.Counts.{Counts}
use Rattle.spec_step.specs.TablesOf.{TablesOf}

-- The file's model is accepted, with its tables.
pub record ModelOpened (file : Bytes) (n : Counts) (tables : List ℕ) : Type 0 where
  pub model : ok (model_of file n) ≡ accepted file
  pub tabled : TablesOf (model_of file n) tables

-- The run fits it.
pub record RunOpened (file : Bytes) (n : Counts) (tables : List ℕ) (run : Bytes) : Type 0 where
  pub model : ok (model_of file n) ≡ accepted file
  pub tabled : TablesOf (model_of file n) tables
  pub fits : run_fits (model_of file n) run ≡ true
