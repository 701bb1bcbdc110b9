-- What a call has of a model file that is accepted: the tables of its model. Assumes nothing.
use Rattle.std.specs.Prelude.{ℕ, List, Result, Ok, Err}
use Rattle.definition.specs.Bytes.{Bytes}
use Rattle.model_file.specs.Checked.{model_of}
use Rattle.spec_step.specs.TablesOf.{TablesOf}
use Rattle.refusals.specs.declared.Refusal.{Refusal}
use Rattle.accept_routes.specs.declared.Accepted.{Accepted}

abbrev pub Opened : Bytes → Result Accepted Refusal → List ℕ → Type 0
Opened file (Ok a) t = TablesOf (model_of file a.counts) t
Opened file (Err r) t = Unit {0}
