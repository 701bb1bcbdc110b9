-- What a check hands on where it accepts: the number of routes, and the words of the links. Assumes nothing.
use Rattle.std.specs.Prelude.{◌≡◌, ℕ, List, length, Result, Ok, Err}
use Rattle.definition.specs.Bytes.{Bytes}
use Rattle.definition.specs.Bytes as Definition
use Rattle.definition.specs.Model.{Model}
use Rattle.definition.specs.Routes.{routes}
use Rattle.model_records.specs.Values.{components_in, couplings_in}
use Rattle.model_file.specs.Checked.{components_part, couplings_part, model_of}
use Rattle.model_file.specs.declared.Counts as N
use Rattle.table_couplings.specs.Links.{Begun}
use Rattle.refusals.specs.Refusals.{result_as}
use Rattle.refusals.specs.declared.Refusal.{Refusal}
use Rattle.accept_routes.specs.declared.Accepted.{Accepted}

-- The model of an accepted file.
abbrev pub accepted_as : Bytes → Result Accepted Refusal → Definition.Result Model
accepted_as file read = result_as (λ a. model_of file a.counts) read

abbrev pub Routed : Bytes → Result Accepted Refusal → Type 0
Routed file (Ok a) = length (routes (model_of file a.counts)) ≡ a.routes
Routed file (Err r) = Unit {0}

-- The words of the links of a file with so many records stand in tables that are zeros otherwise: the tables of a call are filled from there.
abbrev pub Linked : Bytes → N.Counts → List ℕ → List ℕ → Type 0
Linked file n targets t = Begun (components_in (components_part file n)) (couplings_in (couplings_part file n)) targets t

abbrev pub LinkedBy : Bytes → Result Accepted Refusal → List ℕ → List ℕ → Type 0
LinkedBy file (Ok a) targets t = Linked file a.counts targets t
LinkedBy file (Err r) targets t = Unit {0}
