-- `accept_routes::check_model` meets its contract. The number of the check's answer is the number of acceptance. Assumes nothing.
use mathlib.Core.Path.{ap, ◌∙◌}
use Rattle.definition.specs.Bytes.{number_of}
use Rattle.definition.specs.Pinned.Decoder.{check_model}
use Rattle.accept_routes.proofs.check_model.Goals as goal

pub returns-in-Ok : goal.returns-in-Ok
unfolding check_model
returns-in-Ok c = ap number_of c.in-Ok.ensures

pub returns-in-Err : goal.returns-in-Err
unfolding check_model
returns-in-Err c = c.from.ensures ∙ ap number_of c.in-Err.ensures
