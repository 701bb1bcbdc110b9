-- `model_checks::phase_numbers` meets its contract. The definition's own tests, field by field. Assumes nothing.
use borrow.Author.Rules.{rules}
use Rattle.definition.specs.Pinned.Decoder.{advance_fits}
use Rattle.model_checks.proofs.phase_numbers.Goals as goal

pub returns : goal.returns
unfolding advance_fits
returns c = search rules
