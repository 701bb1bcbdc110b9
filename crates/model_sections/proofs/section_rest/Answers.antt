-- `model_sections::section_rest` meets its contract. What stands after the count and n records, by what `rest` gives. Assumes nothing.
use Rattle.law_bytes.specs.Parts.{rest_after}
use Rattle.model_sections.proofs.section_rest.Goals as goal

pub returns : goal.returns
unfolding rest_after
returns c = rw (c.rest.ensures, c.length_of.ensures.0)
