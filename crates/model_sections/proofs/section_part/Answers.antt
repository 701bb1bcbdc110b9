-- `model_sections::section_part` meets its contract. The first n records' bytes after the count, by what `rest` and `front` give. Assumes
-- nothing.
use Rattle.law_bytes.specs.Parts.{part_of}
use Rattle.model_sections.proofs.section_part.Goals as goal

pub returns : goal.returns
unfolding part_of
returns c = rw (c.front.ensures, c.rest.ensures, c.length_of.ensures.0)
