-- `model_file::components_of` meets its contract. The definition's own line, by what `section_part` gives. Assumes nothing.
use borrow.Author.Rules.{rules}
use Rattle.model_file.specs.Checked.{components_part}
use Rattle.model_file.proofs.components_of.Goals as goal

pub returns : goal.returns
unfolding components_part
returns c = c.section_part.ensures
