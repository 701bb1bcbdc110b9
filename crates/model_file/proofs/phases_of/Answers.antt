-- `model_file::phases_of` meets its contract. The definition's own line, by what `section_part` gives. Assumes nothing.
use borrow.Author.Rules.{rules}
use Rattle.model_file.specs.Checked.{phases_part}
use Rattle.model_file.proofs.phases_of.Goals as goal

pub returns : goal.returns
unfolding phases_part
returns c = rw (c.section_part.ensures, c.after_components.ensures)
