-- `model_file::after_components` meets its contract. The definition's own line, by what `section_rest` gives. Assumes nothing.
use borrow.Author.Rules.{rules}
use Rattle.model_file.specs.Checked.{after_components}
use Rattle.model_file.proofs.after_components.Goals as goal

pub returns : goal.returns
unfolding after_components
returns c = c.section_rest.ensures
