-- `model_file::after_phases` meets its contract. The definition's own line, by what `section_rest` gives. Assumes nothing.
use borrow.Author.Rules.{rules}
use Rattle.model_file.specs.Checked.{after_phases}
use Rattle.model_file.proofs.after_phases.Goals as goal

pub returns : goal.returns
unfolding after_phases
returns c = rw (c.section_rest.ensures, c.after_components.ensures)
