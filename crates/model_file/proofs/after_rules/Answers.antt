-- `model_file::after_rules` meets its contract. The definition's own line, by what `section_rest` gives. Assumes nothing.
use borrow.Author.Rules.{rules}
use Rattle.model_file.specs.Checked.{after_rules}
use Rattle.model_file.proofs.after_rules.Goals as goal

pub returns : goal.returns
unfolding after_rules
returns c = rw (c.section_rest.ensures, c.after_phases.ensures)
