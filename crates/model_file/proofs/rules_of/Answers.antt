-- `model_file::rules_of` meets its contract. The definition's own line, by what `section_part` gives. Assumes nothing.
use borrow.Author.Rules.{rules}
use Rattle.model_file.specs.Checked.{rules_part}
use Rattle.model_file.proofs.rules_of.Goals as goal

pub returns : goal.returns
unfolding rules_part
returns c = rw (c.section_part.ensures, c.after_phases.ensures)
