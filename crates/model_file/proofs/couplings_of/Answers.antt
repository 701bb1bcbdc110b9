-- `model_file::couplings_of` meets its contract. The definition's own line, by what `section_part` gives. Assumes nothing.
use borrow.Author.Rules.{rules}
use Rattle.model_file.specs.Checked.{couplings_part}
use Rattle.model_file.proofs.couplings_of.Goals as goal

pub returns : goal.returns
unfolding couplings_part
returns c = rw (c.section_part.ensures, c.after_rules.ensures)
