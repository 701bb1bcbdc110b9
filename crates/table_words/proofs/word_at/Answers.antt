-- Within the slice it is the word, past the end the default. Assumes nothing.
use borrow.Author.Rules.{rules}
use lib.ListN.{get_or-eq_default}
use mathlib.Core.Path.{sym}
use Rattle.table_words.proofs.word_at.Goals as goal

pub returns-else-at-t : goal.returns-else-at-t
returns-else-at-t c = sym (get_or-eq_default c.args.t.now 0 c.if-at-t.false)
