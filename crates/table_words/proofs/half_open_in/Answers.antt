-- `table_words::half_open_in` meets its contract. The word's test is the definition's. Assumes nothing.
use borrow.Author.Rules.{rules}
use mathlib.Core.Path.{ap}
use mathlib.Core.Bool.{not}
use lib.Dec.{eqb}
use Rattle.law_base.specs.Ranges.{ranges_of}
use Rattle.table_words.proofs.half_open_in.Goals as goal

pub returns : goal.returns
returns c = ap (λ w. ranges_of (not (eqb w 0))) c.word_in.ensures
