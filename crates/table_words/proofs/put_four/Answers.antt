-- Four rows of the column, written out. Assumes nothing.
use borrow.Author.Rules.{rules}
use native.Mathlib.Omega.{arith}
use Rattle.table_words.specs.Writes.{column}
use native.Mathlib.Nat.{add-zero}
use lib.ListN.{length-set}
use Rattle.table_words.proofs.put_four.Goals as goal

pub bounds-t-at-2 : goal.bounds-t-at-2
bounds-t-at-2 c = simp length-set (omega arith)

pub bounds-t-at-3 : goal.bounds-t-at-3
bounds-t-at-3 c = simp length-set (omega arith)

pub bounds-t-at-4 : goal.bounds-t-at-4
bounds-t-at-4 c = simp length-set (omega arith)

pub returns : goal.returns
unfolding column
returns c = (rw add-zero)
