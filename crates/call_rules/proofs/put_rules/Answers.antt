-- Untouched where no instant was done or the table is short, and otherwise with the entries at its front.
use lib.Dec.{eqb}
use lib.ListN.{length}
use borrow.Author.Tests.{ltb-false}
use Rattle.law_base.proofs.Tests.{or-none}
use Rattle.instant_loop.specs.Ends.{table_left}
use Rattle.call_rules.proofs.put_rules.Goals as goal

pub returns-then-instants-table : goal.returns-then-instants-table
unfolding table_left
returns-then-instants-table c = let taken = rw c.atomics_in-n.ensures at c.if-instants-table.true in rw taken

pub put_entries-requires : goal.put_entries-requires
put_entries-requires c =
    let a = c.args in
    let left = (or-none (eqb a.instants 0) _ c.if-instants-table.false).1 in
    (rw c.atomics_in-n.ensures c.requires, ltb-false (length a.table.now) _ left)

pub returns : goal.returns
unfolding table_left
returns c =
    let left = rw c.atomics_in-n.ensures at c.if-instants-table.false in
    let put = rw c.atomics_in-n.ensures at c.put_entries.ensures in
    rw left put
