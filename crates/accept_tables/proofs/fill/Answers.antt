-- The sections of an accepted model are short enough, and what is filled from them are its tables.
use borrow.Author.Rules.{rules}
use Prim.Native.Nat.{ℕ, ◌<◌}
use lib.ListN.{get_or}
use Rattle.accept_tables.proofs.Accepted.{few-records, tables-filled, linked-parts}
use Rattle.accept_tables.proofs.fill.Goals as goal

pub fill_tables-requires : goal.fill_tables-requires
fill_tables-requires c =
    let bytes : (i : ℕ) → get_or c.args.file.now i 0 < 256 = λ i. (c.type_inv.file i).fits in
    let few = few-records c.args.file.now c.args.n bytes c.requires.0 in
    let linked = linked-parts c.args.file.now c.args.n bytes c.requires.0 _ _ _ _ c.components_of.ensures c.couplings_of.ensures c.requires.1 in
    (rw c.components_of.ensures few.0, rw c.rules_of.ensures few.1, rw c.couplings_of.ensures few.2, linked)

pub returns : goal.returns
returns c =
    tables-filled c.args.file.now c.args.n (λ i. (c.type_inv.file i).fits) c.requires.0 _ _ _ _
    c.components_of.ensures c.rules_of.ensures c.couplings_of.ensures c.fill_tables.ensures
