-- The record count, then the columns; the count's store leaves the length.
use lib.ListN.{length}
use Rattle.columns_forms.specs.Forms.{row_messages}
use Rattle.columns_forms.proofs.Turns.{columns-start}
use Rattle.columns_write.proofs.write_columns.Goals as goal

pub put_columns-requires : goal.put_columns-requires
put_columns-requires c =
    let a = c.args in
    let s = a.s.now in
    (c.requires.0, rw (c.columns_from.ensures, c.put_number.auto.out) (columns-start (length a.out.now) a.n a.k (row_messages a.n 0 s) c.requires.2 c.requires.1))
