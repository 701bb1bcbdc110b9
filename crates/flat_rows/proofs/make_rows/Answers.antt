-- The rows made before i, and those of the messages from there on, are all of them (`make-more`).
use native.Mathlib.Omega.{arith}
use Rattle.flat_rows.proofs.Collected.{make-more}
use Rattle.flat_rows.specs.Rows.{row_of}
use mathlib.Core.Path.{◌∙◌}
use Rattle.flat_rows.proofs.make_rows.Goals as goal

pub loop-i-preserved : goal.loop-i-preserved
loop-i-preserved c =
    let a = c.args in let l = c.loop-i in
    let e = make-more (row_of a.tables.now a.end) l.rows a.count l.i (omega arith) (omega arith) in
    rw c.row_of.ensures (e ∙ l.invariant)
