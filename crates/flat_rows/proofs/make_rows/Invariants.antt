use Rattle.std.proofs.Common.{◌≡◌, ◌++◌, map, take}
use lib.Seq.{slice}
use Rattle.flat_rows.specs.Rows.{row_of}
use Rattle.flat_rows.proofs.make_rows.Given as goal

abbrev pub invariant-loop-i : goal.invariant-loop-i
invariant-loop-i l = take l.i l.rows ++ map (row_of l.tables l.end) (slice l.i l.count l.rows) ≡ map (row_of l.tables l.end) (take l.count l.initial.rows)
