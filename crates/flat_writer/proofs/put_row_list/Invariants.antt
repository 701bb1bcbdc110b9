use Rattle.std.proofs.Common.{map, take}
use Rattle.definition.specs.Records.{coupling_bytes}
use Rattle.law_base.specs.Keys.{coupling_of}
use Rattle.flat_writer.proofs.Pieces.{Standing}
use Rattle.flat_writer.proofs.put_row_list.Given as goal

abbrev pub invariant-loop-i : goal.invariant-loop-i
invariant-loop-i l = Standing 4 coupling_bytes (map coupling_of (take l.n l.rows)) l.at l.initial.out l.i l.out
