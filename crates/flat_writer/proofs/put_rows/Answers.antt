-- A count and the rows are the section (`section-puts`).
use Rattle.flat_writer.proofs.Sections.{section-puts, length-rows}
use Rattle.law_base.specs.Keys.{coupling_of}
use Rattle.definition.specs.Records.{coupling_bytes}
use lib.ListN.{take}
use mathlib.Core.List.{map}
use mathlib.Core.Path.{sym}
use Rattle.flat_writer.proofs.put_rows.Goals as goal

pub returns : goal.returns
returns c =
    let a = c.args in
    rw (c.put_row_list.ensures, c.put_number.ensures)
    (section-puts coupling_bytes (map coupling_of (take a.n a.rows.now)) a.n a.at a.out.now (sym (length-rows a.rows.now a.n c.requires.0)))
