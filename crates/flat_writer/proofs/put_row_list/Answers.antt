-- The rows before i stand (`one_more`); at the end all do (`all-stand`).
use native.Mathlib.Omega.{arith}
use Rattle.flat_writer.proofs.Pieces.{one_more, all-stand}
use Rattle.flat_writer.proofs.Sections.{row_at, length-rows}
use Rattle.law_model.proofs.Writing.{coupling-size}
use Rattle.law_base.specs.Keys.{coupling_of}
use Rattle.definition.specs.Records.{coupling_bytes}
use lib.ListN.{take}
use mathlib.Core.List.{map}
use Rattle.flat_writer.proofs.put_row_list.Goals as goal

pub loop-i-preserved : goal.loop-i-preserved
loop-i-preserved c =
    let a = c.args in
    let l = c.loop-i in
    let xs = map coupling_of (take a.n a.rows.now) in
    let few = c.requires.0 in
    let e = rw (← row_at a.rows.now a.n few l.i (omega arith)) at c.put_row.ensures in
    let more = one_more 4 coupling_bytes coupling-size xs a.at a.out.now l.i l.out _ (coupling_of 0)
    (omega (arith, length-rows a.rows.now a.n few)) e c.put_row.auto.out in
    more l.invariant

pub returns : goal.returns
returns c =
    let a = c.args in
    let l = c.loop-i in
    let xs = map coupling_of (take a.n a.rows.now) in
    all-stand 4 coupling_bytes coupling-size xs a.at a.out.now l.i l.out (omega (arith, length-rows a.rows.now a.n c.requires.0)) l.invariant
