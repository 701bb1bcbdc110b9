-- The records before i stand (`one_more`); at the end all do (`all-stand`).
use native.Mathlib.Omega.{arith}
use Rattle.flat_writer.proofs.Pieces.{one_more, all-stand}
use Rattle.flat_writer.proofs.Sections.{atomic-at, length-atomics}
use Rattle.flat_writer.specs.Written.{atomics_by}
use Rattle.law_model.proofs.Writing.{component-size}
use Rattle.model_records.specs.Values.{components_in}
use Rattle.definition.specs.Model.{no_component}
use Rattle.definition.specs.Records.{component_bytes}
use Rattle.flat_writer.proofs.put_atomics.Goals as goal

pub loop-i-preserved : goal.loop-i-preserved
loop-i-preserved c =
    let a = c.args in
    let l = c.loop-i in
    let cs = components_in a.components.now in
    let t = a.tables.now in
    let e = rw (
      c.component_at-k.ensures,
      c.word_at-c.ensures,
      ← atomic-at cs t a.n l.i (omega arith),
    ) at c.put_atomic.ensures in
    let more = one_more 5 component_bytes component-size (atomics_by cs t a.n) 7 a.out.now l.i l.out _ no_component
    (omega (arith, length-atomics cs t a.n)) e c.put_atomic.auto.out in
    more l.invariant

pub returns : goal.returns
returns c =
    let a = c.args in
    let l = c.loop-i in
    let cs = components_in a.components.now in
    let t = a.tables.now in
    all-stand 5 component_bytes component-size (atomics_by cs t a.n) 7 a.out.now l.i l.out (omega (arith, length-atomics cs t a.n)) l.invariant
