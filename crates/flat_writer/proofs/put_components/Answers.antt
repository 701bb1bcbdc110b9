-- Count, root and atomics, each where the one before it ends, are the section (`components-puts`).
use Rattle.flat_writer.proofs.Sections.{components-puts}
use Rattle.model_records.specs.Values.{components_in}
use Rattle.flat_writer.proofs.put_components.Goals as goal

pub returns : goal.returns
returns c =
    let a = c.args in
    rw (
      c.put_atomics.ensures,
      c.put_number-2.ensures,
      c.put_number.ensures,
    ) (components-puts (components_in a.components.now) a.tables.now a.n a.out.now)
