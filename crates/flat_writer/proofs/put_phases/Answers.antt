-- A count, then the bytes of the phases as they were read: writing a record that was read gives its bytes (`phase-puts`).
use Rattle.flat_writer.proofs.Sections.{phase-puts}
use Rattle.law_bytes.proofs.Slices.{all-bytes}
use Rattle.flat_writer.proofs.put_phases.Goals as goal

pub returns : goal.returns
returns c =
    let a = c.args in
    rw (
      c.put_bytes.ensures,
      c.front-part.ensures,
      c.put_number.ensures,
      c.phase_count-n.ensures,
    ) (phase-puts a.phases.now a.at a.out.now (all-bytes a.phases.now (λ i. (c.type_inv.phases i).fits)))
