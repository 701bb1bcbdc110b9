-- The sections, each where the one before it ends, are the bytes of the flat form at the buffer's front (`flat-puts`).
use native.Mathlib.Omega.{arith}
use Rattle.flat_writer.proofs.Sections.{flat-puts}
use Rattle.model_records.specs.Values.{components_in, phases_in, rules_in}
use mathlib.Core.Path.{sym}
use lib.Seq.{length-take-le}
use lib.ListN.{take}
use Rattle.flat_writer.proofs.put_flat.Goals as goal

pub returns : goal.returns
returns c =
    let a = c.args in
    rw (
      c.put_ranges.ensures,
      c.put_rows.ensures,
      c.rule_count.ensures,
      c.put_rules.ensures,
      c.phase_count.ensures,
      c.put_phases.ensures,
      c.put_components.ensures,
    )
    (flat-puts (components_in a.components.now) (phases_in a.phases.now) (rules_in a.rules.now) a.tables.now a.n (take a.count a.rows.now)
    a.out.now a.count (sym (length-take-le a.count a.rows.now c.requires.0)) (omega (arith, c.requires.1, length-take-le a.count a.rows.now c.requires.0)))
