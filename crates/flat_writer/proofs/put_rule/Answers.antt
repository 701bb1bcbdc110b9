-- The new component and the other 17 bytes as they were read are the rule renumbered (`rule-puts`).
use Rattle.flat_writer.proofs.Sections.{rule-puts}
use Rattle.law_bytes.proofs.Slices.{all-bytes}
use Rattle.flat_writer.proofs.put_rule.Goals as goal

pub returns : goal.returns
returns c =
    let a = c.args in
    rw (
      c.put_bytes.ensures,
      c.front-kept.ensures,
      c.rest.ensures,
      c.put_number.ensures,
      c.rank_of-rank.ensures,
      c.byte_at.ensures,
    )
    (rule-puts a.tables.now a.rule.now a.at a.out.now c.requires.0 (all-bytes a.rule.now (λ i. (c.type_inv.rule i).fits)))
