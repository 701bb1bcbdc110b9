-- A rule's first byte is the component that it names. Assumes nothing.
use native.Mathlib.Omega.{arith}
use Rattle.table_components.specs.Columns.{rule_names}
use Rattle.law_bytes.proofs.Rows.{number-row}
use Rattle.model_records.specs.Values.{rules_in}
use Rattle.law_bytes.proofs.Records.{length-records, record-in}
use Rattle.definition.specs.Pinned.Decoder.{to_rule}
use Rattle.definition.specs.Model.{no_rule}
use Rattle.law_bytes.specs.Parts.{row}
use native.Mathlib.Nat.{add-zero}
use lib.ListN.{get_or}
use Prim.Native.Nat.{◌*◌}
use Rattle.definition.specs.Bytes.{number_at}
use Rattle.table_words.specs.Writes.{put_in}
use Rattle.definition.specs.Limits.{max_components}
use mathlib.Core.Path.{◌≡◌, sym, ap, ◌∙◌}
use Rattle.table_components.proofs.put_named.Goals as goal

pub returns : goal.returns
unfolding rule_names rules_in to_rule
returns c =
    let a = c.args in
    let s = a.rules.now in
    let n = length-records 18 to_rule s in
    let e : get_or (rules_in s) a.i no_rule ≡ to_rule (row 18 a.i s) = record-in 18 to_rule s a.i no_rule (omega (arith, c.requires.0)) in
    let name : rule_names (rules_in s) a.i ≡ number_at 1 (18 * a.i) s = ap (λ k. k.component) e ∙ rw (number-row 1 0 18 a.i s (omega arith), add-zero) in
    rw (c.put_in.ensures, c.byte_at-c.ensures)
    (ap (λ k. put_in a.at max_components k a.v a.t.now) (sym name))
