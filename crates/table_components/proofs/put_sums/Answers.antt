-- Beside the column (column-more) the loop carries the sum of the components passed, at most 255 for each. Assumes nothing.
use native.Mathlib.Omega.{arith}
use native.Mathlib.Nat.{sub-zero}
use lib.ListN.{length}
use mathlib.Core.Path.{sym, ap, ◌∙◌}
use Prim.Native.Nat.{◌<◌}
use Rattle.model_records.specs.Values.{components_in}
use Rattle.table_words.proofs.Loops.{column-more, column-end}
use Rattle.table_words.specs.Writes.{column}
use Rattle.table_components.specs.Columns.{fields_before}
use Rattle.table_components.proofs.Loops.{fields-more, fields-none}
use Rattle.table_components.proofs.put_sums.Goals as goal

pub loop-c-init : goal.loop-c-init
loop-c-init c = (omega arith, sym (fields-none c.args.which (components_in c.args.components.now)), rw sub-zero)

pub loop-c-preserved : goal.loop-c-preserved
loop-c-preserved c =
    let a = c.args in
    let l = c.loop-c in
    let cs = components_in a.components.now in
    let f = fields_before a.which cs in
    let s : l.c < length cs = omega (arith, c.component_count-n.ensures) in
    (omega arith, omega (arith, fields-more a.which cs l.c s), rw l.invariant.1 (column-more a.at f c.component_count-n.result l.c l.t c.loop-c-test.true) ∙ l.invariant.2)

pub returns : goal.returns
returns c =
    let a = c.args in
    let l = c.loop-c in
    let f = fields_before a.which (components_in a.components.now) in
    sym (column-end a.at f c.component_count-n.result l.c l.t (omega arith)) ∙ l.invariant.2 ∙ ap (λ n. column a.at f n 0 a.t.now) c.component_count-n.ensures
