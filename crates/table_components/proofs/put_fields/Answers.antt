-- One turn writes one row more (column-more); at the end none is left. Assumes nothing.
use native.Mathlib.Omega.{arith}
use native.Mathlib.Nat.{sub-zero}
use mathlib.Core.Path.{sym, ap, ◌∙◌}
use Rattle.model_records.specs.Values.{components_in}
use Rattle.table_words.proofs.Loops.{column-more, column-end}
use Rattle.table_words.specs.Writes.{column}
use Rattle.table_components.specs.Columns.{field_at}
use Rattle.table_components.proofs.put_fields.Goals as goal

pub loop-c-init : goal.loop-c-init
loop-c-init c = rw sub-zero

pub loop-c-preserved : goal.loop-c-preserved
loop-c-preserved c =
    let a = c.args in
    let l = c.loop-c in
    let f = field_at a.which (components_in a.components.now) in
    rw c.field_at.ensures (column-more a.at f c.component_count-n.result l.c l.t c.loop-c-test.true) ∙ l.invariant

pub returns : goal.returns
returns c =
    let a = c.args in
    let l = c.loop-c in
    let f = field_at a.which (components_in a.components.now) in
    sym (column-end a.at f c.component_count-n.result l.c l.t (omega arith)) ∙ l.invariant ∙ ap (λ n. column a.at f n 0 a.t.now) c.component_count-n.ensures
