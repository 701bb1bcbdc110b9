-- One turn numbers one component more (numbered_more); at the end none is left. Assumes nothing.
use native.Mathlib.Omega.{arith}
use native.Mathlib.Nat.{sub-zero}
use mathlib.Core.Path.{sym, ap, ◌∙◌}
use Prim.Native.Nat.{◌-◌, ◌+◌}
use Rattle.model_records.specs.Values.{components_in}
use Rattle.table_components.specs.Columns.{numbered}
use Rattle.table_components.proofs.Loops.{numbered_more, numbered-end, number-most}
use Rattle.table_components.proofs.put_numbers.Goals as goal

pub loop-c-init : goal.loop-c-init
loop-c-init c = (omega arith, rw sub-zero)

pub loop-c-preserved : goal.loop-c-preserved
loop-c-preserved c =
    let l = c.loop-c in
    let cs = components_in c.args.components.now in
    let n = c.count_word-n.result in
    let e = c.put_number-i.ensures in
    (omega (arith, ap (λ st. st.1) e, number-most cs n l.c (l.t, l.i)), ap (numbered cs (n - (l.c + 1)) (l.c + 1)) e ∙ numbered_more cs n l.c (l.t, l.i) c.loop-c-test.true ∙ l.invariant.1)

pub returns : goal.returns
returns c =
    let a = c.args in
    let l = c.loop-c in
    let cs = components_in a.components.now in
    let n = c.count_word-n.result in
    ap (λ st. st.0) (sym (numbered-end cs n l.c (l.t, l.i) (omega arith)) ∙ l.invariant.1) ∙ ap (λ n. (numbered cs n 0 (a.t.now, 0)).0) c.count_word-n.ensures
