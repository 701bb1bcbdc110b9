-- Four ports more are four-more; at the end none is left. Assumes nothing.
use native.Mathlib.Omega.{arith}
use Prim.Native.Nat.{◌-◌, ◌+◌, ◌*◌}
use mathlib.Core.Path.{◌≡◌, sym, ap, ◌∙◌}
use native.Mathlib.Nat.{sub-zero}
use Rattle.model_records.specs.Values.{components_in}
use Rattle.spec_step.specs.Tables.{port_nodes}
use Rattle.table_words.specs.Writes.{column}
use Rattle.table_words.proofs.Loops.{four-more, column-end}
use Rattle.table_couplings.proofs.Loops.{input-flag, output-flag}
use Rattle.table_couplings.specs.Links.{flag_at}
use Rattle.table_couplings.proofs.mark_ports.Goals as goal

pub loop-c-init : goal.loop-c-init
loop-c-init c = rw sub-zero

pub loop-c-preserved : goal.loop-c-preserved
loop-c-preserved c =
    let a = c.args in
    let l = c.loop-c in
    let cs = components_in a.components.now in
    let f = flag_at a.sources cs in
    let n = port_nodes * c.component_count-n.result in
    let x = port_nodes * l.c in
    let e : port_nodes * (l.c + 1) ≡ x + 4 + 4 = omega arith in
    let z : a.at + x + 4 ≡ a.at + (x + 4) = omega arith in
    let s = c.put_four.new.t in
    let two = c.put_four-in-loop-c.ensures ∙ ap (λ i. column i (λ _. c.port_flag-in-loop-c.result) 4 0 s) z in
    ap (λ i. column a.at f (n - i) i c.put_four-in-loop-c.new.t) e ∙ ap (column a.at f (n - (x + 4 + 4)) (x + 4 + 4)) two
    ∙ four-more a.at f n (x + 4) c.port_flag-in-loop-c.result s (omega arith)
    (λ k h. output-flag a.sources cs l.c k h ∙ sym c.port_flag-in-loop-c.ensures)
    ∙ ap (column a.at f (n - (x + 4)) (x + 4)) c.put_four.ensures
    ∙ four-more a.at f n x c.port_flag.result l.t (omega arith)
    (λ k h. input-flag a.sources cs l.c k h ∙ sym c.port_flag.ensures) ∙ l.invariant

pub returns : goal.returns
returns c =
    let a = c.args in
    let l = c.loop-c in
    let f = flag_at a.sources (components_in a.components.now) in
    sym (column-end a.at f (port_nodes * c.component_count-n.result) (port_nodes * l.c) l.t (omega arith)) ∙ l.invariant
    ∙ ap (λ n. column a.at f (port_nodes * n) 0 a.t.now) c.component_count-n.ensures
