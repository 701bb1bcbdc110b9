-- The ports so far and those that are left are all four; one port more is one call more.
use native.Mathlib.Omega.{arith}
use Rattle.step_collect.proofs.Laws.{root_below, ports-more, ports-none}
use Rattle.law_routes.specs.Nodes.{output_node}
use Rattle.step_collect.specs.Collected.{leaving}
use mathlib.Core.List.{List}
use mathlib.Core.Path.{◌∙◌, sym}
use Prim.Native.Nat.{ℕ}
use Rattle.step_collect.proofs.collect_root.Goals as goal

pub collect_leaving-end-requires : goal.collect_leaving-end-requires
collect_leaving-end-requires c = record { below = rw c.root_output-target.ensures (root_below _ (omega arith)); in_range = c.requires }

pub loop-q-preserved : goal.loop-q-preserved
loop-q-preserved c =
    let a = c.args in
    let l = c.loop-q in
    let m = c.collect_leaving-end in
    let f : ℕ → List ℕ = λ p. leaving a.phases.now a.tables.now a.flags.now 8 (output_node 0 p) in
    (m.auto.buf ∙ l.invariant.0, rw (m.ensures, c.root_output-target.ensures) (ports-more f 4 l.q (l.buf, l.end) (omega arith) ∙ l.invariant.1))

pub returns : goal.returns
returns c = sym (ports-none _ 4 c.loop-q.q _ (omega arith)) ∙ c.loop-q.invariant.1
