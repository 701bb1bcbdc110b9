-- A component that nothing may reach has an empty bag. Else the ports so far and those that are left are all four; one port more is one call more.
use native.Mathlib.Omega.{arith}
use Rattle.step_collect.proofs.Laws.{input-below, ports-more, ports-none, unreached}
use Rattle.law_routes.specs.Nodes.{input_node}
use Rattle.step_collect.specs.Collected.{arriving}
use mathlib.Core.List.{List}
use mathlib.Core.Path.{◌∙◌, sym}
use Prim.Native.Nat.{ℕ}
use Rattle.step_collect.proofs.collect_bag.Goals as goal

pub returns-then-c-reach_at : goal.returns-then-c-reach_at
returns-then-c-reach_at c =
    let a = c.args in
    let shut = rw c.reach_at.ensures at c.if-c-reach_at.true in
    sym (unreached a.phases.now a.tables.now a.flags.now a.given.now 8 a.c 4 0 (a.buf.now, 0) shut (omega arith))

pub collect_arriving-end-requires : goal.collect_arriving-end-requires
collect_arriving-end-requires c =
    let p = c.requires in
    record { below = rw c.input_node-target.ensures (input-below _ _ p.below (omega arith)); in_range = p.in_range }

pub loop-q-preserved : goal.loop-q-preserved
loop-q-preserved c =
    let a = c.args in
    let l = c.loop-q in
    let m = c.collect_arriving-end in
    let f : ℕ → List ℕ = λ p. arriving a.phases.now a.tables.now a.flags.now a.given.now 8 (input_node a.c p) in
    (m.auto.buf ∙ l.invariant.0, rw (m.ensures, c.input_node-target.ensures) (ports-more f 4 l.q (l.buf, l.end) (omega arith) ∙ l.invariant.1))

pub returns : goal.returns
returns c = sym (ports-none _ 4 c.loop-q.q _ (omega arith)) ∙ c.loop-q.invariant.1
