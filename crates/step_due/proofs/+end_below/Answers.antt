-- The lesser of the least so far and the least of the children that are left is the least of all. One child more is a look-up for an
-- atomic, and for a coupled one a call, at all levels: for a child that is as good as one level less. The measure is how many component
-- numbers are left above: a child is numbered above its parent.
use native.Mathlib.Omega.{arith}
use Prim.Native.Nat.{◌<◌, ◌-◌, min}
use mathlib.Core.Path.{◌≡◌, ◌∙◌, sym, ap}
use Rattle.definition.specs.Limits.{max_components}
use Rattle.run_state.specs.Held.{ends_in}
use Rattle.spec_step.specs.Carried.{end_below}
use Rattle.law_step.proofs.Carried.{levels-enough}
use Rattle.step_due.proofs.Laws.{levels_left, least_more, least_none, least-end, end-atomic, end-coupled}
use Rattle.step_due.proofs.+end_below.Goals as goal
use Rattle.step_due.proofs.+end_below.Goals.{then-is_atomic-2, else-is_atomic-2}

pub returns-then-is_atomic : goal.returns-then-is_atomic
returns-then-is_atomic t c =
    let a = c.args in
    c.end_of.ensures ∙ end-atomic a.tables.now (ends_in a.state.now) a.c (sym c.is_atomic.ensures ∙ c.if-is_atomic.true)

pub loop-init : goal.loop-init
loop-init t c =
    let a = c.args in
    let q = c.requires in
    let child = c.row_in-d.ensures in
    let coupled = end-coupled a.tables.now (ends_in a.state.now) a.c (sym c.is_atomic.ensures ∙ c.if-is_atomic.false) in
    (rw child (q.1.children a.c q.0), rw child (q.1.children_rise a.c q.0), omega arith, rw child coupled)

pub loop-preserved : goal.loop-preserved
loop-preserved t c =
    let a = c.args in
    let q = c.requires in
    let l = c.loop in
    let tables = a.tables.now in
    let ends = ends_in a.state.now in
    let sibling = c.row_in-d-in-loop.ensures in
    let some = c.if-d-eq0.false in
    let p : 0 < l.d = omega (arith, some) in
    let all : end_below tables ends max_components l.d ≡ end_below tables ends levels_left l.d =
    levels-enough tables q.1 ends max_components levels_left l.d l.invariant.0 (omega arith) (omega (arith, p)) in
    let one : c.if-is_atomic-2.least ≡ min l.least (end_below tables ends levels_left l.d) =
    elim c.if-is_atomic-2.branch [
      | then-is_atomic-2 w ↦
          w.least-is ∙ w.lesser-least.ensures
          ∙ ap (min l.least) (w.end_of-then-is_atomic-2.ensures ∙ end-atomic tables ends l.d (sym c.is_atomic-in-loop.ensures ∙ w.if-is_atomic-2.true) ∙ all)
      | else-is_atomic-2 w ↦
          w.least-is ∙ w.lesser-least-else-is_atomic-2.ensures ∙ ap (min l.least) (w.end_below.ensures ∙ all)
    ] in (
      rw sibling (q.1.siblings l.d l.invariant.0),
      rw sibling (λ z. omega (arith, l.invariant.1 p, q.1.siblings_rise l.d l.invariant.0 z)),
      omega (arith, one, l.invariant.2),
      rw (one, sibling) (least_more tables (end_below tables ends levels_left) max_components l.counter l.d l.least c.loop-test.true some ∙ l.invariant.3),
    )

pub returns-then-d-eq0 : goal.returns-then-d-eq0
returns-then-d-eq0 t c =
    let a = c.args in
    let l = c.loop in
    least_none a.tables.now (end_below a.tables.now (ends_in a.state.now) levels_left) (max_components - l.counter) l.d l.least l.invariant.2 c.if-d-eq0.true ∙ l.invariant.3

pub returns : goal.returns
returns t c =
    let a = c.args in
    let l = c.loop in
    least-end a.tables.now (end_below a.tables.now (ends_in a.state.now) levels_left) max_components l.counter l.d l.least l.invariant.2 c.loop-test.false ∙ l.invariant.3
