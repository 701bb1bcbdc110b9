-- What is put so far and what the rest of the chain gives is all that arrives at the input; one coupling more is one call for its source, one
-- level further up. The measures are twice the depth, and one more for the source.
use borrow.Author.Tests.{lt-ltb, le-ltb}
use native.Mathlib.Omega.{arith}
use mathlib.Core.Path.{◌≡◌, ◌∙◌, sym}
use mathlib.Core.Bool.{true, false}
use Rattle.spec_step.specs.Tables.{is_root_node, is_output}
use Rattle.spec_step.specs.Put.{puts}
use Rattle.spec_step.specs.Pull.{child_out, source_in}
use Rattle.step_collect.proofs.Laws.{turn-first, turn_more, turn_none, turn_end, input-root, input_none, input-open, input-shut, coupled-shut}
use Rattle.step_collect.proofs.inputs.+collect_input_collect_source.Goals as goal

pub collect_input-returns-then-depth-eq0 : goal.collect_input-returns-then-depth-eq0
unfolding puts
collect_input-returns-then-depth-eq0 t c =
    let a = c.args in
    let r : is_root_node a.target ≡ false = unfold is_root_node in le-ltb _ _ c.requires.not_root in
    rw (c.if-depth-eq0.true, input_none a.phases.now a.tables.now a.flags.now a.given.now a.target r)

pub collect_input-loop-init : goal.collect_input-loop-init
collect_input-loop-init t c =
    let a = c.args in
    let p = c.requires in
    let r : is_root_node a.target ≡ false = unfold is_root_node in le-ltb _ _ p.not_root in
    let all = input-open a.phases.now a.tables.now a.flags.now a.given.now a.depth a.target r (omega arith) p.enters in
    turn-first a.target p.in_range p.below all c.first_link-link.ensures

pub collect_input-loop-preserved : goal.collect_input-loop-preserved
collect_input-loop-preserved t c =
    turn_more c.loop.invariant c.requires.in_range c.loop-test.true c.if-link-eq0.false c.collect_source-next.auto.buf
    c.collect_source-next.ensures c.source_of-source.ensures c.next_link-link.ensures

pub collect_input-returns-then-link-eq0 : goal.collect_input-returns-then-link-eq0
collect_input-returns-then-link-eq0 t c = turn_none c.loop.invariant c.if-link-eq0.true

pub collect_input-returns : goal.collect_input-returns
collect_input-returns t c = turn_end c.loop.invariant c.loop-test.false

pub collect_source-returns-then-source-lt-PORT_NODES : goal.collect_source-returns-then-source-lt-PORT_NODES
unfolding source_in is_output
collect_source-returns-then-source-lt-PORT_NODES t c =
    let a = c.args in
    let r : is_root_node a.source ≡ true = unfold is_root_node in lt-ltb _ _ c.if-source-lt-PORT_NODES.true in
    rw (lt-ltb _ _ c.if-source-lt-PORTS.true, input-root a.phases.now a.tables.now a.flags.now a.given.now a.depth a.source r)
    (rw c.port_of.ensures at c.put_given.ensures)

pub collect_source-returns-then-not-is_open : goal.collect_source-returns-then-not-is_open
unfolding source_in is_output puts
collect_source-returns-then-not-is_open t c =
    let a = c.args in
    let r : is_root_node a.source ≡ false = unfold is_root_node in le-ltb _ _ c.if-source-lt-PORT_NODES.false in
    let shut = sym c.is_open.ensures ∙ c.if-not-is_open.true in
    rw (lt-ltb _ _ c.if-source-lt-PORTS.true, input-shut a.phases.now a.tables.now a.flags.now a.given.now a.depth a.source r shut)

pub collect_source-returns-then-source-lt-PORTS : goal.collect_source-returns-then-source-lt-PORTS
unfolding source_in is_output
collect_source-returns-then-source-lt-PORTS t c = rw (lt-ltb _ _ c.if-source-lt-PORTS.true) c.collect_input.ensures

pub collect_source-returns-then-is_atomic : goal.collect_source-returns-then-is_atomic
unfolding source_in is_output child_out
collect_source-returns-then-is_atomic t c =
    rw (le-ltb _ _ c.if-source-lt-PORTS.false, sym c.is_atomic.ensures ∙ c.if-is_atomic.true) c.put_output.ensures

pub collect_source-returns-then-not-is_open-2 : goal.collect_source-returns-then-not-is_open-2
unfolding source_in is_output child_out puts
collect_source-returns-then-not-is_open-2 t c =
    let a = c.args in
    let shut = coupled-shut a.phases.now a.tables.now a.flags.now 8 a.source (sym c.is_open-2.ensures ∙ c.if-not-is_open-2.true) in
    rw (le-ltb _ _ c.if-source-lt-PORTS.false, sym c.is_atomic.ensures ∙ c.if-is_atomic.false, shut)

pub collect_source-returns : goal.collect_source-returns
unfolding source_in is_output child_out
collect_source-returns t c =
    rw (le-ltb _ _ c.if-source-lt-PORTS.false, sym c.is_atomic.ensures ∙ c.if-is_atomic.false) c.collect_coupled.ensures
