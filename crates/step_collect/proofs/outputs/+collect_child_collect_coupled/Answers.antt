-- What is put so far and what the rest of the chain gives is all that the coupled component puts out; one coupling more is one call for a
-- child, one level further down. The measures are twice the depth, and one more for the child.
use native.Mathlib.Omega.{arith}
use mathlib.Core.Path.{◌∙◌, sym}
use Rattle.spec_step.specs.Put.{puts}
use Rattle.spec_step.specs.Pull.{child_out, coupled_out}
use Rattle.step_collect.proofs.Laws.{turn-first, turn_more, turn_none, turn_end, coupled-open, coupled-shut}
use Rattle.step_collect.proofs.outputs.+collect_child_collect_coupled.Goals as goal

pub collect_child-returns-then-is_atomic : goal.collect_child-returns-then-is_atomic
unfolding child_out
collect_child-returns-then-is_atomic t c = rw (sym c.is_atomic.ensures ∙ c.if-is_atomic.true) c.put_output.ensures

pub collect_child-returns-then-not-is_open : goal.collect_child-returns-then-not-is_open
unfolding child_out puts
collect_child-returns-then-not-is_open t c =
    let a = c.args in
    let shut = sym c.is_open.ensures ∙ c.if-not-is_open.true in
    rw (sym c.is_atomic.ensures ∙ c.if-is_atomic.false, coupled-shut a.phases.now a.tables.now a.flags.now a.depth a.source shut)

pub collect_child-returns : goal.collect_child-returns
unfolding child_out
collect_child-returns t c = rw (sym c.is_atomic.ensures ∙ c.if-is_atomic.false) c.collect_coupled.ensures

pub collect_coupled-returns-then-depth-eq0 : goal.collect_coupled-returns-then-depth-eq0
unfolding coupled_out puts
collect_coupled-returns-then-depth-eq0 t c = rw c.if-depth-eq0.true

pub collect_coupled-loop-init : goal.collect_coupled-loop-init
collect_coupled-loop-init t c =
    let a = c.args in
    let p = c.requires in
    let all = coupled-open a.phases.now a.tables.now a.flags.now a.depth a.target (omega arith) p.enters in
    turn-first a.target p.in_range p.below all c.first_link-link.ensures

pub collect_coupled-loop-preserved : goal.collect_coupled-loop-preserved
collect_coupled-loop-preserved t c =
    turn_more c.loop.invariant c.requires.in_range c.loop-test.true c.if-link-eq0.false c.collect_child-next.auto.buf
    c.collect_child-next.ensures c.source_of-source.ensures c.next_link-link.ensures

pub collect_coupled-returns-then-link-eq0 : goal.collect_coupled-returns-then-link-eq0
collect_coupled-returns-then-link-eq0 t c = turn_none c.loop.invariant c.if-link-eq0.true

pub collect_coupled-returns : goal.collect_coupled-returns
collect_coupled-returns t c = turn_end c.loop.invariant c.loop-test.false
