-- No mark puts nothing, and neither does one past the last record; any other names the phase record that is put.
use native.Mathlib.Omega.{arith}
use Rattle.step_keys.proofs.Laws.{sent-in, sent-out, mark-row}
use Rattle.step_keys.specs.Sent.{sent_on}
use Rattle.spec_step.specs.Put.{puts}
use mathlib.Core.Path.{sym}
use Prim.Native.Nat.{◌-◌}
use borrow.Author.Tests.{eq-eqb, ne_eqb}
use Rattle.step_keys.proofs.put_sent.Goals as goal

pub returns-then-mark-eq0 : goal.returns-then-mark-eq0
unfolding puts sent_on
returns-then-mark-eq0 c = rw (eq-eqb _ _ c.if-mark-eq0.true)

pub returns-then-phases-end : goal.returns-then-phases-end
unfolding sent_on
returns-then-phases-end c =
    let a = c.args in
    rw (ne_eqb _ _ c.if-mark-eq0.false) (sym (sent-out a.phases.now a.q (a.mark - 1) a.own _ (omega (arith, c.if-phases-end.true))))

pub returns : goal.returns
unfolding sent_on
returns c =
    let a = c.args in
    rw (ne_eqb _ _ c.if-mark-eq0.false, ← sent-in a.phases.now (a.mark - 1) (omega (arith, c.if-phases-end.false, c.if-mark-eq0.false)) (mark-row a.phases.now a.mark c.if-mark-eq0.false))
    c.put_slots.ensures
