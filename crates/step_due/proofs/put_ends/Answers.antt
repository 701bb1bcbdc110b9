-- Every position passed carries its due moment.
use native.Mathlib.Omega.{arith}
use mathlib.Core.Path.{◌≡◌, ◌∙◌, ap, refl}
use lib.ListN.{get_or, set, length-set}
use Rattle.definition.specs.Engine.{due_number}
use Rattle.model_records.specs.Values.{phases_in}
use Rattle.run_state.specs.Held.{held_in, ends_in}
use Rattle.run_state.proofs.Laws.{ends-size}
use Rattle.step_due.proofs.Laws.{carried-more, due-named}
use Rattle.step_due.proofs.put_ends.Goals as goal

pub loop-i-init : goal.loop-i-init
loop-i-init c = (ends-size _ c.whole.ensures, refl, λ j l. absurd (omega arith))

pub loop-i-preserved : goal.loop-i-preserved
loop-i-preserved c =
    let a = c.args in
    let l = c.loop-i in
    let ps = phases_in a.phases.now in
    let t = a.tables.now in
    let st = held_in l.state in
    let p : c.phase_at-p.result ≡ get_or st.phase l.i 0 = c.phase_at-p.ensures in
    let put = c.put_end.ensures in
    let ends = put.ends ∙ ap (λ u. set (ends_in l.state) l.i (due_number u)) (due-named ps t st l.i _ _ c.row_in-c.ensures p) in
    (rw ends (simp length-set l.invariant.0), put.held ∙ l.invariant.1, rw (put.held, ends) (carried-more ps t st (ends_in l.state) l.i (omega arith) l.invariant.2))
