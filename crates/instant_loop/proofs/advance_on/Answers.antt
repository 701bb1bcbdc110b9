-- A call with more steps than its turns can take is one without a limit (`spare`).
use native.Mathlib.Omega.{arith}
use mathlib.Core.Path.{◌≡◌, refl, subst}
use Prim.Native.Nat.{suc}
use lib.ListN.{length}
use Rattle.definition.specs.Engine.{to_bag}
use Rattle.law_channels.proofs.Within.{spare}
use Rattle.clock.specs.Times.{latest}
use Rattle.instant_steps.specs.Sim.{sim_of}
use Rattle.instant_attempt.specs.Progress.{progress_of}
use Rattle.instant_loop.specs.Ends.{AdvancedTo}
use Rattle.instant_loop.proofs.advance_on.Goals as goal

pub returns : goal.returns
returns c =
    let a = c.args in
    let r = c.advance_within in
    let p = progress_of a.trace.now a.tables.now a.state.now a.from in
    let steps : p.steps ≡ a.from.steps = unfold progress_of in refl in
    let k = sim_of a.phases.now a.rules.now a.tables.now (length a.work.now) in
    subst (AdvancedTo a.phases.now a.tables.now a.trace.now r.new.trace r.new.state r.result)
    (spare k latest (length a.trace.now) a.t.0 (to_bag a.bag.now) (suc a.t.0) p (omega (arith, steps, c.requires.steps))) r.ensures
