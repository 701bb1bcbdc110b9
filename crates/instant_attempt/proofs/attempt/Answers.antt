-- An attempt that may do more steps than any call can do is one without a limit (`spare`).
use lib.ListN.{length}
use Rattle.definition.specs.Engine.{to_bag}
use Rattle.instant_steps.specs.Sim.{sim_of}
use Rattle.instant_attempt.proofs.Spare.{spare}
use Rattle.instant_attempt.proofs.attempt.Goals as goal

pub returns : goal.returns
returns c =
    let a = c.args in
    let r = c.attempt_within in
    let k = sim_of a.phases.now a.rules.now a.tables.now (length a.work.now) in
    spare k a.phases.now a.tables.now a.turn (to_bag a.given.now) a.state.now r.new.state a.trace.now r.new.trace r.result c.requires.room r.ensures
