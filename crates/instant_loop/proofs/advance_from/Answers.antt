-- Where the instants end (`begins`), the run stored and the records in front of the trace are the whole outcome (`outcome`).
use mathlib.Core.Path.{◌∙◌, refl, ap}
use Prim.Native.Nat.{ℕ}
use lib.ListN.{length}
use Rattle.instant_attempt.specs.declared.Progress.{Progress}
use Rattle.run_state.specs.declared.State.{State}
use Rattle.run_state.specs.Held.{held_in}
use Rattle.instant_steps.specs.Sim.{sim_of}
use Rattle.run_saved.specs.Runs.{run_in}
use Rattle.definition.specs.SavedRun.{run_bytes}
use Rattle.definition.specs.Bytes.{stored, number_at}
use Rattle.definition.specs.Engine.{to_bag}
use Rattle.definition.specs.Advance.{advance_from}
use Rattle.instant_loop.proofs.Outcome.{outcome, begins}
use Rattle.instant_loop.proofs.advance_from.Goals as goal

pub returns : goal.returns
returns c =
    let a = c.args in
    let r = c.advance_on-ended in
    let t = a.tables.now in
    let trace = a.trace.now in
    let k = sim_of a.phases.now a.rules.now t (length a.work.now) in
    let x = to_bag a.bag.now in
    let old = held_in a.state.now in
    let new = r.new.state in
    let first : Progress = record { opening = c.opening_of.result; instants = 0; steps = 0; used = 0 } in
    let e = r.result in
    let put = c.store.ensures ∙ ap (λ (n : ℕ). stored (run_bytes (run_in e.progress.opening.0 n (held_in new))) a.run.now) c.atomics_in.ensures in
    let begun = begins k (length trace) a.t.0 x trace t _ first refl refl refl in
    let from = ap (λ (s : State). advance_from k (length trace) a.t.0 x first.opening.0 s) c.make_ready.ensures.0
    ∙ ap (λ o. advance_from k (length trace) a.t.0 x o old) c.opening_of.ensures in
    outcome t a.run.now c.store.new.run trace r.new.trace new e c.from.result
    (advance_from k (length trace) a.t.0 x (number_at 8 0 a.run.now) old) c.from.ensures (r.ensures.same ∙ begun ∙ from) r.ensures.beyond put
