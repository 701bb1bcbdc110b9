-- The pass tells where the instant ends (`decided`). Where its records are in the scratch the state is the instant's, and otherwise the old one.
use native.Mathlib.Omega.{arith}
use mathlib.Core.Path.{◌≡◌, refl}
use Prim.Native.Nat.{◌-◌}
use lib.ListN.{length}
use borrow.Author.Tests.{le-leb, lt-leb}
use Rattle.std.proofs.Common.{Result, Ok, Err}
use Rattle.law_base.proofs.Tests.{clash}
use Rattle.definition.specs.Instant.{Instant}
use Rattle.run_state.specs.declared.State.{State}
use Rattle.refusals.specs.declared.Refusal.{Refusal}
use Rattle.instant_steps.specs.Sim.{instant_of}
use Rattle.instant_attempt.specs.Pass.{ended_by, Decided}
use Rattle.instant_attempt.specs.declared.Progress.{Progress}
use Rattle.instant_attempt.proofs.Passes.{decided}
use Rattle.instant_attempt.proofs.Tries.{used-of, verdict-again}
use Rattle.instant_attempt.proofs.first_pass.Goals.{After-ended_by-ended}
use Rattle.instant_attempt.proofs.first_pass.Goals as goal

-- The instant as the definition has it.
abbrev whole : After-ended_by-ended → Instant State
whole c = let a = c.args in instant_of a.phases.now a.rules.now a.tables.now (length a.work.now) a.turn.at.0 a.given.now a.state.now

-- ---- the answer

decided-as : (c : After-ended_by-ended) (e : Result Progress Refusal) → let a = c.args in
    e ≡ ended_by (length a.trace.now - a.turn.progress.used) a.turn c.instant-ran.result → Decided a.turn a.tables.now a.state.now a.trace.now (whole c) e
decided-as c e q =
    let a = c.args in
    let r = c.instant-ran in
    decided a.turn a.tables.now a.state.now a.trace.now c.requires.room.used (whole c) r.result r.ensures.0.answer r.ensures.0.few e q

pub overflow_sub-after : goal.overflow_sub-after
overflow_sub-after c =
    let stands = decided-as (goal.at.overflow_sub-after c).After-ended_by-ended (Ok c.in-Ok.after) c.in-Ok.ensures in
    omega (arith, used-of stands)

-- ---- the records are in the scratch

pub returns-then-after-p : goal.returns-then-after-p
returns-then-after-p c =
    let r = c.instant-ran in
    let stands = decided-as (goal.at.returns-then-after-p c).After-ended_by-ended (Ok c.in-Ok.after) c.in-Ok.ensures in
    let j = r.ensures.0 in
    record {
      decided = stands;
      kept = λ _. record { left = j.left; rules = r.ensures.1; recorded = j.recorded; ready = j.ready (verdict-again stands 0 r.result j.answer) };
      back = λ f. absurd (clash (le-leb _ _ c.if-after-p.true) f);
    }

-- ---- the old state

pub returns-else-after-p : goal.returns-else-after-p
returns-else-after-p c = record {
  decided = decided-as (goal.at.returns-else-after-p c).After-ended_by-ended (Ok c.in-Ok.after) c.in-Ok.ensures;
  kept = λ f. absurd (clash f (lt-leb _ _ c.if-after-p.false));
  back = λ _. refl;
}

pub returns-in_default : goal.returns-in_default
returns-in_default c =
    rw c.in_default.is (record {
      decided = decided-as (goal.at.returns-in_default c).After-ended_by-ended (Err c.in_default.field-0) c.in_default.ensures;
      kept = λ f. absurd (clash f refl);
      back = λ _. refl;
    })
