-- The turns left give from here what all of them give from the start, and the trace beyond the records is as lent; a turn keeps that
-- (`continues`), or it ends the call: at t (`ends_last`), or by a refusal (`ends-stop`). The due moments go along with the state (`Ready`).
-- Instants and steps have room for the turns left, so that no sum overflows.
use native.Mathlib.Omega.{arith}
use mathlib.Core.Path.{◌≡◌, ◌∙◌, sym, subst}
use Prim.Native.Nat.{ℕ, suc, ◌≤◌, ◌+◌, ◌-◌}
use lib.ListN.{length}
use Rattle.std.proofs.Common.{Result, Ok, Err}
use Rattle.definition.specs.Bytes.{Bytes}
use Rattle.definition.specs.Step.{Simulator}
use Rattle.definition.specs.Engine.{to_bag}
use Rattle.definition.specs.Instant.{instant}
use Rattle.definition.specs.Advance as Definition
use Rattle.law_base.proofs.Turns.{no-turn-within}
use Rattle.refusals.specs.declared.Refusal.{Refusal}
use Rattle.run_state.specs.declared.State.{State}
use Rattle.run_state.specs.Held.{held_in}
use Rattle.instant_steps.specs.Sim.{sim_of}
use Rattle.instant_attempt.specs.Progress.{progress_of}
use Rattle.instant_attempt.specs.declared.Progress.{Progress}
use Rattle.instant_loop.specs.Ends.{given_to, within_of}
use Rattle.instant_loop.proofs.Turns.{TriedAt, next_of, next-as, next-most, ends-stop, ends_last, continues}
use Rattle.instant_loop.proofs.advance_within.Goals.{After-next_moment-at, After-attempt_within-tried}
use Rattle.instant_loop.proofs.advance_within.Goals as goal

-- ---- a turn

-- The next moment is at t or before.
most : (c : After-next_moment-at) → c.next_moment-at.result.0 ≤ c.args.t.0
most c = next-most c.next_due.result c.args.t.0 c.next_moment-at.result.0 c.next_moment-at.ensures

-- ---- the instant tried

-- What takes the steps.
abbrev sim : After-attempt_within-tried → Simulator State
sim c = let a = c.args in sim_of a.phases.now a.rules.now a.tables.now (length a.work.now)

-- What all turns give from the start.
abbrev whole : After-attempt_within-tried → Definition.Ended State
whole c =
    let a = c.args in
    within_of a.phases.now a.rules.now a.tables.now (length a.work.now) a.has (length a.trace.now) a.t.0 a.bag.now (suc a.t.0)
    (progress_of a.trace.now a.tables.now a.state.now a.from)

-- The turns that are left after this one.
abbrev left : After-attempt_within-tried → ℕ
left c = suc c.args.t.0 - (c.loop.counter + 1)

from_here : (c : After-attempt_within-tried) → let a = c.args in let l = c.loop in
    within_of a.phases.now a.rules.now a.tables.now (length a.work.now) a.has (length a.trace.now) a.t.0 a.bag.now (suc (left c)) (progress_of l.trace a.tables.now l.state l.p) ≡ whole c
from_here c =
    let one : suc c.args.t.0 - c.loop.counter ≡ suc (left c) = omega (arith, c.loop-test.true) in
    rw one at c.loop.invariant.from_here

next : (c : After-attempt_within-tried) → c.next_moment-at.result.0 ≡ next_of ((sim c).next (held_in c.loop.state)) c.args.t.0
next c =
    let due = c.next_due in
    next-as ((sim c).next (held_in c.loop.state)) due.result c.args.t.0 c.next_moment-at.result.0 (due.ensures ∙ c.loop.invariant.ready.next)
    (omega (arith, c.requires.moment)) c.next_moment-at.ensures

-- It was tried on the words of the start, with what t is given.
abbrev TriedHere : After-attempt_within-tried → Result Progress Refusal → Simulator State → Bytes → Type 0
TriedHere c e k given =
    let a = c.args in
    let l = c.loop in
    let r = c.attempt_within-tried in
    let v = c.next_moment-at.result.0 in
    TriedAt a.phases.now a.tables.now a.has v l.p l.state r.new.state l.trace r.new.trace (instant k v (to_bag given) (held_in l.state)) e

tried : (c : After-attempt_within-tried) (e : Result Progress Refusal)
    → TriedHere c e (let a = c.args in sim_of a.phases.now a.rules.now a.tables.now (length c.loop.work)) c.given_to-given.result.now
    → TriedHere c e (sim c) (given_to c.args.bag.now c.next_moment-at.result.0 c.args.t.0)
tried c e h =
    let a = c.args in
    let k : ℕ → Simulator State = λ m. sim_of a.phases.now a.rules.now a.tables.now m in
    subst (TriedHere c e (sim c)) c.given_to-given.ensures (subst (λ (m : ℕ). TriedHere c e (k m) c.given_to-given.result.now) c.loop.auto.work h)

pub returns-in-Err : goal.returns-in-Err
returns-in-Err c =
    let here = (goal.at.returns-in-Err c).After-attempt_within-tried in
    let moment = (goal.at.returns-in-Err c).After-next_moment-at in
    let a = c.args in
    let l = c.loop in
    let r = c.attempt_within-tried in
    ends-stop a.phases.now a.tables.now (sim here) a.has a.t.0 a.bag.now (whole here) a.trace.now l.trace l.state l.p (left here) (from_here here) l.invariant.beyond
    r.new.trace r.new.state c.next_moment-at.result.0 (next here) (most moment) c.in-Err.refusal (tried here (Err c.in-Err.refusal) c.in-Err.ensures)

pub returns-then-t-at : goal.returns-then-t-at
returns-then-t-at c =
    let here = (goal.at.returns-then-t-at c).After-attempt_within-tried in
    let moment = (goal.at.returns-then-t-at c).After-next_moment-at in
    let a = c.args in
    let l = c.loop in
    let r = c.attempt_within-tried in
    ends_last a.phases.now a.tables.now (sim here) a.has a.t.0 a.bag.now (whole here) a.trace.now l.trace l.state l.p (left here) (from_here here) l.invariant.beyond
    r.new.trace r.new.state c.next_moment-at.result.0 (next here) (most moment) c.in-Ok.after (tried here (Ok c.in-Ok.after) c.in-Ok.ensures) c.if-t-at.true
    c.finish.result c.finish.ensures

pub loop-preserved : goal.loop-preserved
loop-preserved c =
    let here = (goal.at.loop-preserved c).After-attempt_within-tried in
    let moment = (goal.at.loop-preserved c).After-next_moment-at in
    let a = c.args in
    let l = c.loop in
    let r = c.attempt_within-tried in
    let more = c.loop-test.true in
    let done = c.in-Ok.ensures in
    let on = continues a.phases.now a.tables.now (sim here) a.has a.t.0 a.bag.now (whole here) a.trace.now l.trace l.state l.p (left here) (from_here here) l.invariant.beyond
    r.new.trace r.new.state c.next_moment-at.result.0 (next here) (most moment) c.in-Ok.after (tried here (Ok c.in-Ok.after) done) c.if-t-at.false in record {
      instants = omega (arith, more, done.instants, l.invariant.instants);
      steps = omega (arith, more, done.steps, l.invariant.steps);
      beyond = on.0;
      from_here = on.1;
      ready = done.ready;
    }

-- ---- no turn is left

pub returns : goal.returns
returns c =
    let a = c.args in
    let l = c.loop in
    let k = sim_of a.phases.now a.rules.now a.tables.now (length a.work.now) in
    let none = no-turn-within k a.has (length a.trace.now) a.t.0 (to_bag a.bag.now) (suc a.t.0 - l.counter) (progress_of l.trace a.tables.now l.state l.p)
    (omega (arith, c.loop-test.false)) in
    record { same = sym none ∙ l.invariant.from_here; beyond = l.invariant.beyond; ready = l.invariant.ready }
