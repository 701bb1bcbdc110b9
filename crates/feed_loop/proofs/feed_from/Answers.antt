-- The bags' own calls and the one to the end are the whole feed (`both-parts`); the run stored and the records in front of the trace are the
-- whole outcome (`outcome`).
use native.Mathlib.Omega.{arith}
use mathlib.Core.Path.{◌≡◌, ◌∙◌, ap, ap₂}
use mathlib.Core.List.{List}
use mathlib.Core.Bool.{Bool, ◌||◌}
use Prim.Native.Nat.{ℕ}
use lib.Dec.{ltb, eqb}
use lib.ListN.{length}
use Rattle.definition.specs.Lists.{is_empty}
use Rattle.definition.specs.Bytes.{Bytes, number_at, stored}
use Rattle.definition.specs.Limits.{max_bags}
use Rattle.definition.specs.SavedRun.{run_bytes}
use Rattle.definition.specs.Advance as Definition
use Rattle.definition.specs.Feed.{last_moment}
use Rattle.definition.specs.Carrying.{begins}
use Rattle.law_feed.specs.Onward.{feed_onward}
use Rattle.law_feed.proofs.Reading.{read-feed}
use Rattle.run_state.specs.declared.State.{State}
use Rattle.run_state.specs.Held.{held_in}
use Rattle.run_saved.specs.Runs.{run_in}
use Rattle.spec_step.specs.Tables.{atomics_in}
use Rattle.instant_steps.specs.Sim.{sim_of}
use Rattle.instant_attempt.specs.Progress.{progress_of}
use Rattle.instant_attempt.specs.declared.Progress.{Progress}
use Rattle.instant_loop.proofs.Turns.{beyond-on}
use Rattle.feed_loop.specs.Onwards.{bags_in, onward_of, end_of}
use Rattle.feed_loop.proofs.Laws.{few-more}
use Rattle.feed_loop.proofs.Outcome.{none-counted, both-parts, feed-begins, outcome}
use Rattle.feed_loop.proofs.feed_from.Goals as goal

pub advance_to_end-whole-requires : goal.advance_to_end-whole-requires
advance_to_end-whole-requires c =
    let q = c.requires in
    let r = c.advance_bags-own in
    let count = ap (λ b. b.count) q.found_so in
    record {
      lent = rw r.auto.work q.lent;
      moment = q.moment;
      few = few-more c.args.found.count max_bags r.result.ended.progress (omega (arith, count, (read-feed _ _ q.is_feed).few)) r.ensures.few;
      used = omega (arith, r.ensures.went.beyond.within, r.ensures.went.beyond.size);
      fit = q.fit;
      ready = r.ensures.ready;
    }

pub returns : goal.returns
returns c =
    let a = c.args in
    let q = c.requires in
    let t = a.tables.now in
    let bs = bags_in a.feed.now in
    let r = c.advance_bags-own in
    let e = c.advance_to_end-whole in
    -- the state and the trace after the bags' own calls, and after all
    let bags-state : List ℕ = r.new.state in
    let bags-trace : Bytes = r.new.trace in
    let all-state : List ℕ = e.new.state in
    let all-trace : Bytes = e.new.trace in
    let past : Bool = eqb a.found.count 0 || ltb a.found.last a.end.0 in
    let past_is : past ≡ (is_empty bs || ltb (last_moment bs) a.end.0)
    = ap (λ b. eqb b.count 0 || ltb b.last a.end.0) q.found_so ∙ ap (λ b. b || ltb (last_moment bs) a.end.0) (none-counted bs) in
    let ready : List ℕ = c.make_ready.new.state in
    let opening = c.opening_of.result in
    let first : Progress = record { opening = opening; instants = 0; steps = 0; used = 0 } in
    let k = sim_of a.phases.now a.rules.now t (length a.work.now) in
    let from = progress_of a.trace.now t ready first in
    let begun : from ≡ begins (number_at 8 0 a.run.now) (held_in a.state.now)
    = feed-begins a.phases.now a.rules.now t (length a.work.now) a.end.0 bs a.trace.now ready opening.0
    ∙ ap₂ (λ (o : ℕ) (st : State). begins o st) c.opening_of.ensures c.make_ready.ensures.0 in
    let all : onward_of all-trace t all-state e.result ≡ feed_onward k (length a.trace.now) bs a.end.0 from
    = e.ensures.went.same ∙ ap (λ (n : ℕ). end_of a.phases.now a.rules.now t n a.end.0 past bags-trace bags-state r.result) r.auto.work
    ∙ both-parts a.phases.now a.rules.now t (length a.work.now) a.end.0 bs past past_is a.trace.now bags-trace bags-state r.result from
    r.ensures.went.same r.ensures.went.beyond.size in
    let beyond = beyond-on a.trace.now bags-trace all-trace r.result.ended.progress.used e.result.ended.progress.used e.ensures.more
    r.ensures.went.beyond e.ensures.went.beyond in
    let run : c.store.new.run ≡ stored (run_bytes (run_in e.result.ended.progress.opening.0 (atomics_in t) (held_in all-state))) a.run.now
    = c.store.ensures ∙ ap (λ (n : ℕ). stored (run_bytes (run_in e.result.ended.progress.opening.0 n (held_in all-state))) a.run.now) c.atomics_in.ensures in
    outcome t a.run.now c.store.new.run a.trace.now all-trace all-state e.result c.from.result (feed_onward k (length a.trace.now) bs a.end.0 _) c.from.ensures
    (all ∙ ap (λ (z : Definition.Progress State). feed_onward k (length a.trace.now) bs a.end.0 z) begun) beyond run
