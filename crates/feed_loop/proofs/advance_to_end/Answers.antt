-- Where no call has stopped the feed, and the end lies past the last bag, the call goes on from the bags' own (`end_goes`).
use mathlib.Core.Path.{◌≡◌, ◌∙◌, refl, ap}
use mathlib.Core.List.{[]}
use Prim.Native.Nat.{suc}
use lib.ListN.{length}
use Rattle.definition.specs.Bytes.{chunks}
use Rattle.definition.specs.Limits.{max_bags}
use Rattle.definition.specs.Engine.{to_bag}
use Rattle.definition.specs.Advance.{advancing}
use Rattle.definition.specs.Advance as Definition
use Rattle.run_state.specs.declared.State.{State}
use Rattle.instant_steps.specs.Sim.{sim_of}
use Rattle.instant_attempt.specs.Progress.{progress_of}
use Rattle.feed_loop.proofs.Laws.{called_on, end_goes}
use Rattle.feed_loop.proofs.advance_to_end.Goals as goal

pub returns : goal.returns
returns c =
    let a = c.args in
    let trace = a.trace.now in
    let k = sim_of a.phases.now a.rules.now a.tables.now (length a.work.now) in
    let from = progress_of trace a.tables.now a.state.now a.own.ended.progress in
    let none : to_bag [] ≡ [] = unfold to_bag chunks in refl in
    let q = c.requires in
    record {
      went = record {
        same = ap (λ (d : Definition.Ended State). record { bags = a.own.bags; end = d })
            (c.advance_on-ended.ensures.same ∙ ap (λ x. advancing k (length trace) a.end.0 x (suc a.end.0) from) none)
            ∙ end_goes a.phases.now a.rules.now a.tables.now (length a.work.now) a.end.0 a.past trace a.state.now a.own (rw c.is_some.ensures at c.if-is_some-past.false);
        beyond = c.advance_on-ended.ensures.beyond;
      };
      more = (called_on a.phases.now a.tables.now k trace trace _ a.state.now _ a.own.ended.progress c.advance_on-ended.result a.end.0 (to_bag []) q.moment max_bags
          q.few (record { within = q.used; size = refl; same = refl }) c.advance_on-ended.ensures).more;
    }
