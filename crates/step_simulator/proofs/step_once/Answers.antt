-- The marks and flags over zeros are the definition's, and then the step is the definition's with them.
use Rattle.step_simulator.proofs.Laws.{step_is, count-bag}
use Rattle.definition.specs.Engine.{to_bag}
use Rattle.run_state.specs.Held.{held_in, ends_in}
use Rattle.model_records.specs.Values.{phases_in, rules_in}
use Rattle.spec_step.specs.TableStep.{root_room}
use Rattle.step_collect.specs.Collected.{root_keys_for}
use lib.ListN.{length}
use mathlib.Core.Path.{◌∙◌}
use Rattle.step_simulator.proofs.step_once.Goals as goal

pub returns : goal.returns
returns c =
    let a = c.args in
    let q = c.requires in
    let ps = phases_in a.phases.now in
    let t = a.tables.now in
    let due = c.mark.new.flags in
    let flags = c.reach.new.flags in
    let s = c.change_all.ensures in
    let b = rw c.change_all.auto.work at c.root_bag.ensures in
    let w = a.state.now in
    rw (step_is ps t (rules_in a.rules.now) a.n (length a.work.now) a.at.0 (to_bag a.given.now) (held_in w) (ends_in w) due flags
    q.changeable.carried q.moment c.mark.ensures c.reach.ensures)
    (record {
      state = s.state;
      rules = s.rules;
      carried = s.carried;
      size = b.size ∙ count-bag (root_room (length a.work.now)) (root_keys_for a.phases.now t flags);
      bag = b.bag;
    })
