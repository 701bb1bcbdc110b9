-- Due or not: the two cases of the definition with messages in the bag.
use mathlib.Core.Option.{some}
use mathlib.Core.Path.{◌∙◌, ap}
use Rattle.run_state.specs.Held.{held_in}
use Rattle.model_records.specs.Values.{phases_in, rules_in}
use Rattle.step_transition.proofs.Laws.{confluent-case, external-case, confluent-part, external-part}
use Rattle.step_transition.proofs.lead.Goals as goal

pub returns-then-due : goal.returns-then-due
returns-then-due c =
    let a = c.args in
    let ps = phases_in a.phases.now in
    let rs = rules_in a.rules.now in
    let st = held_in a.state.now in
    let both = rw c.phase_at-p.ensures at c.confluent.ensures in
    rw c.if-due.true (record {
      phase = both.phase ∙ confluent-case ps a.tables.now rs a.at.0 st a.i a.c a.bag.now c.requires.2;
      part = ap some both.rule ∙ confluent-part ps a.tables.now rs a.at.0 st a.i a.c a.bag.now c.requires.2;
      no_rule_held = both.no_rule_held;
    })

pub returns : goal.returns
returns c =
    let a = c.args in
    let ps = phases_in a.phases.now in
    let rs = rules_in a.rules.now in
    let st = held_in a.state.now in
    let elapsed = rw (c.since-elapsed.ensures, c.last_at.ensures) at c.decided.ensures in
    let found = rw c.phase_at-p.ensures at elapsed in
    rw c.if-due.false (record {
      phase = found.phase ∙ external-case ps a.tables.now rs a.at.0 st a.i a.c a.bag.now c.requires.2;
      part = ap some found.rule ∙ external-part ps a.tables.now rs a.at.0 st a.i a.c a.bag.now c.requires.2;
      no_rule_held = found.no_rule_held;
    })
