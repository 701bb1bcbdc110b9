-- Led into a phase, the entry is set and its due moment with it; led nowhere, both are what they were; an internal transition leaves the rule.
use mathlib.Core.Path.{◌∙◌, sym, ap}
use mathlib.Core.Option.{some}
use native.Mathlib.Omega.{arith}
use Rattle.definition.specs.Engine.{due_number}
use Rattle.run_state.specs.Held.{held_in, last_rules_in, ends_in}
use Rattle.run_state.proofs.Laws.{held-size}
use Rattle.model_records.specs.Values.{phases_in, rules_in}
use Rattle.spec_step.specs.TableStep.{due_at_position, changed_by}
use Rattle.step_transition.proofs.Laws.{led-byte, led-none, led-nowhere, led-into, internal-case, still-state, still-rules, put_some, end_kept, entered-ends}
use Rattle.step_transition.proofs.transition.Goals as goal

-- internal: the next phase
pub returns-then-due : goal.returns-then-due
unfolding changed_by
returns-then-due c =
    let a = c.args in
    let ps = phases_in a.phases.now in
    let rs = rules_in a.rules.now in
    let st = held_in a.state.now in
    let entry = c.put_at.ensures in
    let end = c.put_end.ensures in
    let set = entry.held in
    let next = rw c.phase_at.ensures at c.next_of-next.ensures in
    let led = ap some next ∙ internal-case ps a.tables.now rs a.at.0 st a.i a.c a.bag.now c.if-bag-eq0.true in
    rw c.if-due.true (record {
      state = end.held ∙ set ∙ led-into a.at.0 st a.i _ _ led;
      rules = end.rules ∙ entry.rules ∙ still-rules ps a.tables.now rs a.at.0 st a.i a.c _ _ a.bag.now c.if-bag-eq0.true;
      ends = entered-ends a.phases.now a.tables.now a.state.now _ _ _ a.i a.c c.next_of-next.result a.at.0 set (held-size a.state.now c.whole.ensures).0 entry.ends c.requires end;
    })

-- nothing is due, and nothing comes
pub returns-else-due : goal.returns-else-due
returns-else-due c =
    let a = c.args in
    let ps = phases_in a.phases.now in
    let rs = rules_in a.rules.now in
    let st = held_in a.state.now in
    rw c.if-due.false (record {
      state = still-state ps a.tables.now rs a.at.0 st a.i a.c a.bag.now c.if-bag-eq0.true;
      rules = still-rules ps a.tables.now rs a.at.0 st a.i a.c _ _ a.bag.now c.if-bag-eq0.true;
      ends = end_kept (ends_in a.state.now) a.i _ c.requires.carried;
    })

-- messages come
pub returns-then-answer-ge-NOWHERE : goal.returns-then-answer-ge-NOWHERE
unfolding changed_by
returns-then-answer-ge-NOWHERE c =
    let a = c.args in
    let put = c.put_no_rule.ensures in
    let leads = c.lead-answer.ensures in
    let told = ap some (sym (leads.no_rule_held c.if-answer-ge-NOWHERE.true)) ∙ leads.part in
    record {
      state = put.held ∙ led-nowhere a.at.0 (held_in a.state.now) a.i _ (sym (led-none c.lead-answer.result c.if-answer-ge-NOWHERE.true) ∙ leads.phase);
      rules = put.rules ∙ put_some (last_rules_in a.state.now) a.i _ _ told;
      ends = put.ends ∙ end_kept (ends_in a.state.now) a.i _ (c.requires.carried ∙ ap (λ st. due_number (due_at_position (phases_in a.phases.now) a.tables.now st a.i)) (sym put.held));
    }

pub returns : goal.returns
unfolding changed_by
returns c =
    let a = c.args in
    let st = held_in a.state.now in
    let entry = c.put_led.ensures in
    let end = c.put_end-2.ensures in
    let set = entry.held in
    let leads = c.lead-answer.ensures in
    let byte = led-byte c.lead-answer.result c.phase_told-p.result (omega (arith, c.if-answer-ge-NOWHERE.false)) (sym c.phase_told-p.ensures) in
    let told = ap some c.rule_told.ensures ∙ leads.part in
    record {
      state = end.held ∙ set ∙ led-into a.at.0 st a.i _ _ (sym byte ∙ leads.phase);
      rules = end.rules ∙ entry.rules ∙ put_some (last_rules_in a.state.now) a.i _ _ told;
      ends = entered-ends a.phases.now a.tables.now a.state.now _ _ _ a.i a.c c.phase_told-p.result a.at.0 set (held-size a.state.now c.whole.ensures).0 entry.ends c.requires end;
    }
