-- The two orders are the definition's two cases.
use mathlib.Core.Path.{◌∙◌, sym}
use native.Mathlib.Omega.{arith}
use borrow.Author.Tests.{eq-eqb, ne_eqb}
use Rattle.spec_step.specs.TableStep.{decided_in, confluent_in, confluent_rule}
use Rattle.step_transition.proofs.Laws.{led-byte}
use Rattle.step_transition.proofs.confluent.Goals as goal

pub returns-then-row_in-eq0 : goal.returns-then-row_in-eq0
unfolding confluent_in confluent_rule decided_in
returns-then-row_in-eq0 c =
    let answer = c.told.ensures in
    let found = c.decided-found.ensures in
    let led = rw (found.phase, c.next_of-next.ensures) at c.phase_after.ensures in
    rw (eq-eqb _ _ (sym c.row_in.ensures ∙ c.if-row_in-eq0.true)) (record {
      phase = led-byte _ _ answer.0 (answer.1 ∙ led);
      rule = answer.2 ∙ c.rule_told.ensures ∙ (rw c.next_of-next.ensures at found.rule);
      no_rule_held = λ h. absurd (omega (arith, h, answer.0));
    })

pub returns : goal.returns
unfolding confluent_in confluent_rule decided_in
returns c =
    let answer = c.told-2.ensures in
    let found = c.decided-found-2.ensures in
    let led = rw (found.phase, c.advance_of-advance.ensures) at c.phase_after-led.ensures in
    let next = rw led at c.next_of.ensures in
    rw (ne_eqb _ _ (λ q. c.if-row_in-eq0.false (c.row_in.ensures ∙ q))) (record {
      phase = led-byte _ _ answer.0 (answer.1 ∙ next);
      rule = answer.2 ∙ c.rule_told-2.ensures ∙ (rw c.advance_of-advance.ensures at found.rule);
      no_rule_held = λ h. absurd (omega (arith, h, answer.0));
    })
