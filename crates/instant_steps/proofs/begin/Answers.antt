-- Cleared where the test of the first step passes, and untouched otherwise.
use mathlib.Core.Path.{◌≡◌, ◌∙◌, refl, sym, ap}
use mathlib.Core.Bool.{◌||◌, not}
use lib.Dec.{eqb}
use Rattle.definition.specs.Lists.{is_empty}
use Rattle.definition.specs.Engine.{to_bag}
use Rattle.run_state.specs.Held.{next_in}
use Rattle.instant_steps.proofs.begin.Goals as goal

pub returns-then-goes_on : goal.returns-then-goes_on
returns-then-goes_on c =
    let Test : Type 0 = let a = c.args in
    (eqb (next_in a.state.now) a.at.0 || not (is_empty (to_bag a.given.now))) ≡ c.goes_on.result in
    let tested : Test = let a = c.args in
    ap (λ d. eqb d a.at.0 || not (is_empty (to_bag a.given.now))) (sym c.next_due.ensures) ∙ sym c.goes_on.ensures in
    let cleared = c.clear_rules.ensures in
    record {
      held = cleared.held;
      rules = rw (tested ∙ c.if-goes_on.true) cleared.rules;
      ends = cleared.ends;
      next = cleared.next;
    }

pub returns-else-goes_on : goal.returns-else-goes_on
returns-else-goes_on c =
    let Test : Type 0 = let a = c.args in
    (eqb (next_in a.state.now) a.at.0 || not (is_empty (to_bag a.given.now))) ≡ c.goes_on.result in
    let tested : Test = let a = c.args in
    ap (λ d. eqb d a.at.0 || not (is_empty (to_bag a.given.now))) (sym c.next_due.ensures) ∙ sym c.goes_on.ensures in
    record { held = refl; rules = rw (tested ∙ c.if-goes_on.false); ends = refl; next = refl }
