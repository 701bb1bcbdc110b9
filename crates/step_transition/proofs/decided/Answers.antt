-- The deciding rule among those from the first that names the component to the last, and where it leads.
use mathlib.Core.Path.{◌≡◌, ◌∙◌, sym, ap}
use mathlib.Core.List.{map}
use Prim.Native.Nat.{ℕ, ◌+◌, ◌/◌, ◌%◌}
use Rattle.definition.specs.Atomic.{told_as}
use Rattle.law_base.specs.Keys.{message_of}
use Rattle.model_records.specs.Values.{rules_in}
use Rattle.spec_step.specs.TableStep.{leads, rule_in}
use Rattle.step_rule.specs.Search.{found_of}
use native.Mathlib.Omega.{arith}
use Rattle.step_transition.specs.Changes.{nowhere}
use Rattle.step_transition.proofs.Laws.{led-none, led-byte}
use Rattle.step_transition.proofs.decided.Goals as goal
use Rattle.step_transition.proofs.decided.Goals.{After-deciding}

-- what the search found
abbrev Searched : (k : After-deciding) → Type 0
Searched k = let a = k.args in
    found_of k.deciding.result ≡ rule_in a.tables.now (rules_in a.rules.now) a.c a.p a.elapsed.0 (map message_of a.bag.now)

searched : (k : After-deciding) → Searched k
unfolding rule_in
searched k = rw (k.half_open_in.ensures, k.row_in-end.ensures, k.row_in-first.ensures) at k.deciding.ensures

pub returns-in_default : goal.returns-in_default
unfolding leads told_as
returns-in_default c =
    let answer = c.told.ensures in
    let found = sym (ap found_of c.in_default.is) ∙ searched (goal.at.returns-in_default c).After-deciding in
    record {
      phase = led-none _ (omega arith) ∙ ap (leads (rules_in c.args.rules.now)) found;
      rule = no_rule_held c.told.result answer.2 ∙ ap told_as found;
      no_rule_held = λ h. no_rule_held c.told.result answer.2;
    }
  where
    no_rule_held : (r : ℕ) → r / 256 % 65536 ≡ 65535 → (nowhere + r) / 256 % 65536 ≡ 65535
    no_rule_held r e = omega (arith, e)

pub returns : goal.returns
unfolding leads told_as
returns c =
    let answer = c.told-2.ensures in
    let found = sym (ap found_of c.in-Some.is) ∙ searched (goal.at.returns c).After-deciding in
    record {
      phase = led-byte _ _ answer.0 (answer.1 ∙ c.next_by.ensures) ∙ ap (leads (rules_in c.args.rules.now)) found;
      rule = answer.2 ∙ ap told_as found;
      no_rule_held = λ h. absurd (omega (arith, h, answer.0));
    }
