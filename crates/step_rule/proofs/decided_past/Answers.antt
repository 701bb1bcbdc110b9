-- No position is left; or the first one decides; or it does not, and no later one does.
use Rattle.std.proofs.Common.{◌≡◌, ℕ, Bool, map, get_or, sym, ap, ◌∙◌, arith}
use Rattle.step_rule.proofs.Heads.{none-past}
use Rattle.step_rule.proofs.Laws.{first-here, first-none}
use Rattle.spec_step.specs.TableStep.{deciding_in}
use Rattle.law_base.specs.Keys.{message_of}
use Rattle.law_base.specs.Ranges.{ranges_of}
use Rattle.model_records.specs.Values.{rules_in}
use Rattle.definition.specs.Model.{no_rule}
use Rattle.definition.specs.Atomic.{holds}
use Rattle.step_rule.proofs.decided_past.Goals as goal

pub returns-then-end-i : goal.returns-then-end-i
unfolding deciding_in
returns-then-end-i c = first-none _ c.args.end c.args.i c.if-end-i.true

pub returns-then-rule_holds : goal.returns-then-rule_holds
unfolding deciding_in
returns-then-rule_holds c =
    let a = c.args in
    let p : ℕ → Bool = λ j. holds (ranges_of a.elapsed.half_open) a.component a.phase a.elapsed.time.0 (map message_of a.bag.now) (get_or (rules_in a.rules.now) j no_rule) in
    let e : p a.i ≡ c.rule_holds.result = ap (holds (ranges_of a.elapsed.half_open) a.component a.phase a.elapsed.time.0 (map message_of a.bag.now)) (sym c.rule_at-rule.ensures) ∙ sym c.rule_holds.ensures in
    first-here p a.end a.i (omega arith) (e ∙ c.if-rule_holds.true)

pub returns : goal.returns
returns c =
    let a = c.args in
    let h = holds (ranges_of a.elapsed.half_open) a.component a.phase a.elapsed.time.0 (map message_of a.bag.now) in
    none-past a.rules.now (ranges_of a.elapsed.half_open) a.component a.phase a.elapsed.time.0 (map message_of a.bag.now) a.i a.end (omega arith) (ap h (sym c.rule_at-rule.ensures) ∙ sym c.rule_holds.ensures ∙ c.if-rule_holds.false)
