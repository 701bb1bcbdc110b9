-- The first rule that holds from i on is the first from the range's begin on; what the loop returns and what follows it are the cases of the definition.
use Rattle.std.proofs.Common.{map, sym, ap, ◌∙◌, arith}
use Rattle.step_rule.proofs.OneRule.{one_more}
use Rattle.step_rule.specs.Search.{found_of}
use Rattle.law_base.specs.Keys.{message_of}
use Rattle.law_base.specs.Ranges.{ranges_of}
use Rattle.model_records.specs.Values.{rules_in}
use mathlib.Core.Option.{none, some}
use Rattle.step_rule.proofs.deciding.Goals as goal

pub loop-i-preserved : goal.loop-i-preserved
loop-i-preserved c =
    let a = c.args in
    let l = c.loop-i in (
      omega arith,
      one_more (ranges_of a.elapsed.half_open) a.component a.phase a.elapsed.time.0 (map message_of a.bag.now) (rules_in a.rules.now) l.i a.end none (omega arith)
          (ap found_of (sym c.in_default.is) ∙ c.decided_at-here.ensures) ∙ l.invariant.1,
    )

pub returns-in-Some : goal.returns-in-Some
returns-in-Some c =
    let a = c.args in
    let l = c.loop-i in
    one_more (ranges_of a.elapsed.half_open) a.component a.phase a.elapsed.time.0 (map message_of a.bag.now) (rules_in a.rules.now) l.i a.end (some c.in-Some.j) (omega arith)
    (ap found_of (sym c.in-Some.is) ∙ c.decided_at-here.ensures) ∙ l.invariant.1
