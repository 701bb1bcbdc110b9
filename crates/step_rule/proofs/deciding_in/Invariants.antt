-- What is found from the position on is what is found at all.
use Rattle.std.proofs.Common.{◌≡◌, map}
use Rattle.spec_step.specs.TableStep.{deciding_in}
use Rattle.law_base.specs.Keys.{message_of}
use Rattle.law_base.specs.Ranges.{ranges_of}
use Rattle.model_records.specs.Values.{rule_of}
use Rattle.step_rule.proofs.deciding_in.Given as goal

abbrev pub invariant-loop-i : goal.invariant-loop-i
invariant-loop-i l =
    deciding_in (ranges_of l.elapsed.half_open) (map rule_of l.rules) l.i l.end l.component l.phase l.elapsed.time.0 (map message_of l.bag)
    ≡ deciding_in (ranges_of l.elapsed.half_open) (map rule_of l.rules) l.first l.end l.component l.phase l.elapsed.time.0 (map message_of l.bag)
