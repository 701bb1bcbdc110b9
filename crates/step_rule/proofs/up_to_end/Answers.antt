-- Below the high end and its ticks is up to the end (`below_end`).
use Rattle.std.proofs.Common.{◌+◌, ltb, ◌∙◌, ap}
use Rattle.law_base.specs.Ranges.{ranges_of}
use Rattle.step_rule.proofs.Laws.{below_end}
use Rattle.step_rule.proofs.up_to_end.Goals as goal

pub returns : goal.returns
returns c =
    let e = c.args.elapsed in
    ap (λ b. ltb e.time.0 (c.args.high + b)) c.end_ticks.ensures.0 ∙ below_end (ranges_of e.half_open) e.time.0 c.args.high
