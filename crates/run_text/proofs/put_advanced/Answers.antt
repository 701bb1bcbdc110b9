-- The engine's answer and buffers are the definition's outcome, so the trace and the last line are those of the outcome's text.
use Rattle.run_text.proofs.Laws.{advanced-text}
use Rattle.definition.specs.Engine.{advance}
use Rattle.call_answers.specs.Answers.{advanced_of}
use mathlib.Core.List.{[]}
use mathlib.Core.Path.{◌≡◌, sym, ◌∙◌, ap}
use Rattle.run_text.proofs.put_advanced.Goals as goal

pub returns : goal.returns
returns c =
    let a = c.args in
    let r = c.advance-answer in
    let n : c.front.result.now ≡ [] = c.front.ensures in
    let e : advanced_of r.new.run r.new.trace r.new.table r.result ≡ advance a.model.now a.run.now a.end [] a.trace.now []
    = r.ensures ∙ ap (λ b. advance a.model.now a.run.now a.end b a.trace.now []) n in
    rw (← e, c.put_last.ensures, c.put_trace-next.ensures, c.front-2.ensures)
    (sym (advanced-text r.new.run r.new.trace r.new.table r.result (a.out.now, a.at)))
