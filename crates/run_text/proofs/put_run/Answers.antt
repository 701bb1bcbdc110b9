-- The engine's answer and buffer are the definition's outcome of start; its number chooses between the refusal and the advance.
use Rattle.run_text.proofs.Laws.{started-on, started-off}
use Rattle.definition.specs.Engine.{start}
use Rattle.call_answers.specs.Answers.{wrote_of}
use mathlib.Core.Path.{◌≡◌}
use Rattle.run_text.proofs.put_run.Goals as goal

pub returns-then-started-eq0 : goal.returns-then-started-eq0
returns-then-started-eq0 c =
    let a = c.args in
    let s = c.start-started in
    let e : wrote_of s.new.run s.result ≡ start a.model.now a.run.now = s.ensures in
    rw (← e, started-on a.model.now a.end a.trace.now s.new.run s.result c.if-started-eq0.true) c.put_advanced.ensures

pub returns-else-started-eq0 : goal.returns-else-started-eq0
returns-else-started-eq0 c =
    let a = c.args in
    let s = c.start-started in
    let e : wrote_of s.new.run s.result ≡ start a.model.now a.run.now = s.ensures in
    rw (← e, started-off a.model.now a.end a.trace.now s.new.run s.result c.if-started-eq0.false) c.put_refused.ensures
