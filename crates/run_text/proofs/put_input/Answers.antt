-- The first line, then by the input's length the refusal or the run: the laws `input-short` and `input-long`.
use Rattle.run_text.proofs.Laws.{input-short, input-long}
use mathlib.Core.Path.{sym}
use Rattle.run_text.proofs.put_input.Goals as goal

pub returns-then-input-lt-MOMENT_SIZE : goal.returns-then-input-lt-MOMENT_SIZE
returns-then-input-lt-MOMENT_SIZE c =
    let a = c.args in
    rw (c.put_refused.ensures, c.put_text-at.ensures) (sym (input-short a.input.now a.run.now a.trace.now (a.out.now, 0) c.if-input-lt-MOMENT_SIZE.true))

pub returns-else-input-lt-MOMENT_SIZE : goal.returns-else-input-lt-MOMENT_SIZE
returns-else-input-lt-MOMENT_SIZE c =
    let a = c.args in
    rw (c.put_run.ensures, c.u64_at.ensures, c.rest.ensures, c.put_text-at.ensures) (sym (input-long a.input.now a.run.now a.trace.now (a.out.now, 0) c.if-input-lt-MOMENT_SIZE.false))
