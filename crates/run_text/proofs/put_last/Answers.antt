-- The test on the number chooses the line, as in the definition.
use Rattle.run_text.specs.Text.{last_line}
use borrow.Author.Tests.{eq-eqb, ne_eqb}
use Rattle.run_text.proofs.put_last.Goals as goal

pub returns-then-refusal-eq0 : goal.returns-then-refusal-eq0
unfolding last_line
returns-then-refusal-eq0 c =
    let a = c.args in
    rw (c.put_end.ensures, c.u64_at.ensures, eq-eqb a.refusal 0 c.if-refusal-eq0.true)

pub returns-else-refusal-eq0 : goal.returns-else-refusal-eq0
unfolding last_line
returns-else-refusal-eq0 c =
    let a = c.args in
    rw (c.put_refused.ensures, ne_eqb a.refusal 0 c.if-refusal-eq0.false)
