-- The lines of the records left, put on the page as it stands, are all lines put on the first page; the turns left count the records that may be left.
use native.Mathlib.Omega.{arith}
use native.Mathlib.Nat.{sub-zero}
use Rattle.run_text.proofs.Laws.{lines_more, lines-past, lines_none}
use Rattle.run_text.specs.Text.{trace_lines}
use lib.ListN.{length}
use Prim.Native.Nat.{◌-◌, ◌+◌}
use mathlib.Core.Path.{◌≡◌, refl, sym, ◌∙◌}
use Rattle.run_text.proofs.put_trace.Goals as goal

pub loop-init : goal.loop-init
unfolding trace_lines
loop-init c = (refl, rw sub-zero)

pub returns-then-trace-from : goal.returns-then-trace-from
returns-then-trace-from c =
    let a = c.args in let l = c.loop in
    sym (lines-past (length a.trace.now - l.counter) l.from a.trace.now (l.out, l.to) c.if-trace-from.true) ∙ l.invariant.1

pub loop-preserved : goal.loop-preserved
loop-preserved c =
    let a = c.args in let l = c.loop in
    let turns = length a.trace.now - l.counter in
    let one : length a.trace.now - (l.counter + 1) ≡ turns - 1 = omega arith in (
      c.put_record-to.auto.out ∙ l.invariant.0,
      rw (one, c.u16_at.ensures, c.put_record-to.ensures, c.rest-here.ensures)
          (lines_more turns l.from a.trace.now (l.out, l.to) (omega arith) (omega arith) ∙ l.invariant.1),
    )

pub returns : goal.returns
returns c =
    let a = c.args in let l = c.loop in
    let z : length a.trace.now - l.counter ≡ 0 = omega arith in
    sym (lines_none l.from a.trace.now (l.out, l.to)) ∙ (rw z at l.invariant.1)
