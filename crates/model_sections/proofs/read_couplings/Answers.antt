-- `model_sections::read_couplings` meets its contract. Invariant: record i is the next to be read (Reading), and the key at hand is that of the
-- row before. One that is refused ends the section with its number (reading-refused), and with none left the section is accepted
-- (reading-ends). Assumes nothing.
use native.Mathlib.Omega.{arith}
use mathlib.Core.Path.{◌∙◌}
use Rattle.std.proofs.lemmas.Result.{err_from_is_err_and}
use Rattle.definition.specs.Pinned.Decoder.{coupling_section}
use Rattle.model_records.specs.Values.{couplings_in}
use Rattle.model_checks.proofs.Laws.{behind-next}
use Rattle.model_sections.proofs.Reading.{head-refused, reading-count, reading_refused, reading-is, reading-more, reading-ends}
use Rattle.refusals.proofs.Numbers.{number-above}
use Rattle.model_sections.proofs.Forms.{coupling_form}
use Rattle.model_sections.proofs.read_couplings.Goals as goal

pub returns-in_err-check_head : goal.returns-in_err-check_head
unfolding coupling_section
returns-in_err-check_head c =
    let p = err_from_is_err_and c.from_residual.result c.from_residual.ensures.1 in
    rw (p.1, p.2) (head-refused (coupling_form _) _ c.u16_at-announced.ensures c.judge_limit.ensures c.in_err-check_head.ensures (number-above _))

pub read_coupling-requires : goal.read_coupling-requires
unfolding couplings_in
read_coupling-requires c = let there = reading-count c.loop-i.invariant.0 in
    record { there = omega arith; behind = c.loop-i.invariant.1; placed = c.requires }

pub returns-in_err-coupling : goal.returns-in_err-coupling
unfolding couplings_in coupling_section
returns-in_err-coupling c =
    let p = err_from_is_err_and c.from_residual-in_err-coupling.result c.from_residual-in_err-coupling.ensures.1 in
    rw (p.1, p.2) (reading_refused c.loop-i.invariant.0 c.loop-i-test.true _ c.in_err-coupling.ensures)

pub loop-i-preserved : goal.loop-i-preserved
unfolding couplings_in
loop-i-preserved c =
    let at = c.loop-i.invariant.0 in (
      reading-more at c.loop-i-test.true _ c.in_ok-coupling.ensures,
      behind-next _ c.loop-i.i c.coupling_key-before.result (c.coupling_key-before.ensures ∙ reading-is at c.loop-i-test.true _ c.in_ok-coupling.ensures),
    )

pub returns : goal.returns
unfolding coupling_section
returns c = reading-ends c.loop-i.invariant.0 c.loop-i-test.false
