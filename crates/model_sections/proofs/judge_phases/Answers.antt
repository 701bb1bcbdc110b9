-- `model_sections::judge_phases` meets its contract. The definition's two tests in its order. Assumes nothing.
use borrow.Author.Tests.{lt-ltb, le-ltb, ne_eqb, eq-eqb}
use Rattle.definition.specs.Pinned.Decoder.{phase_count_refusal}
use Rattle.model_sections.proofs.judge_phases.Goals as goal

pub returns-then-count-gt-MAX_PHASES : goal.returns-then-count-gt-MAX_PHASES
unfolding phase_count_refusal
returns-then-count-gt-MAX_PHASES c = rw (lt-ltb _ _ c.if-count-gt-MAX_PHASES.true)

pub returns-then-count-total : goal.returns-then-count-total
unfolding phase_count_refusal
returns-then-count-total c = rw (le-ltb _ _ c.if-count-gt-MAX_PHASES.false, ne_eqb _ _ c.if-count-total.true)

pub returns : goal.returns
unfolding phase_count_refusal
returns c = rw (le-ltb _ _ c.if-count-gt-MAX_PHASES.false, eq-eqb _ _ c.if-count-total.false)
