-- `model_sections::judge_limit` meets its contract. The definition's own test. Assumes nothing.
use borrow.Author.Tests.{lt-ltb, le-ltb}
use Rattle.definition.specs.Pinned.Decoder.{limit_refusal}
use Rattle.model_sections.proofs.judge_limit.Goals as goal

pub returns-then-limit-count : goal.returns-then-limit-count
unfolding limit_refusal
returns-then-limit-count c = rw (lt-ltb _ _ c.if-limit-count.true)

pub returns-else-limit-count : goal.returns-else-limit-count
unfolding limit_refusal
returns-else-limit-count c = rw (le-ltb _ _ c.if-limit-count.false)
