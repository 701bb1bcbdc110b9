-- `model_sections::judge_components` meets its contract. The definition's own test. Assumes nothing.
use Rattle.definition.specs.Pinned.Decoder.{component_count_refusal}
use Rattle.model_sections.proofs.judge_components.Goals as goal

pub returns-then-count : goal.returns-then-count
unfolding component_count_refusal
returns-then-count c = rw c.if-count.true

pub returns-else-count : goal.returns-else-count
unfolding component_count_refusal
returns-else-count c = rw c.if-count.false
