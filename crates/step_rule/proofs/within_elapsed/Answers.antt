-- The expression is the definition's, the low end as a 64-bit number.
use Rattle.definition.specs.Atomic.{within_elapsed}
use Rattle.step_rule.proofs.within_elapsed.Goals as goal

pub returns : goal.returns
unfolding within_elapsed
returns c = cc
