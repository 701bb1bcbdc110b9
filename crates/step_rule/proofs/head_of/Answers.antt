-- The two cases of the definition.
use Rattle.std.proofs.Common.{le-ltb, lt-ltb}
use Rattle.step_rule.specs.Search.{head_of}
use Rattle.step_rule.proofs.head_of.Goals as goal

pub returns-then-component-lt256 : goal.returns-then-component-lt256
unfolding head_of
returns-then-component-lt256 c = rw (lt-ltb _ _ c.if-component-lt256.true)

pub returns-else-component-lt256 : goal.returns-else-component-lt256
unfolding head_of
returns-else-component-lt256 c = rw (le-ltb _ _ c.if-component-lt256.false)
