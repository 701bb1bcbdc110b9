-- The definition's two cases, by the side on which the link begins. Assumes nothing.
use mathlib.Core.Bool.{beq}
use mathlib.Core.Path.{sym, ap, ◌∙◌}
use Rattle.accept_ways.specs.Words.{link_on}
use Rattle.accept_ways.proofs.take_side.Goals as goal

pub returns-then-is_output-output : goal.returns-then-is_output-output
unfolding link_on
returns-then-is_output-output c = rw (ap (λ b. beq b c.args.output) (sym c.is_output.ensures) ∙ c.if-is_output-output.true) c.take_link.ensures

pub returns-else-is_output-output : goal.returns-else-is_output-output
unfolding link_on
returns-else-is_output-output c = rw (ap (λ b. beq b c.args.output) (sym c.is_output.ensures) ∙ c.if-is_output-output.false)
