-- An output node looks at the marks, an input node at the flags, as the definition does.
use borrow.Author.Tests.{lt-ltb, le-ltb}
use Rattle.spec_step.specs.TableStep.{may_come, is_up}
use Rattle.spec_step.specs.Tables.{is_output, node_component}
use Rattle.step_collect.proofs.may_come.Goals as goal

pub returns-then-source-lt-PORTS : goal.returns-then-source-lt-PORTS
unfolding may_come is_up is_output node_component
returns-then-source-lt-PORTS c = rw (lt-ltb _ _ c.if-source-lt-PORTS.true, c.reach_at.ensures)

pub returns-else-source-lt-PORTS : goal.returns-else-source-lt-PORTS
unfolding may_come is_up is_output node_component
returns-else-source-lt-PORTS c = rw (le-ltb _ _ c.if-source-lt-PORTS.false, c.mark_at.ensures)
