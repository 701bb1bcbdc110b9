-- The expression is the definition's: a live node from which something may come.
use Rattle.spec_step.specs.TableStep.{may_come, is_open}
use Rattle.step_collect.proofs.is_open.Goals as goal

pub returns : goal.returns
unfolding is_open may_come
returns c = rw (c.may_come.ensures, c.word_in.ensures)
