-- A closed node has nothing; any other is the call.
use Rattle.step_collect.proofs.Laws.{coupled-shut}
use Rattle.spec_step.specs.Put.{puts}
use mathlib.Core.Path.{sym, ◌∙◌}
use Rattle.step_collect.proofs.collect_leaving.Goals as goal

pub returns-then-not-is_open : goal.returns-then-not-is_open
unfolding puts
returns-then-not-is_open c =
    let a = c.args in
    rw (coupled-shut a.phases.now a.tables.now a.flags.now 8 a.target (sym c.is_open.ensures ∙ c.if-not-is_open.true))
