-- What is given at the root; nothing at a closed node; the call at an open one.
use borrow.Author.Tests.{lt-ltb, le-ltb}
use mathlib.Core.Path.{◌≡◌, sym, ◌∙◌}
use mathlib.Core.Bool.{true, false}
use Rattle.spec_step.specs.Put.{puts}
use Rattle.spec_step.specs.Tables.{is_root_node}
use Rattle.step_collect.proofs.Laws.{input-root, input-shut}
use Rattle.step_collect.proofs.collect_arriving.Goals as goal

pub returns-then-target-lt-PORT_NODES : goal.returns-then-target-lt-PORT_NODES
returns-then-target-lt-PORT_NODES c =
    let a = c.args in
    let r : is_root_node a.target ≡ true = unfold is_root_node in lt-ltb _ _ c.if-target-lt-PORT_NODES.true in
    rw (input-root a.phases.now a.tables.now a.flags.now a.given.now 8 a.target r) (rw c.port_of.ensures at c.put_given.ensures)

pub returns-then-not-is_open : goal.returns-then-not-is_open
unfolding puts
returns-then-not-is_open c =
    let a = c.args in
    let r : is_root_node a.target ≡ false = unfold is_root_node in le-ltb _ _ c.if-target-lt-PORT_NODES.false in
    rw (input-shut a.phases.now a.tables.now a.flags.now a.given.now 8 a.target r (sym c.is_open.ensures ∙ c.if-not-is_open.true))
