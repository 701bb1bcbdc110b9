-- The flag read is the definition's test, and the store its one side: the tables have such a row. Assumes nothing.
use borrow.Author.Rules.{rules}
use Prim.Native.Nat.{◌*◌}
use mathlib.Core.Bool.{true, false}
use mathlib.Core.Path.{◌≡◌}
use borrow.Author.Tests.{lt-ltb}
use Rattle.definition.specs.Limits.{max_components}
use Rattle.spec_step.specs.Tables.{port_nodes}
use Rattle.spec_step.specs.Tabled.{is_live}
use Rattle.table_words.specs.Writes.{put_in}
use Rattle.table_couplings.specs.Links.{spread}
use Rattle.table_couplings.proofs.spread_one.Goals as goal

pub returns-then-not-t-x : goal.returns-then-not-t-x
unfolding spread put_in
returns-then-not-t-x c =
    let a = c.args in
    let e : is_live a.t.now a.x ≡ true = unfold is_live in search rules in
    rw (e, lt-ltb a.y (port_nodes * max_components) c.requires.1)

pub returns-else-not-t-x : goal.returns-else-not-t-x
unfolding spread
returns-else-not-t-x c =
    let a = c.args in
    let e : is_live a.t.now a.x ≡ false = unfold is_live in search rules in
    rw e
