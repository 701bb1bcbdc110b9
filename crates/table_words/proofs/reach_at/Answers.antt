-- What says whether a component may be reached stands behind the marks.
use borrow.Author.Rules.{rules}
use lib.Seq.{get_or-drop}
use mathlib.Core.Path.{sym}
use Rattle.definition.specs.Limits.{max_components}
use Rattle.spec_step.specs.Flags.{reached_in}
use Rattle.table_words.proofs.reach_at.Goals as goal

pub returns : goal.returns
unfolding reached_in
returns c =
    let a = c.args in
    sym (get_or-drop max_components a.flags.now a.c 0)
