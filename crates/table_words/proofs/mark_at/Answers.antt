-- The marks are the front of the flags.
use borrow.Author.Rules.{rules}
use lib.Seq.{get_or-take}
use mathlib.Core.Path.{sym}
use Rattle.definition.specs.Limits.{max_components}
use Rattle.spec_step.specs.Flags.{marks_in}
use Rattle.table_words.proofs.mark_at.Goals as goal

pub returns : goal.returns
unfolding marks_in
returns c =
    let a = c.args in
    sym (get_or-take max_components a.flags.now a.c 0 c.requires)
