-- The root's flag says whether a message is given; then those of all components.
use mathlib.Core.Path.{◌∙◌}
use lib.Dec.{leb}
use lib.ListN.{length}
use Rattle.definition.specs.Limits.{message_size}
use Rattle.step_marks.proofs.Laws.{truth, given-flag}
use Rattle.step_marks.proofs.reach.Goals as goal

pub returns : goal.returns
returns c =
    let first = c.put_reach.ensures in
    let then = c.flag_components.ensures in
    record { reached = rw (first.reached, first.others, c.from.ensures, truth (leb message_size (length c.args.given.now)), given-flag) at then.reached; others = then.others ∙ first.others }
