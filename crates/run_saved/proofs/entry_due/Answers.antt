-- The phase record at the first one plus the phase, and `due_after` of its advance.
use Rattle.clock.specs.After.{due_after}
use Rattle.definition.specs.Model.{Phase}
use mathlib.Core.Path.{◌∙◌, ap}
use Rattle.run_saved.proofs.entry_due.Goals as goal

pub returns : goal.returns
returns c =
    let a = c.args in
    c.due_after.ensures
    ∙ ap (λ (p : Phase). due_after a.e.last.0 p.advance)
    c.phase_at-phase.ensures
