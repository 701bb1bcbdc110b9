-- The due moments that were put, and the least of them.
use mathlib.Core.Path.{◌∙◌}
use Rattle.instant_steps.proofs.Sofar.{ready-next}
use Rattle.instant_steps.proofs.make_ready.Goals as goal

pub atomics_in-n-requires : goal.atomics_in-n-requires
atomics_in-n-requires c = c.requires.in_range.atomics

pub put_ends-requires : goal.put_ends-requires
put_ends-requires c = rw c.atomics_in-n.ensures (c.requires.in_range.atomics, c.requires.in_range)

pub returns : goal.returns
returns c =
    let a = c.args in
    let s = rw c.atomics_in-n.ensures at c.put_ends.ensures in
    let p = c.put_next.ensures in
    (p.held ∙ s.0, ready-next a.phases.now a.tables.now _ _ _ c.requires s.1 c.next_end.ensures p)
