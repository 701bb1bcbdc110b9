-- The step leaves its due moments carried, so that the least of them is the next due moment.
use mathlib.Core.Path.{◌∙◌}
use Rattle.instant_steps.proofs.Sofar.{ready-next}
use Rattle.instant_steps.proofs.take_step.Goals as goal

pub atomics_in-n-requires : goal.atomics_in-n-requires
atomics_in-n-requires c = c.requires.steppable.fit.in_range.atomics

pub step_once-count-requires : goal.step_once-count-requires
step_once-count-requires c =
    let q = c.requires.steppable in
    rw c.atomics_in-n.ensures (record {
      moment = q.moment;
      changeable = record { lent = c.requires.lent; few = q.fit.in_range.atomics; in_range = q.fit.in_range; carried = q.ready.carried };
    })

pub returns : goal.returns
returns c =
    let a = c.args in
    let s = rw c.atomics_in-n.ensures at c.step_once-count.ensures in
    let p = c.put_next.ensures in
    record {
      state = p.held ∙ s.state;
      rules = p.rules ∙ s.rules;
      ready = ready-next a.phases.now a.tables.now _ _ _ c.requires.steppable.fit s.carried c.next_end.ensures p;
      size = s.size;
      bag = s.bag;
    }
