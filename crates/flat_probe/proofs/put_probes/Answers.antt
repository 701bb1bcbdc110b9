-- The records from component c on, stored behind those that stand, are all of them (`probes-more`); the buffer, full with them, reads back as the probe (`probes-back`).
use Rattle.flat_probe.proofs.Stored.{probes-more, probes-none, probes-back}
use Rattle.model_records.specs.Values.{phases_in}
use mathlib.Core.Path.{sym, ap, ◌∙◌}
use Rattle.flat_probe.proofs.put_probes.Goals as goal

pub loop-c-preserved : goal.loop-c-preserved
loop-c-preserved c = let l = c.loop-c in rw c.put_probe.ensures (probes-more l.c l.out c.loop-c-test.true ∙ l.invariant)

pub returns : goal.returns
returns c = let a = c.args in let l = c.loop-c in ap phases_in (sym (probes-none l.c l.out c.loop-c-test.false) ∙ l.invariant) ∙ probes-back a.out.now c.requires
