use Rattle.std.proofs.Common.{◌≡◌, ◌*◌}
use Rattle.std.proofs.lemmas.List.Edits.{sets}
use Rattle.flat_probe.proofs.Stored.{probes_from}
use Rattle.flat_probe.proofs.put_probes.Given as goal

abbrev pub invariant-loop-c : goal.invariant-loop-c
invariant-loop-c l = sets l.out (18 * l.c) (probes_from l.c) ≡ sets l.initial.out 0 (probes_from 0)
