use Rattle.std.proofs.Common.{◌≡◌}
use Rattle.std.proofs.lemmas.List.Edits.{sets}
use Rattle.flat_probe.proofs.Stored.{flags_from}
use Rattle.flat_probe.proofs.put_flags.Given as goal

abbrev pub invariant-loop-i : goal.invariant-loop-i
invariant-loop-i l = sets l.flags l.i (flags_from l.i) ≡ sets l.initial.flags 0 (flags_from 0)
