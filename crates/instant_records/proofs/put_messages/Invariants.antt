use Prim.Native.Nat.{◌*◌, ◌+◌}
use mathlib.Core.Path.{◌≡◌}
use lib.ListN.{take}
use lib.Seq.{sets, slice}
use Rattle.instant_records.proofs.Records.{key_bytes}
use Rattle.instant_records.proofs.put_messages.Given as goal

abbrev pub invariant-loop-i : goal.invariant-loop-i
invariant-loop-i l = sets l.out (l.at + 3 * l.i) (key_bytes (slice l.i l.count l.keys)) ≡ sets l.initial.out l.at (key_bytes (take l.count l.keys))
