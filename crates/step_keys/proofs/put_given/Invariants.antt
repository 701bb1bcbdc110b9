use Prim.Native.Nat.{◌/◌}
use lib.ListN.{length}
use Rattle.definition.specs.Engine.{to_bag}
use Rattle.step_keys.proofs.Laws.{Turn}
use Rattle.step_keys.proofs.put_given.Given as goal

abbrev pub invariant-loop-i : goal.invariant-loop-i
invariant-loop-i l = Turn (length l.given / 3) (to_bag l.given) l.q l.own l.initial.buf l.at l.buf l.next l.n l.i
