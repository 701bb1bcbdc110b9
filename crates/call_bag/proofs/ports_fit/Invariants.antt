use Rattle.call_bag.proofs.Laws.{port_at}
use Rattle.definition.specs.Limits.{message_size}
use Rattle.definition.specs.Lists.{all, up_from}
use lib.ListN.{length}
use Prim.Native.Nat.{◌-◌, ◌/◌}
use mathlib.Core.Path.{◌≡◌}
use Rattle.call_bag.proofs.ports_fit.Given as goal

-- the tests from message i on are those of the whole bag
abbrev pub invariant-loop-i : goal.invariant-loop-i
invariant-loop-i l = (l.n ≡ length l.bag / message_size) × (all (port_at l.bag) (up_from l.i (l.n - l.i)) ≡ all (port_at l.bag) (up_from 0 l.n))
