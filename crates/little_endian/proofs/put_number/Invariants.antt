use Prim.Native.Nat.{◌+◌, ◌-◌}
use mathlib.Core.Path.{◌≡◌}
use lib.Seq.{sets}
use Rattle.definition.specs.Bytes.{bytes_of}
use Rattle.little_endian.proofs.put_number.Given as goal

abbrev pub invariant-loop-k : goal.invariant-loop-k
invariant-loop-k l = sets l.out (l.at + l.k) (bytes_of (l.n - l.k) l.w) ≡ sets l.initial.out l.at (bytes_of l.n l.v)
