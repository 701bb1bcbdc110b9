-- The progress with the open moment one past t.
use native.Mathlib.Omega.{arith}
use mathlib.Core.Path.{◌≡◌}
use Prim.Native.Nat.{suc, ◌+◌}
use Rattle.instant_loop.specs.Ends.{finished_of}
use Rattle.instant_loop.proofs.finish.Goals as goal

pub returns : goal.returns
unfolding finished_of
returns c =
    let o : c.args.t.0 + 1 ≡ suc c.args.t.0 = omega arith in
    rw o
