-- A place inside ends before the buffer does, so that no sum overflows.
use native.Mathlib.Omega.{arith}
use mathlib.Core.Path.{◌≡◌}
use mathlib.Core.Bool.{true}
use Prim.Native.Nat.{◌+◌, ◌-◌}
use Rattle.channel_turn.proofs.bag_lent.Goals as goal

pub returns-then-not-inside : goal.returns-then-not-inside
returns-then-not-inside c = rw c.if-not-inside.true

pub returns : goal.returns
returns c =
    let is-inside : c.args.inside ≡ true = c.if-not-inside.false in
    let place = c.args.place in
    let size : place.start + place.size - place.start ≡ place.size = omega arith in
    rw (is-inside, size)
