-- `little_endian::put_number` meets its contract. Invariant: storing what is left of the number from here on gives what storing all of it
-- from the first place gives. One byte more is sets_more. Assumes nothing.
use native.Mathlib.Omega.{arith}
use Prim.Native.Nat.{◌-◌}
use mathlib.Core.Path.{◌≡◌, ◌∙◌}
use Rattle.law_bytes.proofs.Rows.{sets_more, bytes-none}
use Rattle.little_endian.proofs.put_number.Goals as goal

pub loop-k-preserved : goal.loop-k-preserved
loop-k-preserved c =
    let a = c.args in
    let l = c.loop-k in
    sets_more a.n l.k l.w l.out a.at (omega arith) ∙ l.invariant

pub returns : goal.returns
returns c =
    let a = c.args in
    let l = c.loop-k in
    let z : a.n - l.k ≡ 0 = omega arith in
    rw (z, bytes-none) at l.invariant
