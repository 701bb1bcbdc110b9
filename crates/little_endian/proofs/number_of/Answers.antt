-- `little_endian::number_of` meets its contract. Invariant: v is the number in the bytes from k on. One byte more in front is number-back.
-- v fits, since at most 7 bytes are held before the last is added (number_fits). Assumes nothing.
use native.Mathlib.Omega.{arith}
use Prim.Native.Nat.{◌<◌, ◌-◌, ◌^◌}
use mathlib.Core.Path.{◌≡◌, sym}
use Rattle.law_bytes.proofs.Rows.{number-none, number_fits, number-back}
use Rattle.little_endian.proofs.number_of.Goals as goal
use Rattle.little_endian.proofs.number_of.Goals.{In-loop-k}

small : (c : In-loop-k) → c.loop-k.v < 256 ^ 7
small c = let k = c.loop-k.k in omega (arith, number_fits 7 {w = c.args.n - k} (omega arith) k c.args.s.now (λ i. (c.type_inv.s i).fits))

pub loop-k-init : goal.loop-k-init
loop-k-init c =
    let e : c.args.n - c.args.n ≡ 0 = omega arith in
    rw e (sym (number-none c.args.n c.args.s.now))

pub loop-k-preserved : goal.loop-k-preserved
loop-k-preserved c = omega (arith, number-back c.args.n c.loop-k.k c.args.s.now (omega arith) (omega arith))

pub overflow_mul-v : goal.overflow_mul-v
overflow_mul-v c = omega (arith, small c)

pub overflow_add-v : goal.overflow_add-v
overflow_add-v c = omega (arith, small (goal.at.overflow_add-v c).In-loop-k)
