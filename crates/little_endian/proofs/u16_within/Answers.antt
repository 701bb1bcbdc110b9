-- `little_endian::u16_within` meets its contract: the low byte and above it the high one (number_more). Assumes nothing.
use native.Mathlib.Omega.{arith}
use Prim.Native.Nat.{◌+◌}
use Rattle.law_bytes.proofs.Rows.{number_more, number-one}
use Rattle.little_endian.proofs.u16_within.Goals as goal

pub returns : goal.returns
returns c = let a = c.args in omega (arith, number_more 1 a.at a.s.now, number-one (a.at + 1) a.s.now)
