-- `little_endian::u32_within` meets its contract: the low half and above it the high one (number-parts). Assumes nothing.
use native.Mathlib.Omega.{arith}
use Rattle.law_bytes.proofs.Rows.{number-parts}
use Rattle.little_endian.proofs.u32_within.Goals as goal

pub returns : goal.returns
returns c =
    let a = c.args in
    omega (
      arith,
      number-parts 2 2 a.at a.s.now,
      c.u16_within.ensures,
      c.u16_within-2.ensures,
    )
