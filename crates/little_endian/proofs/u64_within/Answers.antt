-- `little_endian::u64_within` meets its contract: the low half and above it the high one (number-parts). Assumes nothing.
use native.Mathlib.Omega.{arith}
use Rattle.law_bytes.proofs.Rows.{number-parts}
use Rattle.little_endian.proofs.u64_within.Goals as goal

pub returns : goal.returns
returns c =
    let a = c.args in
    omega (
      arith,
      number-parts 4 4 a.at a.s.now,
      c.u32_within.ensures,
      c.u32_within-2.ensures,
    )
