-- `little_endian::u32_at` meets its contract: four bytes fit (number_fits). Assumes nothing.
use native.Mathlib.Nat.{le_refl}
use Rattle.law_bytes.proofs.Rows.{number_fits}
use Rattle.little_endian.proofs.u32_at.Goals as goal

pub overflow_cast-result : goal.overflow_cast-result
overflow_cast-result c =
    let a = c.args in
    let small = number_fits 4 (le_refl 4) a.at a.s.now (λ i. (c.type_inv.s i).fits) in
    record { fits = rw c.number_at.ensures small }
