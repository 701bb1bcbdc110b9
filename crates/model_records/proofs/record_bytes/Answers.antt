-- `model_records::record_bytes` meets its contract. From the record's start to its end there are as many bytes as its size. Assumes nothing.
use native.Mathlib.Omega.{arith}
use Prim.Native.Nat.{◌+◌, ◌*◌, ◌-◌}
use mathlib.Core.Path.{◌≡◌}
use Rattle.law_bytes.specs.Parts.{row}
use Rattle.model_records.proofs.record_bytes.Goals as goal

pub returns : goal.returns
unfolding row
returns c = let a = c.args in
    let e : a.size * a.i + a.size - a.size * a.i ≡ a.size = omega arith in rw e
