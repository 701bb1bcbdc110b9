-- What is left of the part, stored from byte i on, gives the whole on the buffer as lent (`copy_more`); at the end nothing is left (`copy-none`).
use native.Mathlib.Omega.{arith}
use Rattle.law_stores.proofs.Stores.{copy_more, copy-none}
use lib.Seq.{sets, slice, take-length}
use lib.ListN.{length}
use native.Mathlib.Nat.{le_refl, add-zero}
use Prim.Native.Nat.{◌+◌}
use mathlib.Core.Path.{◌≡◌, sym, ap, ap₂, ◌∙◌}
use Rattle.little_endian.proofs.put_bytes.Goals as goal

pub loop-i-init : goal.loop-i-init
loop-i-init c = let a = c.args in ap₂ (sets a.out.now) (add-zero a.at) (take-length a.part.now)

pub loop-i-preserved : goal.loop-i-preserved
loop-i-preserved c =
    let a = c.args in
    let l = c.loop-i in
    copy_more a.part.now (length a.part.now) l.i a.at l.out (omega arith) (le_refl _) ∙ l.invariant

pub returns : goal.returns
returns c =
    let a = c.args in
    let l = c.loop-i in
    let z : length a.part.now ≡ l.i = omega arith in
    sym (ap (λ n. sets l.out (a.at + l.i) (slice l.i n a.part.now)) z ∙ copy-none a.part.now l.i (a.at + l.i) l.out) ∙ l.invariant
