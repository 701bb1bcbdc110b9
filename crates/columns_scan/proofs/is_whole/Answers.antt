-- A record whose head is cut is cut (`whole-cut`); else the one test decides.
use native.Mathlib.Omega.{arith}
use Prim.Native.Nat.{◌+◌, ◌*◌, ◌-◌}
use mathlib.Core.Path.{◌≡◌, sym, ap}
use lib.Dec.{leb}
use lib.ListN.{length}
use Rattle.definition.specs.Bytes.{number_at}
use Rattle.definition.specs.Limits.{message_size, record_head}
use Rattle.columns_scan.specs.Scans.{whole_at}
use Rattle.columns_scan.proofs.Laws.{whole-cut}
use Rattle.columns_scan.proofs.is_whole.Goals as goal

pub returns-then-left-lt-RECORD_HEAD : goal.returns-then-left-lt-RECORD_HEAD
returns-then-left-lt-RECORD_HEAD c =
    let a = c.args in
    sym (whole-cut a.at a.s.now (omega (arith, c.if-left-lt-RECORD_HEAD.true)))

pub returns : goal.returns
unfolding whole_at
returns c =
    let a = c.args in
    let s = a.s.now in
    let e : 12 + 3 * c.u16_within.result ≡ record_head + number_at 2 (a.at + 10) s * message_size = omega (arith, c.u16_within.ensures) in
    ap (λ n. leb n (length s - a.at)) e
