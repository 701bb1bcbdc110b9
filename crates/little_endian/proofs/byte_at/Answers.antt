-- `little_endian::byte_at` meets its contract. A one-byte number is the element at its place, and past the end both are 0 (number-one).
-- Assumes nothing.
use Rattle.law_bytes.proofs.Rows.{number-one}
use lib.ListN.{get_or-eq_default}
use mathlib.Core.Path.{sym, ◌∙◌}
use Rattle.little_endian.proofs.byte_at.Goals as goal

pub returns-else-at-s : goal.returns-else-at-s
returns-else-at-s c =
    let a = c.args in
    sym (number-one a.at a.s.now ∙ get_or-eq_default a.s.now 0 c.if-at-s.false)

pub returns-then-at-s : goal.returns-then-at-s
returns-then-at-s c = let a = c.args in sym (number-one a.at a.s.now)
