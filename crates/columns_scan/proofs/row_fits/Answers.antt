-- A record that is not cut lies within the bytes, so that it can be judged at its places.
use native.Mathlib.Omega.{arith}
use mathlib.Core.Path.{sym, ◌∙◌}
use Prim.Native.Nat.{◌+◌}
use lib.ListN.{length}
use Rattle.definition.specs.Bytes.{number_at}
use Rattle.columns_forms.specs.Forms.{row_places}
use Rattle.columns_forms.proofs.InRow.{within-row}
use Rattle.columns_scan.proofs.Laws.{whole-fits}
use Rattle.columns_scan.proofs.row_fits.Goals as goal

pub record_fits-requires : goal.record_fits-requires
unfolding row_places
record_fits-requires c =
    let a = c.args in
    let s = a.s.now in
    let w = sym c.is_whole.ensures ∙ c.if-not-is_whole.false in
    let inside = within-row (length s) a.at (number_at 2 (a.at + 10) s) (whole-fits a.at s w c.requires) in
    rw (c.row_places.ensures, c.in_row.ensures) ((omega arith, omega arith), inside)
