-- `model_checks::component_fits` meets its contract. The definition's own tests, in the order in which the code takes them. Assumes nothing.
use mathlib.Core.Path.{◌≡◌, sym, ◌∙◌}
use mathlib.Core.Bool.{true, false, ◌&&◌, and-true, and-false}
use lib.Dec.{eqb, ltb}
use lib.ListN.{get_or}
use borrow.Author.Tests.{eq-eqb, ne_eqb, lt-ltb, le-ltb, not-true, not-false}
use Rattle.definition.specs.Pinned.Decoder.{kind_fields, root_fields}
use Rattle.model_records.specs.Values.{component_of}
use Rattle.model_checks.specs.Known.{fits_behind}
use Rattle.model_checks.proofs.component_fits.Goals as goal

pub returns-then-not-phase_counts-parent : goal.returns-then-not-phase_counts-parent
unfolding fits_behind
returns-then-not-phase_counts-parent c =
    let e : (eqb (get_or c.args.phase_counts.now c.args.component.parent 0) 0 && ltb (get_or c.args.depths.now c.args.component.parent 0) 8) ≡ false = not-true _ c.if-not-phase_counts-parent.true-raw in
    rw (ne_eqb _ _ c.if-i-eq0.false, lt-ltb _ _ c.if-i-parent.false, e) (simp and-false)

pub returns : goal.returns
unfolding fits_behind
returns c =
    let e : (eqb (get_or c.args.phase_counts.now c.args.component.parent 0) 0 && ltb (get_or c.args.depths.now c.args.component.parent 0) 8) ≡ true = not-false _ c.if-not-phase_counts-parent.false-raw in
    let k = component_of c.args.component in
    let f : fits_behind k c.args.i c.args.phase_counts.now c.args.depths.now ≡ kind_fields k =
    rw (ne_eqb _ _ c.if-i-eq0.false, lt-ltb _ _ c.if-i-parent.false, e) (simp and-true) in
    c.kind_fields-2.ensures ∙ sym f

pub returns-then-i-eq0 : goal.returns-then-i-eq0
unfolding fits_behind root_fields
returns-then-i-eq0 c = rw (eq-eqb _ _ c.if-i-eq0.true, c.kind_fields.ensures)

pub returns-then-i-parent : goal.returns-then-i-parent
unfolding fits_behind
returns-then-i-parent c = rw (ne_eqb _ _ c.if-i-eq0.false, le-ltb _ _ c.if-i-parent.true) (simp and-false)
