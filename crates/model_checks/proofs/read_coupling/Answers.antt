-- `model_checks::read_coupling` meets its contract. The record where its fields are right and it does not fall behind the row before
-- (behind-falls), 8 otherwise. Assumes nothing.
use mathlib.Core.Path.{◌≡◌, refl, sym, ◌∙◌}
use lib.Dec.{leb}
use borrow.Author.Tests.{lt-leb, le-leb}
use Rattle.definition.specs.Pinned.Decoder.{not_falling, coupling_fits}
use Rattle.model_records.specs.Values.{couplings_in}
use Rattle.model_checks.proofs.Laws.{keeps, breaks, behind-falls}
use Rattle.model_checks.proofs.read_coupling.Goals as goal
use Rattle.model_checks.proofs.read_coupling.Goals.{else-coupling_fields-via-then-coupling_fields+else-before-coupling_key, else-coupling_fields-via-else-coupling_fields}

pub returns-then-before-coupling_key : goal.returns-then-before-coupling_key
unfolding coupling_fits
returns-then-before-coupling_key c =
    let falls : not_falling (couplings_in c.args.couplings.now) c.args.i ≡ leb c.args.before c.coupling_key.result = behind-falls _ c.args.i _ _ c.requires.behind (c.coupling_key.ensures ∙ c.coupling_in-coupling.ensures) in
    rw (falls ∙ le-leb _ _ c.if-before-coupling_key.true, ← c.coupling_in-coupling.ensures, ← c.coupling_fields.ensures, c.if-coupling_fields.true) (sym (keeps _ 8 _ refl))

pub returns-else-coupling_fields : goal.returns-else-coupling_fields
unfolding coupling_fits
returns-else-coupling_fields c =
    elim c.else-coupling_fields.branch [
      | else-coupling_fields-via-then-coupling_fields+else-before-coupling_key w ↦
          let falls : not_falling (couplings_in c.args.couplings.now) c.args.i ≡ leb c.args.before w.coupling_key.result = behind-falls _ c.args.i _ _ c.requires.behind (w.coupling_key.ensures ∙ c.coupling_in-coupling.ensures) in
          rw (falls ∙ lt-leb _ _ w.if-before-coupling_key.false, ← c.coupling_in-coupling.ensures, ← c.coupling_fields.ensures, w.if-coupling_fields.true) (sym (breaks _ 8 _ refl))
      | else-coupling_fields-via-else-coupling_fields w ↦ rw (← c.coupling_in-coupling.ensures, ← c.coupling_fields.ensures, w.if-coupling_fields.false) (sym (breaks _ 8 _ refl))
    ]
