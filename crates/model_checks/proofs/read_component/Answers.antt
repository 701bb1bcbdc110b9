-- `model_checks::read_component` meets its contract. The record where its lines are kept (keeps), 4 where one is not (breaks); its lines are
-- tested by what is known of those before it (fits-known). Assumes nothing.
use mathlib.Core.Path.{sym, ◌∙◌}
use Rattle.model_checks.proofs.Laws.{keeps, breaks}
use Rattle.model_checks.proofs.Keeping.{fits-known}
use Rattle.model_checks.proofs.read_component.Goals as goal

pub returns-then-component_fits : goal.returns-then-component_fits
returns-then-component_fits c =
    let e = c.component_in-component.ensures in
    rw e (sym (keeps _ 4 _ (sym (fits-known c.requires e) ∙ sym c.component_fits.ensures ∙ c.if-component_fits.true)))

pub returns-else-component_fits : goal.returns-else-component_fits
returns-else-component_fits c = sym (breaks _ 4 _ (sym (fits-known c.requires c.component_in-component.ensures) ∙ sym c.component_fits.ensures ∙ c.if-component_fits.false))
