-- The test by components and phases is the model's (`fits-file`).
use borrow.Author.Rules.{rules}
use mathlib.Core.Path.{◌∙◌, ap₂}
use Rattle.definition.specs.Bytes.{Bytes}
use Rattle.definition.specs.SavedRun.{run_fits}
use Rattle.run_saved.specs.Runs.{bare}
use Rattle.call_run.proofs.Fits.{few-components, fits-file}
use Rattle.call_run.proofs.run_fits.Goals as goal

pub fits-requires : goal.fits-requires
fits-requires c =
    let a = c.args in
    rw c.components_of-components.ensures (few-components a.file.now a.n (λ i. (c.type_inv.file i).fits) c.requires)

pub returns : goal.returns
returns c =
    let a = c.args in
    c.fits.ensures ∙ ap₂ (λ (x y : Bytes). run_fits (bare x y) a.run.now) c.components_of-components.ensures c.phases_of.ensures
    ∙ fits-file a.file.now a.run.now a.n
