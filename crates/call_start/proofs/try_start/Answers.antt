-- A refused model gives its number (`start_refused`); an accepted one gives the run of its components (`start-accepted`).
use mathlib.Core.List.{[]}
use mathlib.Core.Path.{◌∙◌, ap}
use Rattle.std.proofs.lemmas.Result.{err_from_is_err_and}
use Rattle.definition.specs.Bytes.{ok}
use Rattle.definition.specs.SavedRun.{run_bytes}
use Rattle.definition.specs.Engine.{wrote, start_run}
use Rattle.run_saved.specs.Runs.{bare}
use Rattle.call_run.proofs.Fits.{few-components}
use Rattle.call_start.proofs.Starts.{start_refused, start-accepted}
use Rattle.call_start.proofs.try_start.Goals as goal

pub returns-in_err-counts : goal.returns-in_err-counts
returns-in_err-counts c =
    let a = c.args in
    let p = err_from_is_err_and c.from_residual.result c.from_residual.ensures.1 in
    rw (p.1, p.2) (start_refused a.file.now a.run.now _ c.in_err-counts.ensures)

pub start_run-requires : goal.start_run-requires
start_run-requires c =
    rw c.components_of.ensures (few-components c.args.file.now c.in_ok-counts.counts (λ i. (c.type_inv.file i).fits) c.in_ok-counts.ensures)

pub returns : goal.returns
returns c =
    let a = c.args in
    c.start_run.ensures ∙ ap (λ s. wrote a.run.now (ok (run_bytes (start_run (bare s []))))) c.components_of.ensures ∙ start-accepted a.file.now a.run.now c.in_ok-counts.counts c.in_ok-counts.ensures
