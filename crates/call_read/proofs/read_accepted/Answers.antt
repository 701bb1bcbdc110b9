-- A run that does not fit (`read-unfit`), a position past the last atomic (`read_past`), or the entry there and the next due moment
-- (`answered`, `read_done`).
use native.Mathlib.Omega.{arith}
use Rattle.call_read.proofs.Answering.{read-unfit, read_past, read_done, answered}
use Rattle.run_saved.specs.Runs.{entry_of}
use Rattle.model_file.specs.Checked.{model_of}
use Rattle.definition.specs.SavedRun.{run_fits}
use Rattle.definition.specs.Model.{atomics}
use lib.ListN.{length}
use Prim.Native.Nat.{◌<◌}
use mathlib.Core.Path.{◌≡◌, ◌∙◌, sym}
use Rattle.call_read.proofs.read_accepted.Goals as goal
use Rattle.call_read.proofs.read_accepted.Goals.{After-run_fits, After-atomics_in-count}

tested : (c : After-run_fits) → run_fits (model_of c.args.file.now c.args.n) c.args.run.now ≡ c.run_fits.result
tested c = sym c.run_fits.ensures

counted : (c : After-atomics_in-count) → c.atomics_in-count.result ≡ length (atomics (model_of c.args.file.now c.args.n).components)
counted c = c.atomics_in-count.ensures ∙ c.requires.tabled.tabled.atomic_count_lem

pub returns-then-not-run_fits : goal.returns-then-not-run_fits
returns-then-not-run_fits c =
    let a = c.args in
    read-unfit a.file.now a.run.now a.position (model_of a.file.now a.n) c.requires.model (tested (goal.at.returns-then-not-run_fits c).After-run_fits ∙ c.if-not-run_fits.true)

pub returns-then-count-position : goal.returns-then-count-position
returns-then-count-position c =
    let a = c.args in
    read_past a.file.now a.run.now a.position (model_of a.file.now a.n) c.requires.model (tested (goal.at.returns-then-count-position c).After-run_fits ∙ c.if-not-run_fits.false)
    (omega (arith, counted (goal.at.returns-then-count-position c).After-atomics_in-count, c.if-count-position.true))

pub entry_at-entry-requires : goal.entry_at-entry-requires
entry_at-entry-requires c = omega (arith, counted (goal.at.entry_at-entry-requires c).After-atomics_in-count, c.requires.tabled.few, c.if-count-position.false)

pub whole_due-requires : goal.whole_due-requires
whole_due-requires c = record { model = c.requires.model; tabled = c.requires.tabled; fits = tested (goal.at.whole_due-requires c).After-run_fits ∙ c.if-not-run_fits.false }

pub returns : goal.returns
returns c =
    let a = c.args in
    let m = model_of a.file.now a.n in
    let l : a.position < length (atomics m.components) = omega (arith, counted (goal.at.returns c).After-atomics_in-count, c.if-count-position.false) in
    answered m a.run.now a.position (entry_of c.entry_at-entry.result) c.whole_due.result l c.entry_at-entry.ensures c.whole_due.ensures
    ∙ read_done a.file.now a.run.now a.position m c.requires.model (tested (goal.at.returns c).After-run_fits ∙ c.if-not-run_fits.false) l
