-- Each check that fails gives its number in the order of the table; what passes them all is let in (Checks).
use mathlib.Core.Path.{◌≡◌, ◌∙◌, ap, sym}
use mathlib.Core.Bool.{Bool, true, false, ◌||◌}
use lib.Dec.{ltb}
use Rattle.definition.specs.Limits.{max_moment}
use Rattle.definition.specs.SavedRun.{run_of, to_run}
use Rattle.model_file.specs.Checked.{model_of}
use Rattle.call_advance.proofs.Checks.{run-unfit, bad-moment, bag-unfit, let-in}
use Rattle.call_advance.proofs.check_call.Goals as goal
use Rattle.call_advance.proofs.check_call.Goals.{After-opening_of-opening}

-- The test of the run is the definition's.
pub returns-then-not-run_fits : goal.returns-then-not-run_fits
returns-then-not-run_fits c =
    let a = c.args in
    run-unfit (model_of a.file.now a.n) a.run.now a.t a.bag.now (sym c.run_fits.ensures ∙ c.if-not-run_fits.true)

-- So is that of the time.
timed : (c : After-opening_of-opening) (b : Bool) → let a = c.args in (ltb a.t c.opening_of-opening.result.0 || ltb max_moment a.t) ≡ b
    → (ltb a.t (run_of (model_of a.file.now a.n) a.run.now).opening || ltb max_moment a.t) ≡ b
unfolding run_of to_run
timed c b e = let t = c.args.t in ap (λ k. ltb t k || ltb max_moment t) (sym c.opening_of-opening.ensures) ∙ e

pub returns-then-t-opening : goal.returns-then-t-opening
returns-then-t-opening c =
    let a = c.args in
    bad-moment (model_of a.file.now a.n) a.run.now a.t a.bag.now (sym c.run_fits.ensures ∙ c.if-not-run_fits.false)
    (timed (goal.at.returns-then-t-opening c).After-opening_of-opening true c.if-t-opening.true)

pub returns-then-not-bag_fits : goal.returns-then-not-bag_fits
returns-then-not-bag_fits c =
    let a = c.args in
    bag-unfit (model_of a.file.now a.n) a.run.now a.t a.bag.now (sym c.run_fits.ensures ∙ c.if-not-run_fits.false)
    (timed (goal.at.returns-then-not-bag_fits c).After-opening_of-opening false c.if-t-opening.false)
    (sym c.bag_fits.ensures ∙ c.if-not-bag_fits.true)

pub returns : goal.returns
returns c =
    let a = c.args in
    let-in (model_of a.file.now a.n) a.run.now a.t a.bag.now (sym c.run_fits.ensures ∙ c.if-not-run_fits.false)
    (timed (goal.at.returns c).After-opening_of-opening false c.if-t-opening.false)
    (sym c.bag_fits.ensures ∙ c.if-not-bag_fits.false)
