-- Each check that fails gives its number in the order of the table; what passes them all is let in (Checks).
use mathlib.Core.Path.{◌≡◌, ◌∙◌, ap, ap₂, sym}
use mathlib.Core.Bool.{Bool, true, false, ◌||◌}
use Prim.Native.Nat.{ℕ}
use lib.Dec.{ltb}
use Rattle.std.proofs.lemmas.Result.{err_from_is_err_and}
use Rattle.definition.specs.Bytes.{ok}
use Rattle.definition.specs.Limits.{max_moment}
use Rattle.definition.specs.Feed.{last_moment, first_moment}
use Rattle.definition.specs.Pinned.FeedReader.{feed_of}
use Rattle.definition.specs.SavedRun.{run_of, to_run}
use Rattle.model_file.specs.Checked.{model_of}
use Rattle.feed_bags.specs.declared.Bags.{Bags}
use Rattle.feed_bags.specs.Bags.{bags_of, bags_told}
use Rattle.feed_loop.specs.Onwards.{bags_in}
use Rattle.call_feed.proofs.Checks.{found-read, broken, run-unfit, feed-broken, bad-moment, let-in}
use Rattle.call_feed.proofs.Found.{found-some, found-none}
use Rattle.call_feed.proofs.check_feed.Goals as goal
use Rattle.call_feed.proofs.check_feed.Goals.{In_ok-found, After-opening_of-opening}

-- The test of the run is the definition's.
pub returns-then-not-run_fits : goal.returns-then-not-run_fits
returns-then-not-run_fits c =
    let a = c.args in
    run-unfit (model_of a.file.now a.n) a.run.now a.end a.feed.now (sym c.run_fits.ensures ∙ c.if-not-run_fits.true)

-- ---- the feed

pub returns-in_err-found : goal.returns-in_err-found
returns-in_err-found c =
    let a = c.args in
    let p = err_from_is_err_and c.from_residual.result c.from_residual.ensures.1 in
    let none = found-none c.find_bags.result _ c.in_err-found.ensures.value in
    rw (p.1, p.2, none.1)
    (feed-broken (model_of a.file.now a.n) a.run.now a.end a.feed.now (sym c.run_fits.ensures ∙ c.if-not-run_fits.false) (broken a.feed.now (none.0 ∙ c.find_bags.ensures)))

-- It is a feed, and these are its bags.
read : (c : In_ok-found) → let feed = c.args.feed.now in (feed_of feed ≡ ok (bags_in feed)) × (c.in_ok-found.found ≡ bags_of (bags_in feed))
read c = found-read c.args.feed.now c.in_ok-found.found (found-some c.find_bags.result _ c.in_ok-found.ensures.value ∙ c.find_bags.ensures)

pub first_moment-first-requires : goal.first_moment-first-requires
first_moment-first-requires c =
    let found = read (goal.at.first_moment-first-requires c).In_ok-found in
    record { is_feed = found.0; counted = ap (λ (b : Bags). b.count) found.1 }

-- ---- the times

timed : (c : After-opening_of-opening) (b : Bool) → let a = c.args in c.in_ok-found.found ≡ bags_of (bags_in a.feed.now)
    → (ltb a.end c.in_ok-found.found.last || ltb max_moment a.end || ltb c.first_moment-first.result c.opening_of-opening.result.0) ≡ b
    → (ltb a.end (last_moment (bags_in a.feed.now)) || ltb max_moment a.end || ltb (first_moment (bags_in a.feed.now) a.end) (run_of (model_of a.file.now a.n) a.run.now).opening) ≡ b
unfolding run_of to_run
timed c b found e =
    let a = c.args in
    let last : c.in_ok-found.found.last ≡ last_moment (bags_in a.feed.now) = ap (λ (b : Bags). b.last) found in
    sym (ap₂ (λ (l o : ℕ). ltb a.end l || ltb max_moment a.end || ltb (first_moment (bags_in a.feed.now) a.end) o) last c.opening_of-opening.ensures)
    ∙ ap (λ f. ltb a.end c.in_ok-found.found.last || ltb max_moment a.end || ltb f c.opening_of-opening.result.0) (sym c.first_moment-first.ensures) ∙ e

pub returns-then-end-found : goal.returns-then-end-found
returns-then-end-found c =
    let at = goal.at.returns-then-end-found c in
    let a = c.args in
    let found = read at.In_ok-found in
    bad-moment (model_of a.file.now a.n) a.run.now a.end a.feed.now (sym c.run_fits.ensures ∙ c.if-not-run_fits.false) (bags_in a.feed.now) found.0
    (timed at.After-opening_of-opening true found.1 c.if-end-found.true)

pub returns : goal.returns
returns c =
    let at = goal.at.returns c in
    let a = c.args in
    let found = read at.In_ok-found in
    ap ok found.1
    ∙ sym (ap bags_told (let-in (model_of a.file.now a.n) a.run.now a.end a.feed.now (sym c.run_fits.ensures ∙ c.if-not-run_fits.false) (bags_in a.feed.now) found.0
    (timed at.After-opening_of-opening false found.1 c.if-end-found.false)))
