-- A check that fails gives its number (`check-refused`); what passes them all is let in, and buffers for 1,024 routes have room for every
-- accepted model.
use native.Mathlib.Omega.{arith}
use Rattle.std.proofs.lemmas.Result.{err_from_is_err_and}
use Rattle.definition.specs.FeedCall.{nothing_fed}
use Rattle.model_file.specs.Checked.{model_of}
use Rattle.call_advance.proofs.Whole.{most-routes}
use Rattle.call_feed.specs.FeedLetIn.{FeedLetIn}
use Rattle.call_feed.proofs.Checks.{check-refused, checked-read}
use Rattle.call_feed.proofs.feed_accepted.Goals as goal
use Rattle.call_feed.proofs.feed_accepted.Goals.{In_ok-found}

pub returns-in_err-found : goal.returns-in_err-found
unfolding nothing_fed
returns-in_err-found c =
    let a = c.args in
    let p = err_from_is_err_and c.from_residual.result c.from_residual.ensures.1 in
    rw (p.1, p.2) (check-refused a.file.now a.run.now a.end a.feed.now a.trace.now (model_of a.file.now a.accepted.counts) c.requires.model _ c.in_err-found.ensures)

-- The checks let the feed in.
passed : (c : In_ok-found) → let a = c.args in FeedLetIn a.file.now a.accepted.counts a.tables.now a.run.now a.end a.feed.now c.in_ok-found.found
passed c =
    let a = c.args in
    let q = c.requires in
    let r = checked-read (model_of a.file.now a.accepted.counts) a.run.now a.end a.feed.now c.in_ok-found.found c.in_ok-found.ensures in
    record { model = q.model; tabled = q.tabled; checks = r.0; is_feed = r.1; found_so = r.2 }

pub feed_in-requires : goal.feed_in-requires
feed_in-requires c = (
  passed (goal.at.feed_in-requires c).In_ok-found,
  record { lent = omega arith; room = omega (arith, c.requires.counted, c.if-accepted-le-FEW_ROUTES.true) },
)

pub feed_in-requires-else-accepted-le-FEW_ROUTES : goal.feed_in-requires-else-accepted-le-FEW_ROUTES
feed_in-requires-else-accepted-le-FEW_ROUTES c =
    let most = most-routes c.args.file.now c.args.accepted.counts (λ i. (c.type_inv.file i).fits) c.requires.model in (
      passed (goal.at.feed_in-requires-else-accepted-le-FEW_ROUTES c).In_ok-found,
      record { lent = omega arith; room = omega (arith, most) },
    )
