-- A refused model gives its number (`model-refused`); on an accepted one the feed runs.
use Rattle.std.proofs.lemmas.Result.{err_from_is_err_and}
use Rattle.definition.specs.FeedCall.{nothing_fed}
use Rattle.table_couplings.proofs.Begun.{zeros-made}
use Rattle.call_feed.proofs.Checks.{model-refused}
use Rattle.call_feed.proofs.try_feed.Goals as goal

pub open_model-requires : goal.open_model-requires
open_model-requires c = zeros-made

pub returns-in_err-accepted : goal.returns-in_err-accepted
unfolding nothing_fed
returns-in_err-accepted c =
    let a = c.args in
    let p = err_from_is_err_and c.from_residual.result c.from_residual.ensures.1 in
    rw (p.1, p.2) (model-refused a.file.now a.run.now a.end a.feed.now a.trace.now _ c.in_err-accepted.ensures.0)

pub feed_accepted-requires : goal.feed_accepted-requires
feed_accepted-requires c =
    let r = c.in_ok-accepted.ensures in
    record { model = r.0; tabled = r.2; counted = r.1 }
