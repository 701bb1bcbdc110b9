-- With no bag the end (`first-none`), else the moment behind the count (`first_some`).
use native.Mathlib.Omega.{arith}
use mathlib.Core.Path.{sym, ap, ◌∙◌}
use Rattle.definition.specs.Bytes.{Bytes}
use Rattle.definition.specs.Pinned.FeedReader.{to_feed_bag}
use Rattle.feed_loop.specs.Onwards.{bags_in}
use Rattle.call_feed.proofs.Checks.{first-none, first_some}
use Rattle.call_feed.proofs.first_moment.Goals as goal

pub returns-then-count-eq0 : goal.returns-then-count-eq0
returns-then-count-eq0 c =
    let a = c.args in
    sym (first-none (bags_in a.feed.now) a.end (omega (arith, c.requires.counted, c.if-count-eq0.true)))

pub returns-else-count-eq0 : goal.returns-else-count-eq0
returns-else-count-eq0 c =
    let a = c.args in
    c.moment_of.ensures ∙ ap (λ (s : Bytes). (to_feed_bag s).moment) c.rest.ensures
    ∙ sym (first_some a.feed.now (bags_in a.feed.now) a.end c.requires.is_feed (λ z. c.if-count-eq0.false (c.requires.counted ∙ z)))
