-- The number in the first eight bytes.
use Rattle.definition.specs.Pinned.FeedReader.{to_feed_bag}
use Rattle.feed_bags.proofs.moment_of.Goals as goal

pub returns : goal.returns
unfolding to_feed_bag
returns c = c.u64_at.ensures
