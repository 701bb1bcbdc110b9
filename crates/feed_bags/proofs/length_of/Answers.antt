-- The head and the messages.
use native.Mathlib.Omega.{arith}
use Rattle.definition.specs.Pinned.FeedReader.{bag_length}
use Rattle.feed_bags.proofs.length_of.Goals as goal

pub returns : goal.returns
unfolding bag_length
returns c = omega (arith, c.byte_at.ensures)
