-- As many of the bytes behind the head as the messages take.
use native.Mathlib.Omega.{arith}
use mathlib.Core.Path.{◌≡◌, ap₂, ◌∙◌}
use Prim.Native.Nat.{◌*◌}
use lib.ListN.{take}
use Rattle.definition.specs.Bytes.{number_at}
use Rattle.definition.specs.Limits.{message_size}
use Rattle.definition.specs.Pinned.FeedReader.{to_feed_bag}
use Rattle.feed_bags.proofs.bag_of.Goals as goal

pub returns : goal.returns
unfolding to_feed_bag
returns c =
    let size : 3 * c.byte_at.result ≡ number_at 1 8 c.args.here.now * message_size = omega (arith, c.byte_at.ensures) in
    c.front.ensures ∙ ap₂ take size c.rest.ensures
