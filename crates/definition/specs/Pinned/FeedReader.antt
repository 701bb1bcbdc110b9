-- Feeds read, as it computes. What it answers is pinned by demand 1: the bags of a feed, and 19 for all other bytes. Assumes nothing.
use Rattle.std.specs.Prelude.{ℕ, zero, suc, ◌+◌, ◌*◌, List, [], ◌∷◌, Bool, ◌&&◌, ◌||◌, not, leb, ltb, length, take, drop}
use Rattle.definition.specs.Lists.{is_empty}
use Rattle.definition.specs.Bytes.{Bytes, Result, ok, ◌>>=◌, refuse_if, number_at}
use Rattle.definition.specs.Limits.{count_size, message_size, max_moment, max_bags, bag_head}
use Rattle.definition.specs.Engine.{bag_fits}
use Rattle.definition.specs.Feed.{FeedBag}

-- The bag at the front of some bytes, and how many bytes it takes. Bytes past the end count as 0.
unfoldable pub bag_length : Bytes → ℕ
bag_length s = bag_head + number_at 1 8 s * message_size

unfoldable pub to_feed_bag : Bytes → FeedBag
to_feed_bag s = record { moment = number_at 8 0 s; bag = take (number_at 1 8 s * message_size) (drop bag_head s) }

-- It may stand where moments from `least` on are left.
unfoldable pub feed_bag_fits : ℕ → FeedBag → Bool
feed_bag_fits least b = leb least b.moment && leb b.moment max_moment && bag_fits b.bag

-- n bags with moments from `least` on, each above the one before, and nothing after them.
unfoldable pub bags_from : ℕ → ℕ → Bytes → Result (List FeedBag)
bags_from zero least s = do
  _ ← refuse_if (not (is_empty s)) 19
  ok []
bags_from (suc n) least s = do
  _ ← refuse_if (ltb (length s) (bag_length s)) 19
  _ ← refuse_if (not (feed_bag_fits least (to_feed_bag s))) 19
  bs ← bags_from n (suc (to_feed_bag s).moment) (drop (bag_length s) s)
  ok (to_feed_bag s ∷ bs)

unfoldable pub feed_of : Bytes → Result (List FeedBag)
feed_of s = do
  _ ← refuse_if (ltb (length s) count_size || ltb max_bags (number_at count_size 0 s)) 19
  bags_from (number_at count_size 0 s) 0 (drop count_size s)
