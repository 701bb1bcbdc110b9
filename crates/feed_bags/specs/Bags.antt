-- What going over a feed answers, by what the reader of feeds answers. Nothing here has to be believed. Assumes nothing.
use Rattle.std.specs.Prelude.{List, length, Option, Some, None}
use Rattle.definition.specs.Bytes.{Result, ok, refused, ◌>>=◌}
use Rattle.definition.specs.Feed.{FeedBag, last_moment}
use Rattle.feed_bags.specs.declared.Bags.{Bags}

-- The struct of some bags, and those of the reader's answer.
abbrev pub bags_of : List FeedBag → Bags
bags_of bs = record { count = length bs; last = last_moment bs }

abbrev pub bags_told : Result (List FeedBag) → Result Bags
bags_told r = r >>= λ bs. ok (bags_of bs)

-- "19 when the feed breaks its layout": what the code's answer says.
abbrev pub bags_found : Option Bags → Result Bags
bags_found None = refused 19
bags_found (Some b) = ok b
