-- What a feed of bags is, the moments at which it may be run, and the calls of which it is made: request (v) of document 02. Assumes nothing.
use Rattle.std.specs.Prelude.{◌≡◌, ◌⊎◌, ℕ, ◌/◌, ◌≤◌, ◌<◌, List, [], ◌∷◌, ◌++◌, map, true, ◌||◌, cond, ltb, length}
use Rattle.definition.specs.Lists.{concat, is_empty, rises}
use Rattle.definition.specs.Bytes.{Bytes, bytes_of}
use Rattle.definition.specs.Limits.{count_size, message_size, max_moment, max_bags}
use Rattle.definition.specs.Sound.{Every}
use Rattle.definition.specs.Engine.{bag_fits}

-- A bag of a feed: its moment, and its messages as the bytes of a given bag.
pub record FeedBag : Type 0 where
  pub moment : ℕ
  pub bag : Bytes

-- "for each bag its moment (8 bytes), its message count (1 byte, 0 to 16) and messages"
unfoldable pub feed_bag_bytes : FeedBag → Bytes
feed_bag_bytes b = bytes_of 8 b.moment ++ bytes_of 1 (length b.bag / message_size) ++ b.bag

-- "a two-byte count, then for each bag .."
unfoldable pub feed_bytes : List FeedBag → Bytes
feed_bytes bs = bytes_of count_size (length bs) ++ concat (map feed_bag_bytes bs)

-- The bytes are these bags, nothing is cut and there are no "bytes left over".
pub record IsFeed (s : Bytes) (bs : List FeedBag) : Type 0 where
  pub whole : s ≡ feed_bytes bs
  -- "a feed of up to 1,000 bags"
  pub few : length bs ≤ max_bags
  -- "up to the usual highest"; "message count (1 byte, 0 to 16)"; no "port above 3"
  pub bags : Every (λ b. (b.moment ≤ max_moment) × (bag_fits b.bag ≡ true)) bs
  -- "Moments rise strictly"
  pub rising : rises (λ a b. ltb a.moment b.moment) bs ≡ true

-- The moments of the last bag and of the first call; with no bag the first call is the one to the end.
unfoldable pub last_moment : List FeedBag → ℕ
last_moment [] = 0
last_moment (b ∷ []) = b.moment
last_moment (b ∷ c ∷ bs) = last_moment (c ∷ bs)

unfoldable pub first_moment : List FeedBag → ℕ → ℕ
first_moment [] end = end
first_moment (b ∷ bs) end = b.moment

-- "An end moment before the last bag, or above the highest, is refused by 11", and so is a first call before the open moment.
abbrev pub FeedMistimed : (opening end : ℕ) → List FeedBag → Type 0
FeedMistimed opening end bs = (end < last_moment bs) ⊎ ((max_moment < end) ⊎ (first_moment bs end < opening))

pub record FeedTimed (opening end : ℕ) (bs : List FeedBag) : Type 0 where
  pub not_before_lem : last_moment bs ≤ end
  pub not_late : end ≤ max_moment
  pub not_early : opening ≤ first_moment bs end

-- "its advance calls in turn .., plus an empty-bag advance to the end if it lies past the last bag or there is none"
unfoldable pub feed_calls : List FeedBag → ℕ → List FeedBag
feed_calls bs end = bs ++ cond (is_empty bs || ltb (last_moment bs) end) (record { moment = end; bag = [] } ∷ []) []
