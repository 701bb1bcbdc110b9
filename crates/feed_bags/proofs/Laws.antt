-- The reader of feeds, bag by bag: what is left to read and the last moment so far tell the whole. Assumes nothing.
use mathlib.Core.Path.{◌≡◌, refl, sym, ap, ◌∙◌}
use Prim.Native.Nat.{ℕ, suc, ◌≤◌, ◌<◌}
use mathlib.Core.List.{List, [], ◌∷◌}
use mathlib.Core.Bool.{Bool, true, false, ◌&&◌, ◌||◌, not}
use native.Mathlib.Omega.{arith}
use lib.Dec.{leb, ltb}
use lib.ListN.{length, drop}
use borrow.Author.Tests.{ltb-false, leb-true, not-true}
use Rattle.definition.specs.Lists.{is_empty}
use Rattle.definition.specs.Bytes.{Bytes, Result, ok, refused, ◌>>=◌, refuse_if, number_at}
use Rattle.definition.specs.Limits.{count_size, max_moment, max_bags}
use Rattle.definition.specs.Feed.{FeedBag, last_moment}
use Rattle.definition.specs.Pinned.FeedReader.{bag_length, to_feed_bag, feed_bag_fits, bags_from, feed_of}
use Rattle.law_base.proofs.Tests.{clash, and_left, and_right}
use Rattle.law_feed.proofs.Reading.{bags-length}
use Rattle.feed_bags.specs.Bags.{bags_told}

-- The bag at the front is not cut, and may stand where moments from `least` on are left.
abbrev pub Standing : Bytes → ℕ → Bool
Standing s least = not (ltb (length s) (bag_length s)) && feed_bag_fits least (to_feed_bag s)

-- The last moment, where bags with the last moment `before` have passed and these are left.
unfoldable pub last_after : ℕ → Result (List FeedBag) → Result ℕ
last_after before (ok []) = ok before
last_after before (ok (b ∷ bs)) = ok (last_moment (b ∷ bs))
last_after before (refused n) = refused n

pub after-no : (before : ℕ) {r : Result (List FeedBag)} {n : ℕ} → r ≡ refused n → last_after before r ≡ refused n
unfolding last_after
after-no before e = rw e

-- ---- one bag

-- it is whole, and its moment is not too late
pub standing-long : (s : Bytes) (least : ℕ) → Standing s least ≡ true → bag_length s ≤ length s
standing-long s least h = ltb-false (length s) (bag_length s) (not-true _ (and_left (not (ltb (length s) (bag_length s))) _ h))

pub standing-low : (s : Bytes) (least : ℕ) → Standing s least ≡ true → (to_feed_bag s).moment ≤ max_moment
unfolding feed_bag_fits
standing-low s least h =
    let b = to_feed_bag s in
    let up = leb least b.moment in
    let low = leb b.moment max_moment in
    leb-true b.moment max_moment (and_right up low (and_left (up && low) _ (and_right (not (ltb (length s) (bag_length s))) _ h)))

module _ (n least before : ℕ) (s : Bytes) where
  pub rest_more : Standing s least ≡ true
      → last_after before (bags_from (suc n) least s) ≡ last_after (to_feed_bag s).moment (bags_from n (suc (to_feed_bag s).moment) (drop (bag_length s) s))
  unfolding bags_from
  rest_more h =
      let whole : ltb (length s) (bag_length s) ≡ false = not-true _ (and_left (not (ltb (length s) (bag_length s))) _ h) in
      let fine : feed_bag_fits least (to_feed_bag s) ≡ true = and_right (not (ltb (length s) (bag_length s))) _ h in
      rw (whole, fine) (go (bags_from n (suc (to_feed_bag s).moment) (drop (bag_length s) s)))
    where
      go : (r : Result (List FeedBag)) → last_after before (r >>= λ bs. ok (to_feed_bag s ∷ bs)) ≡ last_after (to_feed_bag s).moment r
      go (ok []) = unfold last_after last_moment in refl
      go (ok (b ∷ bs)) = unfold last_after last_moment in refl
      go (refused j) = unfold last_after in refl

  pub rest-no : Standing s least ≡ false → bags_from (suc n) least s ≡ refused 19
  unfolding bags_from
  rest-no h = go (ltb (length s) (bag_length s)) (feed_bag_fits least (to_feed_bag s)) h _
    where
      go : (b c : Bool) → not b && c ≡ false → (r : Result (List FeedBag)) → (refuse_if b 19 >>= λ _. refuse_if (not c) 19 >>= λ _. r) ≡ refused 19
      go true c e r = refl
      go false true e r = absurd (clash refl e)
      go false false e r = refl

-- ---- none is left

pub rest_over : (least : ℕ) (s : Bytes) → 0 < length s → bags_from 0 least s ≡ refused 19
unfolding bags_from is_empty
rest_over least [] l = absurd (omega arith)
rest_over least (b ∷ s) l = refl

pub rest_end : (least before : ℕ) (s : Bytes) → length s ≡ 0 → last_after before (bags_from 0 least s) ≡ ok before
unfolding bags_from is_empty last_after
rest_end least before [] l = refl
rest_end least before (b ∷ s) l = absurd (omega arith)

-- ---- the whole feed

pub told : (n least : ℕ) (s : Bytes) → bags_told (bags_from n least s) ≡ (last_after 0 (bags_from n least s) >>= λ l. ok (record { count = n; last = l }))
told n least s = go (bags_from n least s) refl
  where
    go : (r : Result (List FeedBag)) → bags_from n least s ≡ r → bags_told r ≡ (last_after 0 r >>= λ l. ok (record { count = n; last = l }))
    go (ok []) e = unfold last_after last_moment in (let k = bags-length n least s [] e in rw k)
    go (ok (b ∷ bs)) e = unfold last_after in (let k = bags-length n least s (b ∷ bs) e in rw k)
    go (refused j) e = unfold last_after in refl

-- It is too short for a count, or that is over its limit.
abbrev pub Miscounted : Bytes → ℕ → Bool
Miscounted s n = ltb (length s) count_size || ltb max_bags n

module _ (s : Bytes) (n : ℕ) (e : n ≡ number_at count_size 0 s) where
  pub feed-short : Miscounted s n ≡ true → bags_told (feed_of s) ≡ refused 19
  unfolding feed_of
  feed-short h = let k : Miscounted s (number_at count_size 0 s) ≡ true = ap (Miscounted s) (sym e) ∙ h in rw k

  -- by the last moment that its bags tell
  pub feed-told : Miscounted s n ≡ false → (r : Result ℕ) → last_after 0 (bags_from n 0 (drop count_size s)) ≡ r
      → bags_told (feed_of s) ≡ (r >>= λ l. ok (record { count = n; last = l }))
  unfolding feed_of
  feed-told h r f =
      let k : Miscounted s (number_at count_size 0 s) ≡ false = ap (Miscounted s) (sym e) ∙ h in
      rw (k, ← e) (told n 0 (drop count_size s) ∙ ap (λ (q : Result ℕ). q >>= λ l. ok (record { count = n; last = l })) f)
