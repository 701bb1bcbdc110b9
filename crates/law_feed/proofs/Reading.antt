-- The reader of feeds taken apart where it answers bags: the bag at the front and those behind it. Assumes nothing.
use mathlib.Core.Path.{◌≡◌, sym, ap, ◌∙◌}
use Prim.Native.Nat.{ℕ, zero, suc, ◌+◌, ◌*◌, ◌%◌, ◌≤◌}
use mathlib.Core.List.{List, [], ◌∷◌}
use mathlib.Core.Bool.{true, false, not, ◌&&◌, ◌||◌}
use native.Mathlib.Omega.{arith}
use lib.Dec.{leb, ltb, eqb}
use lib.ListN.{length, take, drop, length-drop}
use lib.Seq.{length-take-le}
use borrow.Author.Tests.{leb-true, ltb-false, not-false}
use Rattle.definition.specs.Lists.{is_empty}
use Rattle.definition.specs.Bytes.{Bytes, ok, number_at}
use Rattle.definition.specs.Limits.{count_size, message_size, max_given, max_moment, max_bags, bag_head}
use Rattle.definition.specs.Engine.{bag_fits}
use Rattle.definition.specs.Feed.{FeedBag}
use Rattle.definition.specs.Pinned.FeedReader.{bag_length, to_feed_bag, feed_bag_fits, bags_from, feed_of}
use Rattle.law_base.proofs.Tests.{and_left, and_right, or-none}
use Rattle.law_base.proofs.Results.{ok_same, bind_ok, refuse-ok}

-- The bag at the front is whole and may stand there, and the others are read behind it.
pub record OneRead (n least : ℕ) (s : Bytes) (bs : List FeedBag) : Type 0 where
  pub others : List FeedBag
  pub same : to_feed_bag s ∷ others ≡ bs
  pub whole : bag_length s ≤ length s
  pub fits : feed_bag_fits least (to_feed_bag s) ≡ true
  pub behind : bags_from n (suc (to_feed_bag s).moment) (drop (bag_length s) s) ≡ ok others

pub read_one : (n least : ℕ) (s : Bytes) (bs : List FeedBag) → bags_from (suc n) least s ≡ ok bs → OneRead n least s bs
unfolding bags_from
read_one n least s bs e =
    let x = refuse-ok (ltb (length s) (bag_length s)) 19 _ bs e in
    let y = refuse-ok (not (feed_bag_fits least (to_feed_bag s))) 19 _ bs x.1 in
    let z = bind_ok (bags_from n (suc (to_feed_bag s).moment) (drop (bag_length s) s)) _ bs y.1 in
    record {
      others = z.0;
      same = ok_same (to_feed_bag s ∷ z.0) bs z.2;
      whole = ltb-false (length s) (bag_length s) x.0;
      fits = not-false (feed_bag_fits least (to_feed_bag s)) y.0;
      behind = z.1;
    }

-- A bag that may stand there is short.
pub short : (least : ℕ) (s : Bytes) → bag_length s ≤ length s → feed_bag_fits least (to_feed_bag s) ≡ true → bag_length s ≤ bag_head + message_size * max_given
unfolding bag_length feed_bag_fits to_feed_bag bag_fits
short least s l h =
    let n = number_at 1 8 s * message_size in
    let b = take n (drop bag_head s) in
    let few = leb (length b) (message_size * max_given) in
    let rows = eqb (length b % message_size) 0 in
    let size : length b ≡ n = length-take-le n (drop bag_head s) (omega (arith, l, length-drop bag_head s)) in
    omega (arith, size, leb-true (length b) (message_size * max_given) (and_right rows few (and_left (rows && few) _ (and_right (leb least (number_at 8 0 s) && leb (number_at 8 0 s) max_moment) _ h))))

pub read_none : (least : ℕ) (s : Bytes) (bs : List FeedBag) → bags_from 0 least s ≡ ok bs → ([] ≡ bs) × (not (is_empty s) ≡ false)
unfolding bags_from
read_none least s bs e = let x = refuse-ok (not (is_empty s)) 19 _ bs e in (ok_same [] bs x.1, x.0)

-- There are as many bags as are asked for.
pub bags-length : (n least : ℕ) (s : Bytes) (bs : List FeedBag) → bags_from n least s ≡ ok bs → length bs ≡ n
bags-length zero least s bs e = ap length (sym (read_none least s bs e).0)
bags-length (suc n) least s bs e =
    let r = read_one n least s bs e in
    ap length (sym r.same) ∙ ap suc (bags-length n _ _ r.others r.behind)

-- A feed is its bags behind their count.
pub record FeedRead (s : Bytes) (bs : List FeedBag) : Type 0 where
  pub long : count_size ≤ length s
  pub number : length bs ≡ number_at count_size 0 s
  pub few : length bs ≤ max_bags
  pub behind : bags_from (length bs) 0 (drop count_size s) ≡ ok bs

pub read-feed : (s : Bytes) (bs : List FeedBag) → feed_of s ≡ ok bs → FeedRead s bs
unfolding feed_of
read-feed s bs e =
    let n = number_at count_size 0 s in
    let x = refuse-ok (ltb (length s) count_size || ltb max_bags n) 19 _ bs e in
    let o = or-none (ltb (length s) count_size) (ltb max_bags n) x.0 in
    let l = bags-length n 0 (drop count_size s) bs x.1 in
    record {
      long = ltb-false (length s) count_size o.0;
      number = l;
      few = omega (arith, l, ltb-false max_bags n o.1);
      behind = ap (λ k. bags_from k 0 (drop count_size s)) l ∙ x.1;
    }
