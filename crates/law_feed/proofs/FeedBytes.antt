-- The reader of feeds answers the bags that the bytes are, and 19 for all other bytes: a feed written is read back, and what was read of bytes is
-- written as it stood. Assumes nothing.
use mathlib.Core.Path.{◌≡◌, refl, sym, ap, ap₂, ◌∙◌, subst}
use Prim.Native.Nat.{ℕ, zero, suc, ◌+◌, ◌*◌, ◌/◌, ◌%◌, ◌^◌, ◌≤◌, ◌<◌}
use mathlib.Core.List.{List, [], ◌∷◌, ◌++◌, map, append_assoc}
use mathlib.Core.Bool.{Bool, true, false, ◌&&◌, ◌||◌, not}
use native.Mathlib.Omega.{arith}
use lib.Dec.{leb, ltb, eqb}
use lib.ListN.{length, take, drop, length-append, length-drop, take-append-drop}
use lib.Seq.{take_at, drop_at, take-add, length-take-le}
use borrow.Author.Tests.{leb-true, eqb-true, le-leb, le-ltb}
use Rattle.definition.specs.Lists.{concat, is_empty}
use Rattle.definition.specs.Bytes.{Bytes, AllBytes, none, more, Result, ok, refused, ◌>>=◌, refuse_if, number_at, bytes_of}
use Rattle.definition.specs.Limits.{count_size, message_size, max_moment, max_given, max_bags, bag_head}
use Rattle.definition.specs.Sound.{Every}
use Rattle.definition.specs.Engine.{bag_fits}
use Rattle.definition.specs.Feed.{FeedBag, IsFeed, feed_bag_bytes, feed_bytes}
use Rattle.definition.specs.Pinned.FeedReader.{bag_length, to_feed_bag, feed_bag_fits, bags_from, feed_of}
use Rattle.law_base.proofs.Tests.{clash, and_left, and_right, and-true}
use Rattle.law_model.proofs.Codec.{drop-bytes, length-bytes, number-front, number_behind, number-written}
use Rattle.law_feed.proofs.Reading.{read_one, read_none, read-feed}
use Rattle.law_feed.proofs.Timed.{Proper, InTime, in_time, time-proper, time-rises}

-- ---- one bag

-- what the test on a bag says
pub fits-proper : (least : ℕ) (b : FeedBag) → feed_bag_fits least b ≡ true → (least ≤ b.moment) × Proper b
unfolding feed_bag_fits
fits-proper least b h =
    let soon = leb least b.moment in
    let late = leb b.moment max_moment in
    let k = and_left (soon && late) (bag_fits b.bag) h in
    (leb-true least b.moment (and_left soon late k), (leb-true b.moment max_moment (and_right soon late k), and_right (soon && late) (bag_fits b.bag) h))

pub proper-fits : (least : ℕ) (b : FeedBag) → least ≤ b.moment → Proper b → feed_bag_fits least b ≡ true
unfolding feed_bag_fits
proper-fits least b l p = and-true _ _ (and-true _ _ (le-leb least b.moment l) (le-leb b.moment max_moment p.0)) p.1

rows_of : (s : Bytes) → bag_fits s ≡ true → (length s % message_size ≡ 0) × (length s ≤ message_size * max_given)
unfolding bag_fits
rows_of s h =
    let a = eqb (length s % message_size) 0 in
    let b = leb (length s) (message_size * max_given) in
    let k = and_left (a && b) _ h in
    (eqb-true (length s % message_size) 0 (and_left a b k), leb-true (length s) (message_size * max_given) (and_right a b k))

-- written before any bytes, and read back
module _ (b : FeedBag) (rest : Bytes) (h : Proper b) where
  abbrev n : ℕ
  n = length b.bag / message_size

  whole : n * message_size ≡ length b.bag
  whole = let r = rows_of b.bag h.1 in omega (arith, r.0)

  few : n < 256 ^ 1
  few = let r = rows_of b.bag h.1 in omega (arith, r.1)

  shape : feed_bag_bytes b ++ rest ≡ bytes_of 8 b.moment ++ (bytes_of 1 n ++ (b.bag ++ rest))
  unfolding feed_bag_bytes
  shape = simp append_assoc

  head : length (bytes_of 8 b.moment ++ bytes_of 1 n) ≡ bag_head
  head = length-append (bytes_of 8 b.moment) (bytes_of 1 n) ∙ ap₂ ◌+◌ (length-bytes 8 b.moment) (length-bytes 1 n)

  count-back : number_at 1 8 (feed_bag_bytes b ++ rest) ≡ n
  count-back = ap (number_at 1 8) shape ∙ number_behind 1 8 (bytes_of 8 b.moment) _ (length-bytes 8 b.moment) ∙ number-front 1 n _ few

  behind : drop bag_head (feed_bag_bytes b ++ rest) ≡ b.bag ++ rest
  behind =
      ap (drop bag_head) (shape ∙ sym (append_assoc (bytes_of 8 b.moment) (bytes_of 1 n) (b.bag ++ rest)))
      ∙ drop_at (bytes_of 8 b.moment ++ bytes_of 1 n) (b.bag ++ rest) bag_head head

  pub bag-back : to_feed_bag (feed_bag_bytes b ++ rest) ≡ b
  unfolding to_feed_bag
  bag-back =
      let t : number_at 8 0 (feed_bag_bytes b ++ rest) ≡ b.moment = ap (number_at 8 0) shape ∙ number-front 8 b.moment _ (omega (arith, h.0)) in
      let x : take (number_at 1 8 (feed_bag_bytes b ++ rest) * message_size) (drop bag_head (feed_bag_bytes b ++ rest)) ≡ b.bag
      = ap₂ (λ i s. take (i * message_size) s) count-back behind ∙ take_at b.bag rest (n * message_size) (sym whole) in
      λ i. record { moment = t i; bag = x i }

  pub length-bag : length (feed_bag_bytes b) ≡ bag_head + length b.bag
  unfolding feed_bag_bytes
  length-bag = length-append (bytes_of 8 b.moment ++ bytes_of 1 n) b.bag ∙ ap (λ i. i + length b.bag) head

  pub length_back : bag_length (feed_bag_bytes b ++ rest) ≡ length (feed_bag_bytes b)
  unfolding bag_length
  length_back = ap (λ i. bag_head + i * message_size) count-back ∙ ap (λ i. bag_head + i) whole ∙ sym length-bag

-- read of bytes, and written as it stood
pub bag-written : {s : Bytes} → AllBytes s → bag_length s ≤ length s → feed_bag_bytes (to_feed_bag s) ≡ take (bag_length s) s
unfolding bag_length to_feed_bag feed_bag_bytes
bag-written {s} h l =
    let k = number_at 1 8 s in
    let body : length (take (k * message_size) (drop bag_head s)) ≡ k * message_size = length-take-le (k * message_size) (drop bag_head s) (omega (arith, length-drop bag_head s)) in
    let rows : length (take (k * message_size) (drop bag_head s)) / message_size ≡ k = omega arith in
    ap₂ ◌++◌ (ap₂ ◌++◌ (number-written 8 0 (omega arith) h) (ap (bytes_of 1) rows ∙ number-written 1 8 (omega arith) h) ∙ sym (take-add 8 1 s)) refl
    ∙ sym (take-add bag_head (k * message_size) s)

-- ---- bags in a row

no-rest : (s : Bytes) → not (is_empty s) ≡ false → s ≡ []
unfolding is_empty
no-rest [] e = refl
no-rest (b ∷ s) e = absurd (clash refl e)

pub bags-back : (least : ℕ) (bs : List FeedBag) → InTime least bs → bags_from (length bs) least (concat (map feed_bag_bytes bs)) ≡ ok bs
unfolding bags_from concat is_empty
bags-back least [] t = refl
bags-back least (b ∷ bs) t =
    let rest = concat (map feed_bag_bytes bs) in
    let own : Proper b = (t.1, t.2) in
    let size = length_back b rest own in
    rw (
      le-ltb (length (feed_bag_bytes b ++ rest)) (bag_length (feed_bag_bytes b ++ rest)) (omega (arith, length-append (feed_bag_bytes b) rest)),
      drop_at (feed_bag_bytes b) rest (bag_length (feed_bag_bytes b ++ rest)) (sym size),
      bag-back b rest own,
      proper-fits least b t.0 own,
      bags-back (suc b.moment) bs t.3,
    )

-- What bags are that were read: their bytes, and their moments from `least` on.
pub record BagsRead (n least : ℕ) (s : Bytes) (bs : List FeedBag) : Type 0 where
  pub whole : concat (map feed_bag_bytes bs) ≡ s
  pub in_time : InTime least bs

pub bags-read : (n least : ℕ) (s : Bytes) (bs : List FeedBag) → AllBytes s → bags_from n least s ≡ ok bs → BagsRead n least s bs
unfolding bags_from concat
bags-read zero least s bs h e =
    let none = read_none least s bs e in
    subst (BagsRead 0 least s) none.0 (record { whole = sym (no-rest s none.1); in_time = tt })
bags-read (suc n) least s bs h e =
    let one = read_one n least s bs e in
    let fits = fits-proper least (to_feed_bag s) one.fits in
    let on = bags-read n (suc (to_feed_bag s).moment) (drop (bag_length s) s) one.others (drop-bytes (bag_length s) h) one.behind in
    subst (BagsRead (suc n) least s) one.same
    (record {
      whole = ap₂ ◌++◌ (bag-written h one.whole) on.whole ∙ take-append-drop (bag_length s) s;
      in_time = (fits.0, fits.1.0, fits.1.1, on.in_time);
    })

-- ---- the feed

pub feed-read : (s : Bytes) (bs : List FeedBag) → AllBytes s → feed_of s ≡ ok bs → IsFeed s bs
unfolding feed_bytes
feed-read s bs b e =
    let f = read-feed s bs e in
    let r = bags-read (length bs) 0 (drop count_size s) bs (drop-bytes count_size b) f.behind in
    record {
      whole = sym (ap₂ ◌++◌ (ap (bytes_of count_size) f.number ∙ number-written count_size 0 (omega (arith, f.long)) b) r.whole ∙ take-append-drop count_size s);
      few = f.few;
      bags = time-proper 0 bs r.in_time;
      rising = time-rises 0 bs r.in_time;
    }

pub feed-back : (s : Bytes) (bs : List FeedBag) → IsFeed s bs → feed_of s ≡ ok bs
unfolding feed_of feed_bytes
feed-back s bs f =
    let body = concat (map feed_bag_bytes bs) in
    let c = bytes_of count_size (length bs) in
    let few = f.few in
    let read : feed_of (c ++ body) ≡ ok bs = rw (
      le-ltb (length (c ++ body)) count_size (omega (arith, length-append c body, length-bytes count_size (length bs))),
      number-front count_size (length bs) body (omega arith),
      le-ltb max_bags (length bs) few,
      drop_at c body count_size (length-bytes count_size (length bs)),
    ) (bags-back 0 bs (in_time 0 0 bs f.bags f.rising (omega arith))) in
    ap feed_of f.whole ∙ read

-- ---- the bytes of its bags

-- a part of bytes is bytes
parts-bytes : (x y : Bytes) → AllBytes (x ++ y) → AllBytes x × AllBytes y
parts-bytes [] y h = (none, h)
parts-bytes (b ∷ x) y (more e t) = let k = parts-bytes x y t in (more e k.0, k.1)

each-bytes : (bs : List FeedBag) → AllBytes (concat (map feed_bag_bytes bs)) → Every (λ b. AllBytes b.bag) bs
unfolding concat feed_bag_bytes
each-bytes [] h = tt
each-bytes (b ∷ bs) h =
    let k = parts-bytes (feed_bag_bytes b) (concat (map feed_bag_bytes bs)) h in
    ((parts-bytes (bytes_of 8 b.moment ++ bytes_of 1 (length b.bag / message_size)) b.bag k.0).1, each-bytes bs k.1)

pub bags-bytes : (s : Bytes) (bs : List FeedBag) → AllBytes s → IsFeed s bs → Every (λ b. AllBytes b.bag) bs
unfolding feed_bytes
bags-bytes s bs h f = each-bytes bs (parts-bytes (bytes_of count_size (length bs)) (concat (map feed_bag_bytes bs)) (subst AllBytes f.whole h)).1

-- ---- 19 alone

abbrev Only : {A : Type 0} → Result A → Type 0
Only (ok a) = Unit {0}
Only (refused j) = j ≡ 19

only_if : {A : Type 0} (t : Bool) (f : Unit {0} → Result A) → Only (f tt) → Only (refuse_if t 19 >>= f)
only_if true f h = refl
only_if false f h = h

only-bind : {A B : Type 0} (r : Result A) (f : A → Result B) → Only r → ((a : A) → Only (f a)) → Only (r >>= f)
only-bind (ok a) f h k = k a
only-bind (refused j) f h k = h

bags-only : (n least : ℕ) (s : Bytes) → Only (bags_from n least s)
unfolding bags_from
bags-only zero least s = only_if (not (is_empty s)) (λ _. ok []) tt
bags-only (suc n) least s =
    let b = to_feed_bag s in
    let on = bags_from n (suc b.moment) (drop (bag_length s) s) in
    only_if (ltb (length s) (bag_length s)) _ (only_if (not (feed_bag_fits least b)) _
    (only-bind on (λ bs. ok (b ∷ bs)) (bags-only n (suc b.moment) (drop (bag_length s) s)) (λ bs. tt)))

feed_only : (s : Bytes) → Only (feed_of s)
unfolding feed_of
feed_only s =
    let n = number_at count_size 0 s in
    only_if (ltb (length s) count_size || ltb max_bags n) (λ _. bags_from n 0 (drop count_size s)) (bags-only n 0 (drop count_size s))

pub bags-refused : (n least : ℕ) (s : Bytes) (j : ℕ) → bags_from n least s ≡ refused j → j ≡ 19
bags-refused n least s j e = subst Only e (bags-only n least s)

pub no-feed : (s : Bytes) (n : ℕ) → feed_of s ≡ refused n → n ≡ 19
no-feed s n e = subst Only e (feed_only s)
