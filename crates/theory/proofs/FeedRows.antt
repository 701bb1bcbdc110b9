-- What a feed answers, row by row of the table: the model, the saved run, the feed itself, its times, and then its calls in turn; and what the
-- checks let through: bytes that are a feed, or, whatever the elements are, bags that are those of a feed. Assumes nothing.
use mathlib.Core.Path.{◌≡◌, refl, ap, ◌∙◌, subst}
use mathlib.Core.Logic.{inl, inr}
use Prim.Native.Nat.{ℕ, zero, suc}
use mathlib.Core.List.{List, [], ◌∷◌}
use mathlib.Core.Bool.{Bool, true, false, ◌||◌, not}
use native.Mathlib.Omega.{arith}
use lib.Dec.{ltb}
use lib.ListN.{length, drop}
use borrow.Author.Tests.{lt-ltb, le-ltb, ltb-true, ltb-false, not-false}
use Rattle.definition.specs.Lists.{is_empty}
use Rattle.definition.specs.Bytes.{Bytes, AllBytes, Result, ok, refused, ◌>>=◌, number_at}
use Rattle.definition.specs.Limits.{count_size, max_moment, max_bags}
use Rattle.definition.specs.Model.{Model}
use Rattle.definition.specs.Pinned.Decoder.{accepted}
use Rattle.definition.specs.Pinned.FeedReader.{bag_length, to_feed_bag, feed_bag_fits, bags_from, feed_of}
use Rattle.definition.specs.SavedRun.{run_fits}
use Rattle.definition.specs.Feed.{FeedBag, feed_bytes, IsFeed, FeedMistimed, FeedTimed, last_moment, first_moment, feed_calls}
use Rattle.definition.specs.FeedCall.{Fed, nothing_fed, fed_in_turn, own_bags, fed_or, feed_checks, advance_feed}
use Rattle.definition.specs.Demands.{opening_of, MayFeed, FeedRefusal, feed_refuses_model, feed_refuses_run, feed_refuses_feed, feed_refuses_time}
use Rattle.law_base.proofs.Tests.{or_left, or_right, or-none}
use Rattle.law_base.proofs.Results.{only-refused, refuse-ok, bind_ok, ok_same}
use Rattle.law_feed.proofs.FeedBytes.{fits-proper, feed-read, feed-back, no-feed}
use Rattle.law_feed.proofs.Timed.{InTime, time-proper, time-rises}
use Rattle.theory.proofs.CallRows.{by_row}

-- ---- the times

-- the test of 11
abbrev pub late : ℕ → ℕ → List FeedBag → Bool
late o end bs = ltb end (last_moment bs) || ltb max_moment end || ltb (first_moment bs end) o

is-late : (o end : ℕ) (bs : List FeedBag) → FeedMistimed o end bs → late o end bs ≡ true
is-late o end bs (inl l) = or_left (ltb end (last_moment bs) || ltb max_moment end) _ (or_left (ltb end (last_moment bs)) _ (lt-ltb end (last_moment bs) l))
is-late o end bs (inr (inl l)) = or_left (ltb end (last_moment bs) || ltb max_moment end) _ (or_right (ltb end (last_moment bs)) _ (lt-ltb max_moment end l))
is-late o end bs (inr (inr l)) = or_right (ltb end (last_moment bs) || ltb max_moment end) _ (lt-ltb (first_moment bs end) o l)

not_late : (o end : ℕ) (bs : List FeedBag) → FeedTimed o end bs → late o end bs ≡ false
not_late o end bs t = rw (le-ltb end (last_moment bs) t.not_before_lem, le-ltb max_moment end t.not_late, le-ltb (first_moment bs end) o t.not_early)

-- one or the other
pub mistimed : (o end : ℕ) (bs : List FeedBag) → late o end bs ≡ true → FeedMistimed o end bs
mistimed o end bs h = go (ltb end (last_moment bs)) refl (ltb max_moment end) refl h
  where
    go : (a : Bool) → ltb end (last_moment bs) ≡ a → (b : Bool) → ltb max_moment end ≡ b → a || b || ltb (first_moment bs end) o ≡ true → FeedMistimed o end bs
    go true e b f h = inl (ltb-true end (last_moment bs) e)
    go false e true f h = inr (inl (ltb-true max_moment end f))
    go false e false f h = inr (inr (ltb-true (first_moment bs end) o h))

pub timed : (o end : ℕ) (bs : List FeedBag) → late o end bs ≡ false → FeedTimed o end bs
timed o end bs h =
    let x = or-none (ltb end (last_moment bs) || ltb max_moment end) (ltb (first_moment bs end) o) h in
    let y = or-none (ltb end (last_moment bs)) (ltb max_moment end) x.0 in
    record { not_before_lem = ltb-false end (last_moment bs) y.0; not_late = ltb-false max_moment end y.1; not_early = ltb-false (first_moment bs end) o x.1 }

-- ---- row by row

module _ (file run : Bytes) (end : ℕ) (feed trace : Bytes) where
  pub feed-model : (n : ℕ) → accepted file ≡ refused n → advance_feed file run end feed trace ≡ nothing_fed n run trace
  unfolding advance_feed fed_or
  feed-model n e = rw e

  module _ (m : Model) (e : accepted file ≡ ok m) where
    pub feed-run : run_fits m run ≡ false → advance_feed file run end feed trace ≡ nothing_fed 10 run trace
    unfolding advance_feed fed_or feed_checks
    feed-run f = rw (e, f)

    module _ (f : run_fits m run ≡ true) where
      pub feed-none : feed_of feed ≡ refused 19 → advance_feed file run end feed trace ≡ nothing_fed 19 run trace
      unfolding advance_feed fed_or feed_checks
      feed-none g = rw (e, f, g)

      pub feed-time : (bs : List FeedBag) → IsFeed feed bs → FeedMistimed (opening_of m run) end bs → advance_feed file run end feed trace ≡ nothing_fed 11 run trace
      unfolding advance_feed fed_or feed_checks
      feed-time bs g l = rw (e, f, feed-back feed bs g, is-late (opening_of m run) end bs l)

    pub feed-done : (bs : List FeedBag) → MayFeed m run end feed bs
        → advance_feed file run end feed trace ≡ own_bags (length bs) (fed_in_turn file run trace (feed_calls bs end))
    unfolding advance_feed fed_or feed_checks
    feed-done bs h = rw (e, h.run_fits_lem, feed-back feed bs h.is_feed, not_late (opening_of m run) end bs h.timed)

  pub feed_refused : (n : ℕ) → AllBytes feed → FeedRefusal file run end feed n → advance_feed file run end feed trace ≡ nothing_fed n run trace
  feed_refused n b (feed_refuses_model k l j) = feed-model k (by_row file k l j)
  feed_refused n b (feed_refuses_run m e f) = feed-run m e f
  feed_refused n b (feed_refuses_feed m e f none) = feed-none m e f (only-refused 19 (feed_of feed) (λ bs g. none bs (feed-read feed bs b g)) (no-feed feed))
  feed_refused n b (feed_refuses_time m bs e f g l) = feed-time m e f bs g l

-- ---- a feed that the checks let through

-- what the reader asks of the bags, whatever the elements that it reads are
bags-asked : (n least : ℕ) (s : Bytes) (bs : List FeedBag) → bags_from n least s ≡ ok bs → InTime least bs × (length bs ≡ n)
unfolding bags_from
bags-asked zero least s bs e = let x = refuse-ok (not (is_empty s)) 19 _ bs e in subst (λ l. InTime least l × (length l ≡ 0)) (ok_same [] bs x.1) (tt, refl)
bags-asked (suc n) least s bs e =
    let b = to_feed_bag s in
    let x = refuse-ok (ltb (length s) (bag_length s)) 19 _ bs e in
    let y = refuse-ok (not (feed_bag_fits least b)) 19 _ bs x.1 in
    let z = bind_ok (bags_from n (suc b.moment) (drop (bag_length s) s)) _ bs y.1 in
    let fits = fits-proper least b (not-false (feed_bag_fits least b) y.0) in
    let on = bags-asked n (suc b.moment) (drop (bag_length s) s) z.0 z.1 in
    subst (λ l. InTime least l × (length l ≡ suc n)) (ok_same (b ∷ z.0) bs z.2) ((fits.0, fits.1.0, fits.1.1, on.0), ap suc on.1)

-- so the bags that it reads are those of a feed, of the one with their bytes
read-feed : (s : Bytes) (bs : List FeedBag) → feed_of s ≡ ok bs → IsFeed (feed_bytes bs) bs
unfolding feed_of
read-feed s bs e =
    let n = number_at count_size 0 s in
    let x = refuse-ok (ltb (length s) count_size || ltb max_bags n) 19 _ bs e in
    let r = bags-asked n 0 (drop count_size s) bs x.1 in
    record {
      whole = refl;
      few = omega (arith, r.1, ltb-false max_bags n (or-none (ltb (length s) count_size) (ltb max_bags n) x.0).1);
      bags = time-proper 0 bs r.0;
      rising = time-rises 0 bs r.0;
    }

module _ (m : Model) (run : Bytes) (end : ℕ) (feed : Bytes) (bs : List FeedBag) (h : feed_checks m run end feed ≡ ok bs) where
  checked : (run_fits m run ≡ true) × (feed_of feed ≡ ok bs) × FeedTimed (opening_of m run) end bs
  unfolding feed_checks
  checked =
      let x = refuse-ok (not (run_fits m run)) 10 _ bs h in
      let y = bind_ok (feed_of feed) _ bs x.1 in
      let z = refuse-ok (late (opening_of m run) end y.0) 11 _ bs y.2 in
      let same = ok_same y.0 bs z.1 in
      (not-false (run_fits m run) x.0, y.1 ∙ ap ok same, subst (FeedTimed (opening_of m run) end) same (timed (opening_of m run) end y.0 z.0))

  -- bytes are a feed
  pub may-feed : AllBytes feed → MayFeed m run end feed bs
  may-feed b = record { run_fits_lem = checked.0; is_feed = feed-read feed bs b checked.1; timed = checked.2 }

  -- and whatever the elements are, the bags are those of a feed that runs
  pub may-run : MayFeed m run end (feed_bytes bs) bs
  may-run = record { run_fits_lem = checked.0; is_feed = read-feed feed bs checked.1; timed = checked.2 }

-- A feed of an accepted model is refused with nothing changed, or is its calls in turn.
pub by-checks : (file run : Bytes) (end : ℕ) (feed trace : Bytes) (m : Model) → accepted file ≡ ok m → (P : Fed → Type 0) → ((n : ℕ) → P (nothing_fed n run trace))
    → ((bs : List FeedBag) → MayFeed m run end (feed_bytes bs) bs → P (own_bags (length bs) (fed_in_turn file run trace (feed_calls bs end)))) → P (advance_feed file run end feed trace)
unfolding advance_feed
by-checks file run end feed trace m e P none some = rw e (go (feed_checks m run end feed) refl)
  where
    go : (r : Result (List FeedBag)) → feed_checks m run end feed ≡ r
        → P (fed_or run trace (feed_checks m run end feed >>= λ bs. ok (own_bags (length bs) (fed_in_turn file run trace (feed_calls bs end)))))
    go (refused n) f = rw f (unfold fed_or in none n)
    go (ok bs) f = rw f (unfold fed_or in some bs (may-run m run end feed bs f))
