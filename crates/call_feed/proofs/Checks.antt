-- The checks of a feed, in the order of the table, and what each leaves of the definition. Assumes nothing.
use mathlib.Core.Path.{◌≡◌, refl, sym, ap, ◌∙◌}
use mathlib.Core.List.{List, [], ◌∷◌}
use mathlib.Core.Bool.{Bool, true, false, not, ◌||◌}
use Prim.Native.Nat.{ℕ}
use native.Mathlib.Omega.{arith}
use lib.Dec.{ltb}
use lib.ListN.{length, drop}
use Rattle.definition.specs.Bytes.{Bytes, Result, ok, refused, ◌>>=◌}
use Rattle.definition.specs.Limits.{count_size, max_moment}
use Rattle.definition.specs.Model.{Model}
use Rattle.definition.specs.Pinned.Decoder.{accepted}
use Rattle.definition.specs.Pinned.FeedReader.{to_feed_bag, feed_of}
use Rattle.definition.specs.SavedRun.{run_of, run_fits}
use Rattle.definition.specs.Feed.{FeedBag, last_moment, first_moment, feed_calls}
use Rattle.definition.specs.FeedCall.{nothing_fed, fed_or, own_bags, fed_in_turn, feed_checks, advance_feed}
use Rattle.law_base.proofs.Results.{ok_same, never-ok, bind_ok, refuse-ok}
use Rattle.law_feed.proofs.Reading.{read_one, read-feed}
use Rattle.feed_bags.specs.declared.Bags.{Bags}
use Rattle.feed_bags.specs.Bags.{bags_of, bags_told}
use Rattle.feed_loop.specs.Onwards.{bags_found, bags_in}

refused-same : {A : Type 0} (n k : ℕ) → ◌≡◌ {A = Result A} (refused n) (refused k) → n ≡ k
refused-same n k e = cc

-- ---- the feed that was found

-- A feed of which bags were told is read, and they are its bags.
pub found-read : (feed : Bytes) (b : Bags) → ok b ≡ bags_told (feed_of feed) → (feed_of feed ≡ ok (bags_in feed)) × (b ≡ bags_of (bags_in feed))
found-read feed b e = go (feed_of feed) e
  where
    go : (r : Result (List FeedBag)) → ok b ≡ bags_told r → (r ≡ ok (bags_found r)) × (b ≡ bags_of (bags_found r))
    go (ok bs) f = (refl, ok_same b (bags_of bs) f)
    go (refused n) f = absurd (never-ok n b (sym f))

pub broken : (feed : Bytes) → refused 19 ≡ bags_told (feed_of feed) → feed_of feed ≡ refused 19
broken feed e = go (feed_of feed) e
  where
    go : (r : Result (List FeedBag)) → refused 19 ≡ bags_told r → r ≡ refused 19
    go (ok bs) f = absurd (never-ok 19 (bags_of bs) f)
    go (refused n) f = ap refused (sym (refused-same 19 n f))

-- So it is where the checks have passed.
passed-read : (m : Model) (run : Bytes) (end : ℕ) (feed : Bytes) (bs : List FeedBag) → feed_checks m run end feed ≡ ok bs → feed_of feed ≡ ok bs
unfolding feed_checks
passed-read m run end feed bs f =
    let x = refuse-ok (not (run_fits m run)) 10 _ bs f in
    let y = bind_ok (feed_of feed) _ bs x.1 in
    let t = ltb end (last_moment y.0) || ltb max_moment end || ltb (first_moment y.0 end) (run_of m run).opening in
    y.1 ∙ (refuse-ok t 11 _ bs y.2).1

pub checked-read : (m : Model) (run : Bytes) (end : ℕ) (feed : Bytes) (b : Bags) → ok b ≡ bags_told (feed_checks m run end feed)
    → (feed_checks m run end feed ≡ ok (bags_in feed)) × (feed_of feed ≡ ok (bags_in feed)) × (b ≡ bags_of (bags_in feed))
checked-read m run end feed b e = go (feed_checks m run end feed) refl e
  where
    go : (r : Result (List FeedBag)) → feed_checks m run end feed ≡ r → ok b ≡ bags_told r
        → (feed_checks m run end feed ≡ ok (bags_in feed)) × (feed_of feed ≡ ok (bags_in feed)) × (b ≡ bags_of (bags_in feed))
    go (ok bs) f g =
        let is = passed-read m run end feed bs f in
        let same : bs ≡ bags_in feed = sym (ap bags_found is) in
        (f ∙ ap ok same, is ∙ ap ok same, ok_same b (bags_of bs) g ∙ ap bags_of same)
    go (refused n) f g = absurd (never-ok n b (sym g))

-- ---- the first moment

pub first-none : (bs : List FeedBag) (end : ℕ) → length bs ≡ 0 → first_moment bs end ≡ end
unfolding first_moment
first-none [] end l = refl
first-none (b ∷ bs) end l = absurd (omega arith)

pub first_some : (feed : Bytes) (bs : List FeedBag) (end : ℕ) → feed_of feed ≡ ok bs → (length bs ≡ 0 → ⊥) → first_moment bs end ≡ (to_feed_bag (drop count_size feed)).moment
unfolding first_moment
first_some feed [] end e z = absurd (z refl)
first_some feed (b ∷ bs) end e z = ap (λ (l : List FeedBag). first_moment l end) (sym (read_one (length bs) 0 (drop count_size feed) (b ∷ bs) (read-feed feed (b ∷ bs) e).behind).same)

-- ---- the first check that fails

module _ (m : Model) (run : Bytes) (end : ℕ) (feed : Bytes) where
  pub run-unfit : run_fits m run ≡ false → refused 10 ≡ bags_told (feed_checks m run end feed)
  unfolding feed_checks
  run-unfit f = rw f

  module _ (f : run_fits m run ≡ true) where
    pub feed-broken : feed_of feed ≡ refused 19 → refused 19 ≡ bags_told (feed_checks m run end feed)
    unfolding feed_checks
    feed-broken e = rw (f, e)

    module _ (bs : List FeedBag) (e : feed_of feed ≡ ok bs) where
      abbrev mistimed : Bool
      mistimed = ltb end (last_moment bs) || ltb max_moment end || ltb (first_moment bs end) (run_of m run).opening

      pub bad-moment : mistimed ≡ true → refused 11 ≡ bags_told (feed_checks m run end feed)
      unfolding feed_checks
      bad-moment t = rw (f, e, t)

      pub let-in : mistimed ≡ false → feed_checks m run end feed ≡ ok bs
      unfolding feed_checks
      let-in t = rw (f, e, t)

-- ---- what the checks leave

pub model-refused : (file run : Bytes) (end : ℕ) (feed trace : Bytes) (k : ℕ) → refused k ≡ accepted file → nothing_fed k run trace ≡ advance_feed file run end feed trace
unfolding advance_feed fed_or
model-refused file run end feed trace k e = rw (← e)

module _ (file run : Bytes) (end : ℕ) (feed trace : Bytes) (m : Model) (e : ok m ≡ accepted file) where
  pub check-refused : (number : ℕ) → refused number ≡ bags_told (feed_checks m run end feed) → nothing_fed number run trace ≡ advance_feed file run end feed trace
  unfolding advance_feed fed_or
  check-refused number c = rw (← e) (go (feed_checks m run end feed) c)
    where
      go : (r : Result (List FeedBag)) → refused number ≡ bags_told r
          → nothing_fed number run trace ≡ fed_or run trace (r >>= λ bs. ok (own_bags (length bs) (fed_in_turn file run trace (feed_calls bs end))))
      go (ok bs) f = absurd (never-ok number (bags_of bs) f)
      go (refused n) f = ap (λ k. nothing_fed k run trace) (refused-same number n f)

  -- what is let in runs
  pub feed-is : (bs : List FeedBag) → feed_checks m run end feed ≡ ok bs → own_bags (length bs) (fed_in_turn file run trace (feed_calls bs end)) ≡ advance_feed file run end feed trace
  unfolding advance_feed fed_or
  feed-is bs c = rw (← e, c)
