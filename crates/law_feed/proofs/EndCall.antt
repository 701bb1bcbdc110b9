-- The calls of a feed are the bags' own and the one to the end, which is no bag's: for anything that takes steps. Assumes nothing.
use mathlib.Core.Path.{◌≡◌, refl, sym, ap, ◌∙◌}
use Prim.Native.Nat.{ℕ, suc, ◌+◌, ◌≤◌, min}
use mathlib.Core.List.{List, [], ◌∷◌, ◌++◌, append-nil}
use mathlib.Core.Bool.{Bool, true, false, ◌&&◌, ◌||◌, cond}
use native.Mathlib.Omega.{arith}
use lib.Dec.{ltb, eqb}
use lib.ListN.{length}
use borrow.Author.Tests.{eqb-true, eqb-false}
use Rattle.definition.specs.Lists.{is_empty}
use Rattle.definition.specs.Bytes.{chunks}
use Rattle.definition.specs.Step.{Simulator}
use Rattle.definition.specs.Advance.{Progress, Ended, ended, advancing}
use Rattle.definition.specs.Engine.{to_bag}
use Rattle.definition.specs.Feed.{FeedBag, last_moment, feed_calls}
use Rattle.law_feed.specs.Onward.{Onward, bags_onward, end_onward, feed_onward}
use Rattle.law_feed.proofs.Timed.{end_call}

module _ {S : Type 0} (k : Simulator S) (room : ℕ) where
  -- calls after calls, where these succeed
  pub onward-append : (bs cs : List FeedBag) (n : ℕ) (p : Progress S)
      → (let o = bags_onward k room bs n p in bags_onward k room (bs ++ cs) n p ≡ cond (eqb o.end.number 0) (bags_onward k room cs o.bags o.end.progress) o)
  unfolding bags_onward ended
  onward-append [] cs n p = refl
  onward-append (b ∷ bs) cs n p = go (eqb e.number 0) refl (onward-append bs cs (suc n) e.progress)
    where
      e : Ended S
      e = advancing k room b.moment (to_bag b.bag) (suc b.moment) p

      on : Onward S
      on = bags_onward k room bs (suc n) e.progress

      stop : Onward S
      stop = record { bags = n; end = e }

      go : (z : Bool) → eqb e.number 0 ≡ z
          → bags_onward k room (bs ++ cs) (suc n) e.progress ≡ cond (eqb on.end.number 0) (bags_onward k room cs on.bags on.end.progress) on
          → cond z (bags_onward k room (bs ++ cs) (suc n) e.progress) stop
          ≡ cond (eqb (cond z on stop).end.number 0) (bags_onward k room cs (cond z on stop).bags (cond z on stop).end.progress) (cond z on stop)
      go true h ih = ih
      go false h ih = rw h

  -- how many succeed: all, where none is refused
  pub record Succeeded (n : ℕ) (bs : List FeedBag) (o : Onward S) : Type 0 where
    pub most : o.bags ≤ n + length bs
    pub all : o.end.number ≡ 0 → o.bags ≡ n + length bs

  pub onward-bags : (bs : List FeedBag) (n : ℕ) (p : Progress S) → Succeeded n bs (bags_onward k room bs n p)
  unfolding bags_onward ended
  onward-bags [] n p = record { most = omega arith; all = λ _. omega arith }
  onward-bags (b ∷ bs) n p = go (eqb e.number 0) refl (onward-bags bs (suc n) e.progress)
    where
      e : Ended S
      e = advancing k room b.moment (to_bag b.bag) (suc b.moment) p

      go : (z : Bool) → eqb e.number 0 ≡ z → Succeeded (suc n) bs (bags_onward k room bs (suc n) e.progress)
          → Succeeded n (b ∷ bs) (cond z (bags_onward k room bs (suc n) e.progress) (record { bags = n; end = e }))
      go true h ih = record { most = omega (arith, ih.most); all = λ z. omega (arith, ih.all z) }
      go false h ih = record { most = omega arith; all = λ z. absurd (eqb-false e.number 0 h z) }

  -- ---- the whole feed

  abbrev pub at_most : ℕ → Onward S → Onward S
  at_most n o = record { bags = min o.bags n; end = o.end }

  same-most : (n : ℕ) (o : Onward S) → o.bags ≤ n → at_most n o ≡ o
  same-most n o l = let same : min o.bags n ≡ o.bags = omega arith in λ i. record { bags = same i; end = o.end }

  -- the one call to the end
  end-alone : (end n : ℕ) (q : Progress S) → at_most n (bags_onward k room (end_call end ∷ []) n q) ≡ record { bags = n; end = advancing k room end [] (suc end) q }
  unfolding bags_onward to_bag chunks ended
  end-alone end n q = go (eqb e.number 0) refl
    where
      e : Ended S
      e = advancing k room end [] (suc end) q

      go : (z : Bool) → eqb e.number 0 ≡ z
          → at_most n (cond z (record { bags = suc n; end = record { number = 0; progress = e.progress } }) (record { bags = n; end = e })) ≡ record { bags = n; end = e }
      go true h =
          let least : min (suc n) n ≡ n = omega arith in
          let zero_again : 0 ≡ e.number = sym (eqb-true e.number 0 h) in
          λ i. record { bags = least i; end = record { number = zero_again i; progress = e.progress } }
      go false h = same-most n (record { bags = n; end = e }) (omega arith)

  pub calls-onward : (bs : List FeedBag) (end : ℕ) (p : Progress S) → at_most (length bs) (bags_onward k room (feed_calls bs end) 0 p) ≡ feed_onward k room bs end p
  unfolding feed_calls feed_onward end_onward
  calls-onward bs end p = go (is_empty bs || ltb (last_moment bs) end)
    where
      o : Onward S
      o = bags_onward k room bs 0 p

      succeeded : Succeeded 0 bs o
      succeeded = onward-bags bs 0 p

      last : Onward S
      last = record { bags = o.bags; end = advancing k room end [] (suc end) o.end.progress }

      with_end : (y : Bool) → eqb o.end.number 0 ≡ y → at_most (length bs) (cond y (bags_onward k room (end_call end ∷ []) o.bags o.end.progress) o) ≡ cond (y && true) last o
      with_end true h =
          let all : length bs ≡ o.bags = omega (arith, succeeded.all (eqb-true o.end.number 0 h)) in
          ap (λ n. at_most n (bags_onward k room (end_call end ∷ []) o.bags o.end.progress)) all ∙ end-alone end o.bags o.end.progress
      with_end false h = same-most (length bs) o (omega (arith, succeeded.most))

      no_end : (y : Bool) → o ≡ cond (y && false) last o
      no_end true = refl
      no_end false = refl

      go : (z : Bool) → at_most (length bs) (bags_onward k room (bs ++ cond z (end_call end ∷ []) []) 0 p) ≡ cond (eqb o.end.number 0 && z) last o
      go true = ap (at_most (length bs)) (onward-append bs (end_call end ∷ []) 0 p) ∙ with_end (eqb o.end.number 0) refl
      go false =
          ap (λ cs. at_most (length bs) (bags_onward k room cs 0 p)) (append-nil bs)
          ∙ same-most (length bs) o (omega (arith, succeeded.most)) ∙ no_end (eqb o.end.number 0)
