-- The calls of a feed in turn: each finds its moment open. Assumes nothing.
use mathlib.Core.Path.{◌≡◌, refl, ◌∙◌}
use Prim.Native.Nat.{ℕ, suc, ◌≤◌}
use mathlib.Core.List.{List, [], ◌∷◌, ◌++◌}
use mathlib.Core.Bool.{Bool, true, false, ◌||◌, cond}
use native.Mathlib.Omega.{arith}
use lib.Dec.{ltb}
use borrow.Author.Tests.{ltb-true, ltb-false, lt-ltb}
use Rattle.definition.specs.Lists.{all, is_empty, rises}
use Rattle.definition.specs.Bytes.{Bytes, chunks}
use Rattle.definition.specs.Limits.{max_moment}
use Rattle.definition.specs.Sound.{Every}
use Rattle.definition.specs.Engine.{to_bag, bag_fits}
use Rattle.definition.specs.Feed.{FeedBag, IsFeed, FeedTimed, last_moment, first_moment, feed_calls}
use Rattle.law_base.proofs.Tests.{clash, and_left, and_right, and-true}

-- Calls whose moments rise from an open moment on, up to the highest, with bags that fit.
abbrev pub InTime : ℕ → List FeedBag → Type 0
InTime o [] = Unit {0}
InTime o (c ∷ cs) = (o ≤ c.moment) × (c.moment ≤ max_moment) × (bag_fits c.bag ≡ true) × InTime (suc c.moment) cs

-- The open moment after all of them.
unfoldable pub open_after : ℕ → List FeedBag → ℕ
open_after o [] = o
open_after o (c ∷ cs) = open_after (suc c.moment) cs

-- ---- the same as clauses over each bag and over neighbours

abbrev pub Proper : FeedBag → Type 0
Proper b = (b.moment ≤ max_moment) × (bag_fits b.bag ≡ true)

abbrev pub rises_in_time : List FeedBag → Bool
rises_in_time bs = rises (λ a b. ltb a.moment b.moment) bs

pub in_time : (o end : ℕ) (bs : List FeedBag) → Every Proper bs → rises_in_time bs ≡ true → o ≤ first_moment bs end → InTime o bs
unfolding rises first_moment
in_time o end [] p r l = tt
in_time o end (b ∷ []) p r l = (l, p.0.0, p.0.1, tt)
in_time o end (b ∷ c ∷ bs) p r l =
    let next = ltb-true b.moment c.moment (and_left (ltb b.moment c.moment) _ r) in
    (l, p.0.0, p.0.1, in_time (suc b.moment) end (c ∷ bs) p.1 (and_right (ltb b.moment c.moment) _ r) (omega arith))

pub time-proper : (o : ℕ) (bs : List FeedBag) → InTime o bs → Every Proper bs
time-proper o [] t = tt
time-proper o (b ∷ bs) t = ((t.1, t.2), time-proper (suc b.moment) bs t.3)

pub time-rises : (o : ℕ) (bs : List FeedBag) → InTime o bs → rises_in_time bs ≡ true
unfolding rises
time-rises o [] t = refl
time-rises o (b ∷ []) t = refl
time-rises o (b ∷ c ∷ bs) t = and-true (ltb b.moment c.moment) _ (lt-ltb b.moment c.moment (omega (arith, t.3.0))) (time-rises (suc b.moment) (c ∷ bs) t.3)

-- calls in time are so from an earlier open moment too
pub time-sooner : (o least : ℕ) (cs : List FeedBag) → o ≤ least → InTime least cs → InTime o cs
time-sooner o least [] l t = tt
time-sooner o least (c ∷ cs) l t = (omega (arith, t.0), t.1, t.2, t.3)

-- ---- calls one after the other

pub time-append : (o : ℕ) (bs cs : List FeedBag) → InTime o bs → InTime (open_after o bs) cs → InTime o (bs ++ cs)
unfolding open_after
time-append o [] cs t u = u
time-append o (b ∷ bs) cs t u = (t.0, t.1, t.2, time-append (suc b.moment) bs cs t.3 u)

pub after-append : (o : ℕ) (bs cs : List FeedBag) → open_after o (bs ++ cs) ≡ open_after (open_after o bs) cs
unfolding open_after
after-append o [] cs = refl
after-append o (b ∷ bs) cs = after-append (suc b.moment) bs cs

pub after_last : (o : ℕ) (b : FeedBag) (bs : List FeedBag) → open_after o (b ∷ bs) ≡ suc (last_moment (b ∷ bs))
unfolding open_after last_moment
after_last o b [] = refl
after_last o b (c ∷ bs) = after_last (suc b.moment) c bs

-- ---- the calls of a feed

-- the call to the end
abbrev pub end_call : ℕ → FeedBag
end_call end = record { moment = end; bag = [] }

pub end-proper : (end : ℕ) → end ≤ max_moment → Proper (end_call end)
unfolding bag_fits to_bag chunks all
end-proper end m = (m, refl)

end-in-time : (o end : ℕ) → o ≤ end → end ≤ max_moment → InTime o (end_call end ∷ [])
end-in-time o end l m = (l, m, (end-proper end m).1, tt)

-- it comes after the last bag, or there is none
last-call : (o end : ℕ) (bs : List FeedBag) → FeedTimed o end bs → (z : Bool) → (is_empty bs || ltb (last_moment bs) end) ≡ z
    → (let es : List FeedBag = cond z (end_call end ∷ []) [] in InTime (open_after o bs) es × (open_after (open_after o bs) es ≡ suc end))
unfolding is_empty first_moment open_after
last-call o end [] t true e = (end-in-time o end t.not_early t.not_late, refl)
last-call o end [] t false e = absurd (clash refl e)
last-call o end (b ∷ bs) t true e = (end-in-time (open_after o (b ∷ bs)) end (omega (arith, after_last o b bs, ltb-true (last_moment (b ∷ bs)) end e)) t.not_late, refl)
last-call o end (b ∷ bs) t false e = (tt, after_last o b bs ∙ omega (arith, t.not_before_lem, ltb-false (last_moment (b ∷ bs)) end e))

pub bags-in-time : (s : Bytes) (o end : ℕ) (bs : List FeedBag) → IsFeed s bs → FeedTimed o end bs → InTime o bs
bags-in-time s o end bs f t = in_time o end bs f.bags f.rising t.not_early

pub calls-in-time : (s : Bytes) (o end : ℕ) (bs : List FeedBag) → IsFeed s bs → FeedTimed o end bs → InTime o (feed_calls bs end) × (open_after o (feed_calls bs end) ≡ suc end)
unfolding feed_calls
calls-in-time s o end bs f t =
    let last = last-call o end bs t _ refl in
    (time-append o bs _ (bags-in-time s o end bs f t) last.0, after-append o bs _ ∙ last.1)
