-- The calls of a feed carried from one simulator to another: where every call by itself ends alike, so do all of them in turn. Assumes nothing.
use mathlib.Core.Path.{◌≡◌, refl, ap, subst}
use Prim.Native.Nat.{ℕ, suc, ◌≤◌, min}
use mathlib.Core.List.{List, [], ◌∷◌}
use mathlib.Core.Bool.{Bool, true, false, ◌||◌, cond}
use lib.Dec.{ltb, eqb}
use lib.ListN.{length}
use Rattle.definition.specs.Lists.{is_empty}
use Rattle.definition.specs.Bytes.{chunks}
use Rattle.definition.specs.Model.{Bag}
use Rattle.definition.specs.Sound.{Every}
use Rattle.definition.specs.Step.{Simulator}
use Rattle.definition.specs.Advance.{Progress, Ended, ended, advancing}
use Rattle.definition.specs.Engine.{to_bag}
use Rattle.definition.specs.Feed.{FeedBag, last_moment, feed_calls}
use Rattle.law_base.proofs.Everys.{every_append}
use Rattle.law_calls.proofs.Lift.{Agree, Alike, EndsAlike, advancing-alike}
use Rattle.law_feed.specs.Onward.{Onward, bags_onward, feed_onward}
use Rattle.law_feed.proofs.Timed.{InTime, time-sooner, end_call}
use Rattle.law_feed.proofs.EndCall.{at_most, calls-onward}

-- Two feeds end alike: as many calls succeed, and the last ends with the same number and as far.
abbrev pub OnwardAlike : {S T : Type 0} → (ℕ → S → T → Type 0) → Onward S → Onward T → Type 0
OnwardAlike Between a b = (a.bags ≡ b.bags) × (a.end.number ≡ b.end.number) × Alike Between a.end.progress b.end.progress

-- what holds of the bags and of the call to the end, holds of the calls
pub every_call : (Good : FeedBag → Type 0) (bs : List FeedBag) (end : ℕ) → Every Good bs → Good (end_call end) → Every Good (feed_calls bs end)
unfolding feed_calls
every_call Good bs end g e = every_append Good bs _ g (last (is_empty bs || ltb (last_moment bs) end))
  where
    last : (z : Bool) → Every Good (cond z (end_call end ∷ []) [])
    last true = (e, tt)
    last false = tt

module _ {S T : Type 0} (k : Simulator S) (j : Simulator T) (Between : ℕ → S → T → Type 0) (Good : FeedBag → Type 0) (room : ℕ)
    (call : (c : FeedBag) → Good c → (p : Progress S) (q : Progress T) → Alike Between p q → p.opening ≤ c.moment
    → EndsAlike Between c.moment (advancing k room c.moment (to_bag c.bag) (suc c.moment) p) (advancing j room c.moment (to_bag c.bag) (suc c.moment) q)) where
  -- The end of a call opens no moment past the next one, so that each call after it finds its moment open.
  pub bags-alike : (cs : List FeedBag) → Every Good cs → (n : ℕ) (p : Progress S) (q : Progress T) → Alike Between p q → InTime p.opening cs
      → OnwardAlike Between (bags_onward k room cs n p) (bags_onward j room cs n q)
  unfolding bags_onward ended
  bags-alike [] g n p q a t = (refl, refl, a)
  bags-alike (c ∷ cs) g n p q a t =
      subst (λ y. OnwardAlike Between (bags_onward k room (c ∷ cs) n p) (cond y (bags_onward j room cs (suc n) d.progress) (record { bags = n; end = d }))) (ap (λ i. eqb i 0) both.0)
      (go (eqb e.number 0) (bags-alike cs g.1 (suc n) e.progress d.progress both.1 (time-sooner e.progress.opening (suc c.moment) cs both.2 t.3)))
    where
      e : Ended S
      e = advancing k room c.moment (to_bag c.bag) (suc c.moment) p

      d : Ended T
      d = advancing j room c.moment (to_bag c.bag) (suc c.moment) q

      both : EndsAlike Between c.moment e d
      both = call c g.0 p q a t.0

      go : (z : Bool) → OnwardAlike Between (bags_onward k room cs (suc n) e.progress) (bags_onward j room cs (suc n) d.progress)
          → OnwardAlike Between (cond z (bags_onward k room cs (suc n) e.progress) (record { bags = n; end = e })) (cond z (bags_onward j room cs (suc n) d.progress) (record { bags = n; end = d }))
      go true others = others
      go false others = (refl, both.0, both.1)

  -- the whole feed
  pub feed-alike : (bs : List FeedBag) → Every Good bs → (end : ℕ) → Good (end_call end) → (p : Progress S) (q : Progress T) → Alike Between p q → InTime p.opening (feed_calls bs end)
      → OnwardAlike Between (feed_onward k room bs end p) (feed_onward j room bs end q)
  feed-alike bs g end e p q a t =
      let h = bags-alike (feed_calls bs end) (every_call Good bs end g e) 0 p q a t in
      let own : OnwardAlike Between (at_most k room (length bs) (bags_onward k room (feed_calls bs end) 0 p)) (at_most j room (length bs) (bags_onward j room (feed_calls bs end) 0 q))
      = (ap (λ n. min n (length bs)) h.0, h.1, h.2) in
      subst (λ o. OnwardAlike Between o (feed_onward j room bs end q)) (calls-onward k room bs end p)
      (subst (λ o. OnwardAlike Between (at_most k room (length bs) (bags_onward k room (feed_calls bs end) 0 p)) o) (calls-onward j room bs end q) own)

-- ---- where two simulators agree

module _ {S T : Type 0} {At Between : ℕ → S → T → Type 0} {Fine : Bag → Bag → Type 0} {k : Simulator S} {j : Simulator T} (agree : Agree At Between Fine k j) (room : ℕ) where
  abbrev pub FineBag : FeedBag → Type 0
  FineBag c = Fine (to_bag c.bag) (to_bag c.bag)

  agree-call : (c : FeedBag) → FineBag c → (p : Progress S) (q : Progress T) → Alike Between p q → p.opening ≤ c.moment
      → EndsAlike Between c.moment (advancing k room c.moment (to_bag c.bag) (suc c.moment) p) (advancing j room c.moment (to_bag c.bag) (suc c.moment) q)
  agree-call c f p q a l = advancing-alike agree room c.moment (to_bag c.bag) (to_bag c.bag) f (suc c.moment) p q a l

  fine_end : (end : ℕ) → FineBag (end_call end)
  unfolding to_bag chunks
  fine_end end = agree.fine_none

  pub agree-bags-alike : (cs : List FeedBag) → Every FineBag cs → (n : ℕ) (p : Progress S) (q : Progress T) → Alike Between p q → InTime p.opening cs
      → OnwardAlike Between (bags_onward k room cs n p) (bags_onward j room cs n q)
  agree-bags-alike cs f n p q a t = bags-alike k j Between FineBag room agree-call cs f n p q a t

  pub agree-feed-alike : (bs : List FeedBag) → Every FineBag bs → (end : ℕ) (p : Progress S) (q : Progress T) → Alike Between p q → InTime p.opening (feed_calls bs end)
      → OnwardAlike Between (feed_onward k room bs end p) (feed_onward j room bs end q)
  agree-feed-alike bs f end p q a t = feed-alike k j Between FineBag room agree-call bs f end (fine_end end) p q a t
