-- An advance to t, or a channel's turn, asks nothing of steps after t: two simulators that take the same steps up to a limit answer every one up to it
-- alike. So what holds only of moments that the code can count is enough. Assumes nothing.
use mathlib.Core.Path.{◌≡◌, refl, ap, ◌∙◌}
use Prim.Native.Nat.{ℕ, zero, suc, ◌≤◌}
use mathlib.Core.List.{[]}
use mathlib.Core.Bool.{Bool, true, false, cond}
use native.Mathlib.Omega.{arith}
use lib.Dec.{leb}
use borrow.Author.Tests.{le-leb, ltb-true}
use Rattle.definition.specs.Bytes.{Result, ok, refused}
use Rattle.definition.specs.Limits.{max_steps}
use Rattle.definition.specs.Model.{Bag}
use Rattle.definition.specs.Devs.{Time, finite, never, ticks}
use Rattle.definition.specs.Step.{Output, Simulator}
use Rattle.definition.specs.Instant.{goes_on, is_due, steps_at, instant}
use Rattle.definition.specs.Advance.{Progress, Ended, tried, continued, succeeded, is_before, advancing}
use Rattle.definition.specs.Channels.{tried_within, advancing_within}
use Rattle.law_base.proofs.Tests.{clash}

-- what a step gives in which nothing happens
abbrev pub nothing : Output
nothing = record { bag = []; decided = [] }

-- a simulator that stands still after a limit
abbrev pub until : {S : Type 0} → ℕ → Simulator S → Simulator S
until limit k = record { next = k.next; step = λ now x s. cond (leb now limit) (k.step now x s) (record { out = nothing; state = s }) }

module _ {S : Type 0} (limit : ℕ) (k : Simulator S) where
  steps-until : (n now : ℕ) (x : Bag) (s : S) → now ≤ limit → steps_at (until limit k) n now x s ≡ steps_at k n now x s
  unfolding steps_at goes_on is_due
  steps-until zero now x s l = refl
  steps-until (suc n) now x s l =
      let e = le-leb now limit l in
      rw (e, steps-until n now [] (k.step now x s).state l)

  instant-until : (now : ℕ) (x : Bag) (s : S) → now ≤ limit → instant (until limit k) now x s ≡ instant k now x s
  unfolding instant
  instant-until now x s l = steps-until max_steps now x s l

  before : (t : ℕ) (u : Time) → is_before u t ≡ true → ticks u ≤ t
  unfolding is_before ticks
  before t (finite a) e = omega (arith, ltb-true a t e)
  before t never e = absurd (clash e refl)

  module _ (room t : ℕ) (x : Bag) (l : t ≤ limit) where
    continued-cong : (f g : Progress S → Ended S) (p : Progress S) (r : Result (Progress S)) → ((q : Progress S) → f q ≡ g q) → continued f p r ≡ continued g p r
    unfolding continued
    continued-cong f g p (ok q) h = h q
    continued-cong f g p (refused n) h = refl

    pub advancing-until : (n : ℕ) (p : Progress S) → advancing (until limit k) room t x n p ≡ advancing k room t x n p
    unfolding advancing
    advancing-until zero p = refl
    advancing-until (suc n) p = go (is_before (k.next p.state) t) refl (advancing-until n)
      where
        go : (b : Bool) → is_before (k.next p.state) t ≡ b → ((q : Progress S) → advancing (until limit k) room t x n q ≡ advancing k room t x n q)
            → cond b (continued (λ q. advancing (until limit k) room t x n q) p (tried room (ticks (k.next p.state)) p (instant (until limit k) (ticks (k.next p.state)) [] p.state)))
            (continued (succeeded t) p (tried room t p (instant (until limit k) t x p.state)))
            ≡ cond b (continued (λ q. advancing k room t x n q) p (tried room (ticks (k.next p.state)) p (instant k (ticks (k.next p.state)) [] p.state)))
            (continued (succeeded t) p (tried room t p (instant k t x p.state)))
        go true e ih =
            ap (λ i. continued (λ q. advancing (until limit k) room t x n q) p (tried room (ticks (k.next p.state)) p i))
            (instant-until (ticks (k.next p.state)) [] p.state (omega (arith, before t (k.next p.state) e)))
            ∙ continued-cong _ _ p _ ih
        go false e ih = ap (λ i. continued (succeeded t) p (tried room t p i)) (instant-until t x p.state l)

    pub within-until : (has n : ℕ) (p : Progress S) → advancing_within (until limit k) has room t x n p ≡ advancing_within k has room t x n p
    unfolding advancing_within
    within-until has zero p = refl
    within-until has (suc n) p = go (is_before (k.next p.state) t) refl (within-until has n)
      where
        go : (b : Bool) → is_before (k.next p.state) t ≡ b → ((q : Progress S) → advancing_within (until limit k) has room t x n q ≡ advancing_within k has room t x n q)
            → cond b (continued (λ q. advancing_within (until limit k) has room t x n q) p (tried_within has room (ticks (k.next p.state)) p (instant (until limit k) (ticks (k.next p.state)) [] p.state)))
            (continued (succeeded t) p (tried_within has room t p (instant (until limit k) t x p.state)))
            ≡ cond b (continued (λ q. advancing_within k has room t x n q) p (tried_within has room (ticks (k.next p.state)) p (instant k (ticks (k.next p.state)) [] p.state)))
            (continued (succeeded t) p (tried_within has room t p (instant k t x p.state)))
        go true e ih =
            ap (λ i. continued (λ q. advancing_within (until limit k) has room t x n q) p (tried_within has room (ticks (k.next p.state)) p i))
            (instant-until (ticks (k.next p.state)) [] p.state (omega (arith, before t (k.next p.state) e)))
            ∙ continued-cong _ _ p _ ih
        go false e ih = ap (λ i. continued (succeeded t) p (tried_within has room t p i)) (instant-until t x p.state l)
