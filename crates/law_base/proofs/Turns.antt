-- The verdict on an instant and one turn of a call's loop, case by case of the definition, and the bytes of a trace: what the relation `Ends`
-- and the code's own loop both go by. Assumes nothing.
use mathlib.Core.Path.{◌≡◌, refl}
use Prim.Native.Nat.{ℕ, suc, ◌+◌, ◌≤◌, ◌<◌}
use mathlib.Core.List.{List, [], ◌∷◌, ◌++◌}
use mathlib.Core.Bool.{true, false}
use native.Mathlib.Omega.{arith}
use lib.ListN.{length}
use borrow.Author.Tests.{lt-ltb, le-ltb}
use Rattle.definition.specs.Bytes.{ok, refused}
use Rattle.definition.specs.Model.{Bag}
use Rattle.definition.specs.Devs.{ticks}
use Rattle.definition.specs.Step.{Output, Simulator}
use Rattle.definition.specs.Instant.{Instant, jammed, done, instant, TraceRecord, record_bytes, trace_bytes, instant_trace, instant_rules}
use Rattle.definition.specs.Advance.{Progress, ended, is_before, tried, continued, succeeded, advancing}
use Rattle.definition.specs.Channels.{tried_within, advancing_within}
use Rattle.law_base.proofs.Lists.{concat-append}

pub traces-append : (rs qs : List TraceRecord) → trace_bytes (rs ++ qs) ≡ trace_bytes rs ++ trace_bytes qs
unfolding trace_bytes
traces-append rs qs = concat-append record_bytes rs qs

module _ {S : Type 0} (room now : ℕ) (p : Progress S) where
  pub tried-jams : tried room now p jammed ≡ refused 13
  unfolding tried
  tried-jams = refl

  pub tried-none : (xs : List Output) (s : S) → length xs ≡ 0 → tried room now p (done xs s) ≡ ok p
  unfolding tried
  tried-none [] s e = refl
  tried-none (x ∷ xs) s e = absurd (omega arith)

  pub tried-full : (xs : List Output) (s : S) → (length xs ≡ 0 → ⊥) → room < length (p.trace ++ instant_trace now xs)
      → tried room now p (done xs s) ≡ refused 15
  unfolding tried
  tried-full [] s z l = absurd (z refl)
  tried-full (x ∷ xs) s z l = rw (lt-ltb room (length (p.trace ++ instant_trace now (x ∷ xs))) l)

  -- what stands once the instant does
  abbrev pub stood : List Output → S → Progress S
  stood xs s = record {
    opening = suc now;
    state = s;
    instants = suc p.instants;
    steps = p.steps + length xs;
    trace = p.trace ++ instant_trace now xs;
    rules = instant_rules xs;
  }

  pub tried-stands : (xs : List Output) (s : S) → (length xs ≡ 0 → ⊥) → length (p.trace ++ instant_trace now xs) ≤ room
      → tried room now p (done xs s) ≡ ok (stood xs s)
  unfolding tried
  tried-stands [] s z l = absurd (z refl)
  tried-stands (x ∷ xs) s z l = rw (le-ltb room (length (p.trace ++ instant_trace now (x ∷ xs))) l)

-- the same within the steps that a channel has
module _ {S : Type 0} (has room now : ℕ) (p : Progress S) (i : Instant S) where
  pub within-no : (n : ℕ) → tried room now p i ≡ refused n → tried_within has room now p i ≡ refused n
  unfolding tried_within
  within-no n e = rw e

  pub within-many : (q : Progress S) → tried room now p i ≡ ok q → has < q.steps → tried_within has room now p i ≡ refused 22
  unfolding tried_within
  within-many q e l = rw (e, lt-ltb has q.steps l)

  pub within-ok : (q : Progress S) → tried room now p i ≡ ok q → q.steps ≤ has → tried_within has room now p i ≡ ok q
  unfolding tried_within
  within-ok q e l = rw (e, le-ltb has q.steps l)

module _ {S : Type 0} (k : Simulator S) (room t : ℕ) (x : Bag) where
  pub last_turn : (m : ℕ) (p : Progress S) → is_before (k.next p.state) t ≡ false
      → advancing k room t x (suc m) p ≡ continued (succeeded t) p (tried room t p (instant k t x p.state))
  unfolding advancing
  last_turn m p e = rw e

  pub more_turn : (m : ℕ) (p : Progress S) → is_before (k.next p.state) t ≡ true
      → advancing k room t x (suc m) p
      ≡ continued (λ q. advancing k room t x m q) p (tried room (ticks (k.next p.state)) p (instant k (ticks (k.next p.state)) [] p.state))
  unfolding advancing
  more_turn m p e = rw e

  pub no-turn : (m : ℕ) (p : Progress S) → m ≡ 0 → advancing k room t x m p ≡ ended 0 p
  unfolding advancing
  no-turn m p e = rw e

module _ {S : Type 0} (k : Simulator S) (has room t : ℕ) (x : Bag) where
  pub last-turn-within : (m : ℕ) (p : Progress S) → is_before (k.next p.state) t ≡ false
      → advancing_within k has room t x (suc m) p ≡ continued (succeeded t) p (tried_within has room t p (instant k t x p.state))
  unfolding advancing_within
  last-turn-within m p e = rw e

  pub more-turn-within : (m : ℕ) (p : Progress S) → is_before (k.next p.state) t ≡ true
      → advancing_within k has room t x (suc m) p
      ≡ continued (λ q. advancing_within k has room t x m q) p (tried_within has room (ticks (k.next p.state)) p (instant k (ticks (k.next p.state)) [] p.state))
  unfolding advancing_within
  more-turn-within m p e = rw e

  pub no-turn-within : (m : ℕ) (p : Progress S) → m ≡ 0 → advancing_within k has room t x m p ≡ ended 0 p
  unfolding advancing_within
  no-turn-within m p e = rw e
