-- What a call adds is bounded, over anything that takes steps: as many instants as it has turns, 1,024 steps each, and records that do not pass the end
-- of the lent trace. The code's counters hold it. Assumes nothing.
use mathlib.Core.Path.{◌≡◌, refl}
use Prim.Native.Nat.{ℕ, zero, suc, ◌+◌, ◌*◌, ◌≤◌}
use mathlib.Core.List.{List, [], ◌∷◌, ◌++◌}
use mathlib.Core.Bool.{Bool, true, false, cond}
use native.Mathlib.Omega.{arith}
use lib.Dec.{ltb}
use lib.ListN.{length, length-append}
use borrow.Author.Tests.{ltb-false}
use Rattle.definition.specs.Bytes.{Result, ok, refused, ◌>>=◌, refuse_if}
use Rattle.definition.specs.Limits.{max_steps}
use Rattle.definition.specs.Model.{Bag}
use Rattle.definition.specs.Devs.{ticks}
use Rattle.definition.specs.Step.{Output, Simulator}
use Rattle.definition.specs.Instant.{Instant, done, jammed, instant, instant_trace}
use Rattle.definition.specs.Advance.{Progress, Ended, ended, tried, continued, succeeded, is_before, advancing}
use Rattle.law_base.proofs.Turns.{stood}
use Rattle.law_calls.proofs.Instants.{Settled, settled}

-- ---- one instant

-- of what stands after the instant, if it stands
abbrev IfDone : {S : Type 0} → (Progress S → Type 0) → Result (Progress S) → Type 0
IfDone P (ok q) = P q
IfDone P (refused n) = Unit {0}

module _ {S : Type 0} (k : Simulator S) (room : ℕ) where
  -- It is the progress before, or that with the instant, which has few steps and records that end within the trace.
  tried-keeps : (P : Progress S → Type 0) (now : ℕ) (y : Bag) (p : Progress S) → P p
      → ((xs : List Output) (s : S) → length xs ≤ max_steps → length (p.trace ++ instant_trace now xs) ≤ room → P (stood room now p xs s))
      → (i : Instant S) → Settled k now y p.state i → IfDone P (tried room now p i)
  unfolding tried
  tried-keeps P now y p h f jammed d = tt
  tried-keeps P now y p h f (done [] s) d = h
  tried-keeps P now y p h f (done (z ∷ zs) s) d = go (ltb room (length (p.trace ++ instant_trace now (z ∷ zs)))) refl
    where
      go : (c : Bool) → ltb room (length (p.trace ++ instant_trace now (z ∷ zs))) ≡ c
          → IfDone P (refuse_if c 15 >>= λ _. ok (stood room now p (z ∷ zs) s))
      go true e = tt
      go false e = f (z ∷ zs) s d.few (ltb-false room _ e)

  -- and then the call goes on, or ends where it was
  continued-keeps : (P Q : Progress S → Type 0) (f : Progress S → Ended S) (p : Progress S) (r : Result (Progress S)) → Q p → IfDone P r
      → ((q : Progress S) → P q → Q (f q).progress) → Q (continued f p r).progress
  unfolding continued ended
  continued-keeps P Q f p (ok q) h d on = on q d
  continued-keeps P Q f p (refused n) h d on = h

-- ---- a call

pub record Bounded {S : Type 0} (n room : ℕ) (p q : Progress S) : Type 0 where
  pub trace : length q.trace ≤ room
  pub longer : length p.trace ≤ length q.trace
  pub instants : q.instants ≤ p.instants + n
  pub steps : q.steps ≤ p.steps + max_steps * n

module _ {S : Type 0} (k : Simulator S) (room t : ℕ) (x : Bag) where
  one-bounded : (now : ℕ) (y : Bag) (p : Progress S) → length p.trace ≤ room → IfDone (Bounded 1 room p) (tried room now p (instant k now y p.state))
  one-bounded now y p l =
      tried-keeps k room (Bounded 1 room p) now y p (record { trace = l; longer = omega arith; instants = omega arith; steps = omega arith })
      (λ xs s few fits. record { trace = fits; longer = omega (arith, length-append p.trace (instant_trace now xs)); instants = omega arith; steps = omega arith }) _ (settled k now y p.state)

  -- an instant before what is bounded
  one_more : (n : ℕ) (p q r : Progress S) → Bounded 1 room p q → Bounded n room q r → Bounded (suc n) room p r
  one_more n p q r a b = record { trace = b.trace; longer = omega (arith, a.longer, b.longer); instants = omega (arith, a.instants, b.instants); steps = omega (arith, a.steps, b.steps) }

  none-added : (n : ℕ) (p : Progress S) → length p.trace ≤ room → Bounded n room p p
  none-added n p l = record { trace = l; longer = omega arith; instants = omega arith; steps = omega arith }

  pub advancing-bounded : (n : ℕ) (p : Progress S) → length p.trace ≤ room → Bounded n room p (advancing k room t x n p).progress
  unfolding advancing ended succeeded
  advancing-bounded zero p l = none-added 0 p l
  advancing-bounded (suc n) p l = go (is_before (k.next p.state) t) (λ q b. advancing-bounded n q b)
    where
      u : ℕ
      u = ticks (k.next p.state)

      stays : (q : Progress S) → length q.trace ≤ room → Bounded n room q (succeeded t q).progress
      stays q b = unfold succeeded ended in (record { trace = b; longer = omega arith; instants = omega arith; steps = omega arith })

      go : (b : Bool) → ((q : Progress S) → length q.trace ≤ room → Bounded n room q (advancing k room t x n q).progress)
          → Bounded (suc n) room p (cond b (continued (λ q. advancing k room t x n q) p (tried room u p (instant k u [] p.state)))
          (continued (succeeded t) p (tried room t p (instant k t x p.state)))).progress
      go true ih =
          continued-keeps k room (Bounded 1 room p) (Bounded (suc n) room p) (λ q. advancing k room t x n q) p _ (none-added (suc n) p l) (one-bounded u [] p l)
          (λ q a. one_more n p q _ a (ih q a.trace))
      go false ih =
          continued-keeps k room (Bounded 1 room p) (Bounded (suc n) room p) (succeeded t) p _ (none-added (suc n) p l) (one-bounded t x p l)
          (λ q a. one_more n p q _ a (stays q a.trace))
