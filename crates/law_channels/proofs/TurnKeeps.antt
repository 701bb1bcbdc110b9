-- What a channel's turn keeps, whatever the model: it spends no more steps than it has, and its run and its trace are as long as before. Assumes
-- nothing.
use mathlib.Core.Path.{◌≡◌, refl, ap, ◌∙◌}
use Prim.Native.Nat.{ℕ, zero, suc, ◌≤◌}
use mathlib.Core.List.{List, [], ◌∷◌, ◌++◌}
use mathlib.Core.Bool.{Bool, true, false, ◌||◌, not, cond}
use native.Mathlib.Omega.{arith}
use lib.Dec.{ltb}
use lib.ListN.{length, drop, length-append, length-drop, length-map}
use borrow.Author.Tests.{ltb-false}
use Rattle.definition.specs.Bytes.{Bytes, Result, ok, refused, refuse_if, ◌>>=◌, stored}
use Rattle.definition.specs.Limits.{max_steps, max_moment}
use Rattle.definition.specs.Model.{Bag, Model, atomics}
use Rattle.definition.specs.Devs.{ticks}
use Rattle.definition.specs.SavedRun.{Entry, Run, atomic_count, run_length, run_of, run_bytes, run_fits}
use Rattle.definition.specs.Step.{Output, Simulator, unload, step, step_on, nested}
use Rattle.definition.specs.Instant.{Instant, done, jammed, stepped, goes_on, steps_at, instant, instant_trace}
use Rattle.definition.specs.Advance.{Progress, Ended, ended, tried, continued, succeeded, is_before}
use Rattle.definition.specs.Engine.{Advanced, advanced, to_bag, bag_fits}
use Rattle.definition.specs.Channels.{tried_within, advancing_within, advance_within, Channel, or_past_end, turn_checks, turn}
use Rattle.law_base.proofs.Turns.{stood}
use Rattle.law_model.proofs.RunBack.{length_run}
use Rattle.law_flat.proofs.Checks.{run_length_lem}
use Rattle.law_calls.proofs.Fitting.{fits_run}

pub length-stored : (a s : Bytes) → length a ≤ length s → length (stored a s) ≡ length s
unfolding stored
length-stored a s l = length-append a (drop (length a) s) ∙ omega (arith, length-drop (length a) s)

-- ---- the instants of a turn, over anything that takes steps, and whatever its steps keep

module _ {S : Type 0} (k : Simulator S) (P : S → Type 0) (keeps : (now : ℕ) (x : Bag) (s : S) → P s → P (k.step now x s).state) where
  abbrev Leaves : Instant S → Type 0
  Leaves (done xs s) = P s
  Leaves jammed = Unit {0}

  leaves-stepped : (x : Output) (i : Instant S) → Leaves i → Leaves (stepped x i)
  unfolding stepped
  leaves-stepped x (done xs s) h = h
  leaves-stepped x jammed h = tt

  leaves-steps : (n now : ℕ) (x : Bag) (s : S) → P s → Leaves (steps_at k n now x s)
  unfolding steps_at
  leaves-steps zero now x s h = go (goes_on k now x s)
    where
      go : (b : Bool) → Leaves (cond b jammed (done [] s))
      go true = tt
      go false = h
  leaves-steps (suc n) now x s h = go (goes_on k now x s) _ (leaves-stepped _ _ (leaves-steps n now [] _ (keeps now x s h)))
    where
      go : (b : Bool) (i : Instant S) → Leaves i → Leaves (cond b i (done [] s))
      go true i l = l
      go false i l = h

  module _ (room : ℕ) where
    -- what stands after each instant
    pub record Kept (p : Progress S) : Type 0 where
      pub state : P p.state
      pub in_room : length p.trace ≤ room

    abbrev Stands : Result (Progress S) → Type 0
    Stands (ok p) = Kept p
    Stands (refused n) = Unit {0}

    stands : (now : ℕ) (p : Progress S) (i : Instant S) → Kept p → Leaves i → Stands (tried room now p i)
    unfolding tried
    stands now p jammed w h = tt
    stands now p (done [] s) w h = w
    stands now p (done (x ∷ xs) s) w h = go (ltb room (length (p.trace ++ instant_trace now (x ∷ xs)))) refl
      where
        go : (b : Bool) → ltb room (length (p.trace ++ instant_trace now (x ∷ xs))) ≡ b
            → Stands (refuse_if b 15 >>= λ _. ok (stood room now p (x ∷ xs) s))
        go true e = tt
        go false e = record { state = h; in_room = ltb-false room _ e }

    module _ (has : ℕ) where
      abbrev Within : Progress S → Type 0
      Within p = Kept p × (p.steps ≤ has)

      abbrev StandsWithin : Result (Progress S) → Type 0
      StandsWithin (ok p) = Within p
      StandsWithin (refused n) = Unit {0}

      stands-within : (now : ℕ) (p : Progress S) (i : Instant S) → Kept p → Leaves i → StandsWithin (tried_within has room now p i)
      unfolding tried_within
      stands-within now p i w h = go (tried room now p i) (stands now p i w h)
        where
          judged : (q : Progress S) → Kept q → (b : Bool) → ltb has q.steps ≡ b → StandsWithin (refuse_if b 22 >>= λ _. ok q)
          judged q k true e = tt
          judged q k false e = (k, ltb-false has q.steps e)

          go : (r : Result (Progress S)) → Stands r → StandsWithin (r >>= λ q. refuse_if (ltb has q.steps) 22 >>= λ _. ok q)
          go (refused n) k = tt
          go (ok q) k = judged q k (ltb has q.steps) refl

      goes : (f : Progress S → Ended S) (p : Progress S) (r : Result (Progress S)) → Within p → StandsWithin r → ((q : Progress S) → Within q → Within (f q).progress)
          → Within (continued f p r).progress
      unfolding continued ended
      goes f p (ok q) w h on = on q h
      goes f p (refused n) w h on = w

      advancing-keeps : (t : ℕ) (x : Bag) (n : ℕ) (p : Progress S) → Within p → Within (advancing_within k has room t x n p).progress
      unfolding advancing_within instant ended succeeded
      advancing-keeps t x zero p w = w
      advancing-keeps t x (suc n) p w = go (is_before (k.next p.state) t) (λ q v. advancing-keeps t x n q v)
        where
          at : (now : ℕ) (y : Bag) → StandsWithin (tried_within has room now p (steps_at k max_steps now y p.state))
          at now y = stands-within now p _ w.0 (leaves-steps max_steps now y p.state w.0.state)

          go : (b : Bool) → ((q : Progress S) → Within q → Within (advancing_within k has room t x n q).progress)
              → Within (cond b (continued (λ q. advancing_within k has room t x n q) p (tried_within has room (ticks (k.next p.state)) p (instant k (ticks (k.next p.state)) [] p.state)))
              (continued (succeeded t) p (tried_within has room t p (instant k t x p.state)))).progress
          go true ih = goes _ p _ w (at (ticks (k.next p.state)) []) ih
          go false ih = goes (succeeded t) p _ w (at t x) (λ q v. (record { state = v.0.state; in_room = v.0.in_room }, v.1))

      pub advance-keeps : (t : ℕ) (x : Bag) (o : ℕ) (s : S) → P s → Within (advance_within k has room t x o s).progress
      unfolding advance_within
      advance-keeps t x o s h = advancing-keeps t x (suc t) _ (record { state = h; in_room = omega arith }, omega arith)

-- ---- a turn

-- an entry for each atomic
abbrev Each : Model → List Entry → Type 0
Each m rs = length rs ≡ atomic_count m

each_step : (m : Model) (now : ℕ) (x : Bag) (rs : List Entry) → Each m rs → Each m (step m now x rs).state
unfolding step step_on unload atomic_count
each_step m now x rs h = length-map (atomics m.components) _

module _ (m : Model) (t has : ℕ) (c : Channel) where
  abbrev Turned : Advanced → Type 0
  Turned a = (length a.run ≡ length c.run) × (length a.trace ≡ length c.trace) × (a.steps ≤ has)

  stays : (n : ℕ) → Turned (advanced c.run c.trace [] (refused n))
  unfolding advanced
  stays n = (refl, refl, omega arith)

  -- where its run fits, with any bag
  writes : run_fits m c.run ≡ true → (x : Bag)
      → Turned (advanced c.run c.trace [] (ok (advance_within (nested m) has (length c.trace) t x (run_of m c.run).opening (run_of m c.run).entries)))
  unfolding advanced atomic_count
  writes f x =
      let r = run_of m c.run in
      let k = advance-keeps (nested m) (Each m) (each_step m) (length c.trace) has t x r.opening r.entries (run_length_lem m c.run) in
      let p = (advance_within (nested m) has (length c.trace) t x r.opening r.entries).progress in
      let run : Run = record { opening = p.opening; entries = p.state } in (
        length-stored (run_bytes run) c.run (omega (arith, length_run run, ap run_length k.0.state, (fits_run m c.run f).1)),
        length-stored p.trace c.trace k.0.in_room,
        k.1,
      )

  turned : Turned (turn m t has c)
  unfolding turn turn_checks
  turned = go (run_fits m c.run) refl
    where
      late : Bool
      late = ltb t (run_of m c.run).opening || ltb max_moment t

      ends : Bytes → Ended (List Entry)
      ends bag = advance_within (nested m) has (length c.trace) t (to_bag bag) (run_of m c.run).opening (run_of m c.run).entries

      given : run_fits m c.run ≡ true → (r : Result Bytes)
          → Turned (advanced c.run c.trace [] ((r >>= λ bag. refuse_if (not (bag_fits bag)) 12 >>= λ _. ok bag) >>= λ bag. ok (ends bag)))
      given f (refused n) = stays n
      given f (ok bag) = fitting (bag_fits bag)
        where
          fitting : (b : Bool) → Turned (advanced c.run c.trace [] ((refuse_if (not b) 12 >>= λ _. ok bag) >>= λ bag. ok (ends bag)))
          fitting true = writes f (to_bag bag)
          fitting false = stays 12

      timed : run_fits m c.run ≡ true → (b : Bool)
          → Turned (advanced c.run c.trace [] ((refuse_if b 11 >>= λ _. or_past_end c.bag >>= λ bag. refuse_if (not (bag_fits bag)) 12 >>= λ _. ok bag) >>= λ bag. ok (ends bag)))
      timed f true = stays 11
      timed f false = given f (or_past_end c.bag)

      go : (b : Bool) → run_fits m c.run ≡ b
          → Turned (advanced c.run c.trace [] ((refuse_if (not b) 10 >>= λ _. refuse_if late 11 >>= λ _. or_past_end c.bag >>= λ bag. refuse_if (not (bag_fits bag)) 12 >>= λ _. ok bag) >>= λ bag. ok (ends bag)))
      go false f = stays 10
      go true f = timed f late

  pub turn-lengths : (length (turn m t has c).run ≡ length c.run) × (length (turn m t has c).trace ≡ length c.trace)
  turn-lengths = (turned.0, turned.1)

  pub turn-within : (turn m t has c).steps ≤ has
  turn-within = turned.2
