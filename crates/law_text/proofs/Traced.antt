-- What an advance writes into the lent trace: whole records of at most 4,096 messages each, since no step of an accepted model puts out more,
-- within its room. Assumes nothing.
use mathlib.Core.Path.{◌≡◌, refl, sym, ap, ◌∙◌, subst}
use Prim.Native.Nat.{ℕ, zero, suc, ◌≤◌}
use mathlib.Core.List.{List, [], ◌∷◌, ◌++◌}
use mathlib.Core.Bool.{Bool, true, false, cond}
use native.Mathlib.Omega.{arith}
use lib.Dec.{ltb, leb}
use lib.ListN.{length, take, drop}
use lib.Seq.{take-append_seam}
use borrow.Author.Tests.{ltb-false, le-leb}
use Rattle.definition.specs.Lists.{concat, all, is_empty, sort_by}
use Rattle.definition.specs.Bytes.{Bytes, AllBytes, Result, ok, refused, ◌>>=◌, refuse_if, stored}
use Rattle.definition.specs.Limits.{max_steps, max_root_bag}
use Rattle.definition.specs.Model.{Bag, message_le}
use Rattle.definition.specs.Pinned.Decoder.{accepted}
use Rattle.definition.specs.Devs.{ticks}
use Rattle.definition.specs.SavedRun.{Entry, run_of}
use Rattle.definition.specs.Step.{Output, Simulator, nested}
use Rattle.definition.specs.Instant.{Instant, done, jammed, stepped, goes_on, steps_at, instant, TraceRecord, trace_bytes, records_from, instant_trace}
use Rattle.definition.specs.Advance.{Progress, Ended, ended, tried, continued, succeeded, is_before, advancing, advance_from}
use Rattle.definition.specs.Engine.{Advanced, to_bag, advance_checks, advanced, advance}
use Rattle.law_base.proofs.Lists.{all_append, all_head, all_tail, all_cons, length-perm, sort-permutes}
use Rattle.law_base.proofs.Turns.{traces-append}
use Rattle.law_model.proofs.Reading.{accepted_sound}
use Rattle.law_nest.proofs.RootBag.{step-most}

-- A root bag, and a record, of at most 4,096 messages.
abbrev small_bag : Output → Bool
small_bag x = leb (length x.bag) max_root_bag

abbrev pub small_record : TraceRecord → Bool
small_record r = leb (length r.messages) max_root_bag

-- Trace bytes that are whole records.
pub record Traced (room : ℕ) (trace : Bytes) : Type 0 where
  pub records : List TraceRecord
  pub bytes : trace ≡ trace_bytes records
  pub small : all small_record records ≡ true
  pub within : length trace ≤ room

traced-none : (room : ℕ) → Traced room []
unfolding trace_bytes concat all
traced-none room = record { records = []; bytes = refl; small = refl; within = omega arith }

-- ---- an instant

records-small : (now k : ℕ) (xs : List Output) → all small_bag xs ≡ true → all small_record (records_from now k xs) ≡ true
unfolding records_from all
records-small now k [] h = refl
records-small now k (x ∷ xs) h = go (is_empty x.bag) (records-small now (suc k) xs (all_tail small_bag x xs h))
  where
    sorted : TraceRecord
    sorted = record { moment = now; step = k; messages = sort_by message_le x.bag }

    go : (b : Bool) → all small_record (records_from now (suc k) xs) ≡ true
        → all small_record (cond b (records_from now (suc k) xs) (sorted ∷ records_from now (suc k) xs)) ≡ true
    go true i = i
    go false i = all_cons small_record sorted (records_from now (suc k) xs) (ap (λ n. leb n max_root_bag) (length-perm (sort-permutes message_le x.bag)) ∙ all_head small_bag x xs h) i

module _ {S : Type 0} (k : Simulator S) (low : (now : ℕ) (x : Bag) (s : S) → small_bag (k.step now x s).out ≡ true) (room : ℕ) where
  -- Every step of it puts out a small bag.
  abbrev SmallSteps : Instant S → Type 0
  SmallSteps jammed = Unit {0}
  SmallSteps (done xs s) = all small_bag xs ≡ true

  small-stepped : (x : Output) (i : Instant S) → small_bag x ≡ true → SmallSteps i → SmallSteps (stepped x i)
  unfolding stepped
  small-stepped x jammed h f = tt
  small-stepped x (done xs s) h f = all_cons small_bag x xs h f

  small-steps : (n now : ℕ) (x : Bag) (s : S) → SmallSteps (steps_at k n now x s)
  unfolding steps_at all
  small-steps zero now x s = go (goes_on k now x s)
    where
      go : (b : Bool) → SmallSteps (cond b jammed (done [] s))
      go true = tt
      go false = refl
  small-steps (suc n) now x s = go (goes_on k now x s) _ (small-stepped _ _ (low now x s) (small-steps n now [] (k.step now x s).state))
    where
      go : (b : Bool) (i : Instant S) → SmallSteps i → SmallSteps (cond b i (done [] s))
      go true i h = h
      go false i h = refl

  small-instant : (now : ℕ) (x : Bag) (s : S) → SmallSteps (instant k now x s)
  unfolding instant
  small-instant now x s = small-steps max_steps now x s

  -- What stands, if anything does, is whole records.
  abbrev Stands : Result (Progress S) → Type 0
  Stands (ok p) = Traced room p.trace
  Stands (refused n) = Unit {0}

  tried-traced : (now : ℕ) (p : Progress S) (i : Instant S) → SmallSteps i → Traced room p.trace → Stands (tried room now p i)
  unfolding tried
  tried-traced now p jammed few h = tt
  tried-traced now p (done [] s) few h = h
  tried-traced now p (done (x ∷ xs) s) few h = go (ltb room (length all-of-it)) refl _ refl
    where
      all-of-it : Bytes
      all-of-it = p.trace ++ instant_trace now (x ∷ xs)

      joined : all-of-it ≡ trace_bytes (h.records ++ records_from now 0 (x ∷ xs))
      joined = unfold instant_trace in (ap (λ b. b ++ trace_bytes (records_from now 0 (x ∷ xs))) h.bytes ∙ sym (traces-append h.records (records_from now 0 (x ∷ xs))))

      go : (c : Bool) → ltb room (length all-of-it) ≡ c → (q : Progress S) → q.trace ≡ all-of-it → Stands (refuse_if c 15 >>= λ _. ok q)
      go true f q g = tt
      go false f q g = record {
        records = h.records ++ records_from now 0 (x ∷ xs);
        bytes = g ∙ joined;
        small = all_append small_record h.records (records_from now 0 (x ∷ xs)) h.small (records-small now 0 (x ∷ xs) few);
        within = omega (arith, ap length g, ltb-false room (length all-of-it) f);
      }

  -- ---- the instants of a call

  abbrev EndsTraced : Ended S → Type 0
  EndsTraced e = Traced room e.progress.trace

  continued-traced : (on : Progress S → Ended S) (p : Progress S) (r : Result (Progress S)) → Traced room p.trace → Stands r
      → ((q : Progress S) → Traced room q.trace → EndsTraced (on q)) → EndsTraced (continued on p r)
  unfolding continued ended
  continued-traced on p (ok q) h k f = f q k
  continued-traced on p (refused n) h k f = h

  module _ (t : ℕ) (given : Bag) where
    succeeded-traced : (p : Progress S) → Traced room p.trace → EndsTraced (succeeded t p)
    unfolding succeeded ended
    succeeded-traced p h = h

    advancing-traced : (turns : ℕ) (p : Progress S) → Traced room p.trace → EndsTraced (advancing k room t given turns p)
    unfolding advancing ended
    advancing-traced zero p h = h
    advancing-traced (suc turns) p h =
        go (is_before (k.next p.state) t) _ _
        (continued-traced _ p _ h (tried-traced (ticks (k.next p.state)) p _ (small-instant (ticks (k.next p.state)) [] p.state) h) (λ q j. advancing-traced turns q j))
        (continued-traced (succeeded t) p _ h (tried-traced t p _ (small-instant t given p.state) h) succeeded-traced)
      where
        go : (b : Bool) (e f : Ended S) → EndsTraced e → EndsTraced f → EndsTraced (cond b e f)
        go true e f x y = x
        go false e f x y = y

    advance-from-traced : (opening : ℕ) (s : S) → EndsTraced (advance_from k room t given opening s)
    unfolding advance_from
    advance-from-traced opening s = advancing-traced (suc t) _ (traced-none room)

-- ---- a call

-- The bytes that an advance answers to have written.
abbrev pub written : Advanced → Bytes
written a = take a.used a.trace

abbrev Answers : ℕ → Result (Ended (List Entry)) → Type 0
Answers room (ok e) = Traced room e.progress.trace
Answers room (refused n) = Unit {0}

answers-bind : {A : Type 0} (room : ℕ) (r : Result A) (f : A → Result (Ended (List Entry))) → ((a : A) → r ≡ ok a → Answers room (f a)) → Answers room (r >>= f)
answers-bind room (ok a) f h = h a refl
answers-bind room (refused n) f h = tt

advanced-traced : (run trace table : Bytes) (r : Result (Ended (List Entry))) → Answers (length trace) r → Traced (length trace) (written (advanced run trace table r))
unfolding advanced stored
advanced-traced run trace table (refused n) h = traced-none (length trace)
advanced-traced run trace table (ok e) h = subst (Traced (length trace)) (sym (take-append_seam e.progress.trace (drop (length e.progress.trace) trace))) h

pub advance-traced : (file run : Bytes) (t : ℕ) (bag trace table : Bytes) → AllBytes file → Traced (length trace) (written (advance file run t bag trace table))
unfolding advance
advance-traced file run t bag trace table b =
    advanced-traced run trace table _
    (answers-bind (length trace) (accepted file) _ (λ m e.
    let s = accepted_sound file m b e in
    answers-bind (length trace) (advance_checks m run t bag) _ (λ _ f.
    advance-from-traced (nested m) (λ now x rs. le-leb _ max_root_bag (step-most m s.sound s.few_routes now x rs)) (length trace) t (to_bag bag)
    (run_of m run).opening (run_of m run).entries)))
