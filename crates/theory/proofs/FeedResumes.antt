-- A feed that was stopped by 15, made again without the bags whose own calls succeeded: the calls before the refused one succeed on the longer trace
-- just the same, the refused one and its repetition are one call (`Resuming`), and the calls behind it go on counted. What is left of the bags is a
-- feed, its calls are what is left of the calls, and the open moment is not past the first of them. Assumes nothing.
use mathlib.Core.Path.{◌≡◌, refl, sym, ap, ◌∙◌, subst}
use Prim.Native.Nat.{ℕ, zero, suc, ◌+◌, ◌≤◌, ◌<◌}
use mathlib.Core.List.{List, [], ◌∷◌, ◌++◌}
use mathlib.Core.Bool.{Bool, true, false, cond}
use native.Mathlib.Omega.{arith}
use lib.Dec.{ltb}
use lib.ListN.{length, take, drop, length-append, length-drop}
use Rattle.definition.specs.Lists.{is_empty}
use Rattle.definition.specs.Bytes.{Bytes, AllBytes, ok, stored}
use Rattle.definition.specs.Model.{Model}
use Rattle.definition.specs.Pinned.Decoder.{accepted}
use Rattle.definition.specs.SavedRun.{Entry, Run, run_of, run_bytes}
use Rattle.definition.specs.Step.{Simulator, nested}
use Rattle.definition.specs.Advance.{Progress, Ended, ended}
use Rattle.definition.specs.AdvanceRelation.{Ends, EndsInTurn, all_succeed, stops, then}
use Rattle.definition.specs.Engine.{to_bag}
use Rattle.definition.specs.Feed.{FeedBag, feed_bytes, last_moment, first_moment, feed_calls}
use Rattle.definition.specs.FeedCall.{Fed, advance_feed}
use Rattle.definition.specs.Carrying.{begins}
use Rattle.definition.specs.Demands.{opening_of, MayFeed, FeedEnds, fed_as, FedTogether}
use Rattle.law_model.proofs.WellFormed.{WellFormed}
use Rattle.law_model.proofs.Reading.{accepted_sound}
use Rattle.law_calls.proofs.Fitting.{FitRun}
use Rattle.law_calls.proofs.Counted.{counted, counted_end, counted-ends, counted-begin}
use Rattle.law_feed.proofs.Timed.{InTime, time-proper, time-rises, end_call}
use Rattle.theory.proofs.Buffers.{stored-again, stored-front, stored-behind}
use Rattle.theory.proofs.WrittenRuns.{size, read_back}
use Rattle.theory.proofs.FeedEnds.{opens, some_left}
use Rattle.theory.proofs.FeedCalls.{calls-length, in_time, onward, onward-ends, onward-kept, feed_only, feed_fits}
use Rattle.theory.proofs.Resuming.{undone-open, trace-grows, succeeds-still, goes-on-from}

-- ---- over anything that takes steps

module _ {S : Type 0} (k : Simulator S) where
  -- where one is refused, it and the calls behind it are in time from the open moment that is left
  left-in-time : (room : ℕ) {cs : List FeedBag} {p : Progress S} {n : ℕ} {e : Ended S} → EndsInTurn k room cs p n e → 0 < e.number → InTime p.opening cs
      → InTime e.progress.opening (drop n cs)
  unfolding ended
  left-in-time room (all_succeed p) l t = absurd (omega arith)
  left-in-time room (stops c cs p e h l) u t = (undone-open k c.moment (to_bag c.bag) room h l t.0, t.1, t.2, t.3)
  left-in-time room (then c cs p e n d h z rest) u t = left-in-time room rest u (subst (λ o. InTime o cs) (sym (opens h z)) t.3)

  -- the records of the calls before are among those of all
  turns-grow : (room : ℕ) {cs : List FeedBag} {p : Progress S} {n : ℕ} {e : Ended S} → EndsInTurn k room cs p n e → length p.trace ≤ length e.progress.trace
  unfolding ended
  turns-grow room (all_succeed p) = omega arith
  turns-grow room (stops c cs p e h l) = trace-grows k c.moment (to_bag c.bag) room h
  turns-grow room (then c cs p e n d h z rest) = omega (arith, trace-grows k c.moment (to_bag c.bag) room h, turns-grow room rest)

  -- calls whose first goes on from an earlier progress too
  begins-sooner : (room : ℕ) {c : FeedBag} {cs : List FeedBag} {q : Progress S} {n : ℕ} {e : Ended S} → EndsInTurn k room (c ∷ cs) q n e → (p : Progress S)
      → ((b : Ended S) → Ends k room c.moment (to_bag c.bag) q b → Ends k room c.moment (to_bag c.bag) p b) → EndsInTurn k room (c ∷ cs) p n e
  begins-sooner room (stops c cs q e h l) p first = stops c cs p e (first e h) l
  begins-sooner room (then c cs q e n d h z rest) p first = then c cs p e n d (first e h) z rest

  -- with any trace that holds the records of before, the calls go on from where they stopped
  turns-on : (r : ℕ) {cs : List FeedBag} {p : Progress S} {n : ℕ} {a : Ended S} → EndsInTurn k r cs p n a → a.number ≡ 15 → (room : ℕ) → length a.progress.trace ≤ room
      → (j : ℕ) (d : Ended S) → EndsInTurn k room (drop n cs) a.progress j d → EndsInTurn k room cs p (n + j) d
  unfolding ended
  turns-on r (all_succeed p) u room l j d g = absurd (omega arith)
  turns-on r (stops c cs p e h i) u room l j d g =
      subst (λ i. EndsInTurn k room (c ∷ cs) p i d) (let y : j ≡ 0 + j = omega arith in y) (begins-sooner room g p (goes-on-from k c.moment (to_bag c.bag) r h u room l))
  turns-on r (then c cs p e n b h z rest) u room l j d g =
      subst (λ i. EndsInTurn k room (c ∷ cs) p i d) (let y : suc (n + j) ≡ suc n + j = omega arith in y)
      (then c cs p e (n + j) d (succeeds-still k c.moment (to_bag c.bag) r h z room (omega (arith, turns-grow r rest, l))) z (turns-on r rest u room l j d g))

  -- calls that go on from what was done before are the calls by themselves, counted on
  turns-counted : (i n : ℕ) (tr : Bytes) (rs : List ℕ) (r : ℕ) {cs : List FeedBag} {p : Progress S} {j : ℕ} {e : Ended S} → EndsInTurn k r cs p j e
      → EndsInTurn k (length tr + r) cs (counted k 0 [] i n tr rs p) j (counted_end k 0 [] i n tr rs e)
  unfolding ended
  turns-counted i n tr rs r (all_succeed p) = all_succeed (counted k 0 [] i n tr rs p)
  turns-counted i n tr rs r (stops c cs p e h l) = stops c cs _ _ (counted-ends k c.moment (to_bag c.bag) i n tr rs r h) l
  turns-counted i n tr rs r (then c cs p e j d h z rest) =
      then c cs _ _ j _ (counted-ends k c.moment (to_bag c.bag) i n tr rs r h) z (turns-counted i n tr rs r rest)

  -- After 15: the first feed's calls, and those of the second counted on, are the calls of one feed.
  one-feed : (r : ℕ) {cs : List FeedBag} {p : Progress S} {n : ℕ} {a : Ended S} → EndsInTurn k r cs p n a → a.number ≡ 15 → (next j : ℕ) (b : Ended S)
      → EndsInTurn k next (drop n cs) (begins a.progress.opening a.progress.state) j b
      → (let q = a.progress in EndsInTurn k (length q.trace + next) cs p (n + j) (counted_end k 0 [] q.instants q.steps q.trace q.rules b))
  one-feed r {cs} {p} {n} {a} h u next j b g =
      let q = a.progress in
      let both = counted_end k 0 [] q.instants q.steps q.trace q.rules b in
      turns-on r h u (length q.trace + next) (omega arith) j both
      (subst (λ z. EndsInTurn k (length q.trace + next) (drop n cs) z j both) (counted-begin k 0 [] q) (turns-counted q.instants q.steps q.trace q.rules next g))

-- ---- what is left of the bags

-- the calls of the bags that are left are what is left of the calls, where one is left
left-calls : (n : ℕ) (bs : List FeedBag) (end : ℕ) → n < length (feed_calls bs end) → feed_calls (drop n bs) end ≡ drop n (feed_calls bs end)
unfolding feed_calls is_empty last_moment
left-calls zero bs end l = refl
left-calls (suc n) [] end l = absurd (omega arith)
left-calls (suc n) (b ∷ []) end l = go (ltb b.moment end) n l
  where
    go : (z : Bool) (i : ℕ) → suc i < length (b ∷ cond z (end_call end ∷ []) []) → feed_calls (drop i []) end ≡ drop i (cond z (end_call end ∷ []) [])
    go true zero k = refl
    go true (suc i) k = absurd (omega arith)
    go false i k = absurd (omega arith)
left-calls (suc n) (b ∷ c ∷ bs) end l = left-calls n (c ∷ bs) end (omega arith)

-- the last of them is no later than the last of all
last-left : (n : ℕ) (bs : List FeedBag) → last_moment (drop n bs) ≤ last_moment bs
unfolding last_moment
last-left zero bs = omega arith
last-left (suc n) [] = omega arith
last-left (suc zero) (b ∷ []) = omega arith
last-left (suc (suc n)) (b ∷ []) = omega arith
last-left (suc n) (b ∷ c ∷ bs) = last-left n (c ∷ bs)

-- the first call finds its moment open, and the bags are in time
first-open : (o : ℕ) (bs : List FeedBag) (end : ℕ) → InTime o (feed_calls bs end) → o ≤ first_moment bs end
unfolding feed_calls is_empty first_moment
first-open o [] end t = t.0
first-open o (b ∷ bs) end t = t.0

time-front : (o : ℕ) (bs cs : List FeedBag) → InTime o (bs ++ cs) → InTime o bs
time-front o [] cs t = tt
time-front o (b ∷ bs) cs t = (t.0, t.1, t.2, time-front (suc b.moment) bs cs t.3)

-- ---- a feed and the one with the bags that it left

module _ (file run : Bytes) (end : ℕ) (feed trace anew : Bytes) (m : Model) (bs : List FeedBag) (b : AllBytes file) (e : accepted file ≡ ok m) (h : MayFeed m run end feed bs)
    (full : (advance_feed file run end feed trace).number ≡ 15) where
  abbrev w : WellFormed m
  w = (accepted_sound file m b e).sound

  abbrev a : Fed
  a = advance_feed file run end feed trace

  -- where the first feed stops, and how many of its calls have succeeded
  abbrev first_end : Ended (List Entry)
  first_end = (onward file m b e run trace end feed bs h).end

  abbrev n : ℕ
  n = (onward-ends file m b e run trace end feed bs h).0

  first_ends : FeedEnds m run end trace bs n first_end
  first_ends = (onward-ends file m b e run trace end feed bs h).1

  first-is : a ≡ fed_as run trace bs n first_end
  first-is = feed_only file m b e run trace end feed bs h n first_end first_ends

  stopped : first_end.number ≡ 15
  stopped = sym (ap (λ (f : Fed). f.number) first-is) ∙ full

  some : n < length (feed_calls bs end)
  some = some_left first_ends (omega (arith, stopped))

  within : n ≤ length bs
  within = omega (arith, some, (calls-length bs end).1)

  bags-are : a.bags ≡ n
  bags-are = ap (λ (f : Fed). f.bags) first-is ∙ omega (arith, within)

  -- its records, and the run that it left
  abbrev old : Bytes
  old = first_end.progress.trace

  abbrev left : Run
  left = record { opening = first_end.progress.opening; entries = first_end.progress.state }

  first-fit : FitRun m left
  first-fit = onward-kept file m b e run trace end feed bs h

  run_is : a.run ≡ stored (run_bytes left) run
  run_is = ap (λ (f : Fed). f.run) first-is

  held : run_of m a.run ≡ left
  held = ap (run_of m) run_is ∙ read_back m w left first-fit run

  records-are : take a.used a.trace ≡ old
  records-are = ap (λ (f : Fed). take f.used f.trace) first-is ∙ stored-front old trace

  -- ---- the bags that it left are a feed that may be run

  abbrev rest : List FeedBag
  rest = drop n bs

  calls_are : feed_calls rest end ≡ drop n (feed_calls bs end)
  calls_are = left-calls n bs end some

  rest-in-time : InTime left.opening (feed_calls rest end)
  rest-in-time =
      subst (InTime left.opening) (sym calls_are)
      (left-in-time (nested m) (length trace) first_ends (omega (arith, stopped)) (in_time file m b e run trace end feed bs h))

  bags-in-time : InTime left.opening rest
  unfolding feed_calls
  bags-in-time = time-front left.opening rest _ rest-in-time

  may : MayFeed m a.run end (feed_bytes rest) rest
  may = record {
    run_fits_lem = feed_fits file m b e run end feed trace h.run_fits_lem;
    is_feed = record {
      whole = refl;
      few = omega (arith, length-drop n bs, h.is_feed.few);
      bags = time-proper left.opening rest bags-in-time;
      rising = time-rises left.opening rest bags-in-time;
    };
    timed = record {
      not_before_lem = omega (arith, last-left n bs, h.timed.not_before_lem);
      not_late = h.timed.not_late;
      not_early = subst (λ (r : Run). r.opening ≤ first_moment rest end) (sym held) (first-open left.opening rest end rest-in-time);
    };
  }

  -- ---- the second feed, beside the first

  -- where it ends, and how many of its calls succeed
  abbrev second_end : Ended (List Entry)
  second_end = (onward file m b e a.run anew end (feed_bytes rest) rest may).end

  abbrev j : ℕ
  j = (onward-ends file m b e a.run anew end (feed_bytes rest) rest may).0

  second-ends : FeedEnds m a.run end anew rest j second_end
  second-ends = (onward-ends file m b e a.run anew end (feed_bytes rest) rest may).1

  second_is : advance_feed file a.run end (feed_bytes rest) anew ≡ fed_as a.run anew rest j second_end
  second_is = feed_only file m b e a.run anew end (feed_bytes rest) rest may j second_end second-ends

  second-fit : FitRun m (record { opening = second_end.progress.opening; entries = second_end.progress.state })
  second-fit = onward-kept file m b e a.run anew end (feed_bytes rest) rest may

  -- it goes on from where the first one stopped
  from-there : EndsInTurn (nested m) (length anew) (drop n (feed_calls bs end)) (begins left.opening left.entries) j second_end
  from-there =
      subst (λ (r : Run). EndsInTurn (nested m) (length anew) (drop n (feed_calls bs end)) (begins r.opening r.entries) j second_end) held
      (subst (λ cs. EndsInTurn (nested m) (length anew) cs (begins (opening_of m a.run) (run_of m a.run).entries) j second_end) calls_are second-ends)

  -- both as one feed with the longer trace
  abbrev both : Ended (List Entry)
  both = counted_end (nested m) 0 [] first_end.progress.instants first_end.progress.steps old first_end.progress.rules second_end

  both_ends : FeedEnds m run end (old ++ anew) bs (n + j) both
  both_ends =
      subst (λ room. EndsInTurn (nested m) room (feed_calls bs end) (begins (opening_of m run) (run_of m run).entries) (n + j) both) (sym (length-append old anew))
      (one-feed (nested m) (length trace) first_ends stopped (length anew) j second_end from-there)

  both_is : advance_feed file run end feed (old ++ anew) ≡ fed_as run (old ++ anew) bs (n + j) both
  both_is = feed_only file m b e run (old ++ anew) end feed bs h (n + j) both both_ends

  -- the run that the second leaves stands over the first one's, and is as long
  as_long : length (run_bytes (record { opening = second_end.progress.opening; entries = second_end.progress.state })) ≡ length (run_bytes left)
  as_long = size m w _ second-fit run ∙ sym (size m w left first-fit run)

  -- field by field
  as-told : FedTogether (fed_as run trace bs n first_end) (fed_as a.run anew rest j second_end) (fed_as run (old ++ anew) bs (n + j) both)
  as-told = record {
    number = refl;
    bags = omega (arith, within, length-drop n bs);
    instants = refl;
    steps = refl;
    used = length-append old second_end.progress.trace;
    run = sym (ap (stored (run_bytes (record { opening = second_end.progress.opening; entries = second_end.progress.state }))) run_is ∙ stored-again _ (run_bytes left) run as_long);
    trace = stored-behind old second_end.progress.trace anew ∙ ap (λ s. s ++ stored second_end.progress.trace anew) (sym (stored-front old trace));
  }

  together : FedTogether a (advance_feed file a.run end (feed_bytes rest) anew) (advance_feed file run end feed (old ++ anew))
  together = subst (λ (t : Fed × Fed × Fed). FedTogether t.0 t.1 t.2) (λ i. (sym first-is i, sym second_is i, sym both_is i)) as-told

  pub feed_resumes : FedTogether a (advance_feed file a.run end (feed_bytes (drop a.bags bs)) anew) (advance_feed file run end feed (take a.used a.trace ++ anew))
  feed_resumes =
      subst (λ (t : ℕ × Bytes). FedTogether a (advance_feed file a.run end (feed_bytes (drop t.0 bs)) anew) (advance_feed file run end feed (t.1 ++ anew)))
      (λ i. (sym bags-are i, sym records-are i)) together
