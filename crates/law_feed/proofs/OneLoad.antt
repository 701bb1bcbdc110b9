-- The calls of a feed as one progress that goes on are the feed: the model is checked once, the run is loaded once and stored once, and the
-- trace is one. Each call of the feed reads the run that the one before it stored; what it reads is the state that was stored, and its counts and bytes
-- come after those of before. The first call reads the run as it was lent and stores its own over it; so, where there is a call, nothing is asked of
-- the bytes of the lent run. Assumes nothing.
use mathlib.Core.Path.{◌≡◌, refl, sym, ap, ap₂, ◌∙◌, subst}
use Prim.Native.Nat.{ℕ, suc, ◌+◌, ◌≤◌}
use mathlib.Core.List.{List, [], ◌∷◌, ◌++◌, append_assoc}
use mathlib.Core.Bool.{Bool, true, false, cond}
use native.Mathlib.Omega.{arith}
use lib.Dec.{eqb}
use lib.ListN.{length, take, drop, length-append, length-drop}
use lib.Seq.{take_at, drop_at, drop-drop}
use Rattle.definition.specs.Lists.{is_empty}
use Rattle.definition.specs.Bytes.{Bytes, AllBytes, ok, stored}
use Rattle.definition.specs.Limits.{max_moment}
use Rattle.definition.specs.Model.{Bag, Model, atomics}
use Rattle.definition.specs.Pinned.Decoder.{accepted}
use Rattle.definition.specs.SavedRun.{Entry, Run, run_length, run_of, run_bytes, run_fits}
use Rattle.definition.specs.Step.{Simulator, nested}
use Rattle.definition.specs.Advance.{Progress, Ended, ended, advancing, advance_from}
use Rattle.definition.specs.AdvanceRelation.{Ends}
use Rattle.definition.specs.Engine.{Advanced, bag_fits, to_bag, advanced, advance}
use Rattle.definition.specs.Feed.{FeedBag, feed_calls}
use Rattle.definition.specs.FeedCall.{Fed, nothing_fed, stopped_by, followed_by, own_bags, fed_in_turn}
use Rattle.definition.specs.Carrying.{begins}
use Rattle.definition.specs.Demands.{opening_of, MayFeed}
use Rattle.law_model.proofs.WellFormed.{WellFormed}
use Rattle.law_model.proofs.Reading.{accepted_sound}
use Rattle.law_model.proofs.RunBack.{length_run}
use Rattle.law_model.proofs.Answers.{advance-done}
use Rattle.law_nest.proofs.Pairs.{pairs-length}
use Rattle.law_calls.proofs.Lift.{Agree, EndsAlike, advancing-alike}
use Rattle.law_calls.proofs.Kept.{BetweenSame}
use Rattle.law_calls.proofs.BagOrder.{agree-order}
use Rattle.law_calls.proofs.Ending.{ends, only}
use Rattle.law_calls.proofs.Counted.{counted_end, counted-ends, counted-begin}
use Rattle.law_calls.proofs.Fitting.{FitRun, fits_run, fit_written}
use Rattle.law_feed.specs.Onward.{Onward, bags_onward, feed_onward, fed_from}
use Rattle.law_feed.proofs.Timed.{InTime, time-sooner, end_call, calls-in-time}
use Rattle.law_feed.proofs.Bounded.{advancing-bounded}
use Rattle.law_feed.proofs.EndCall.{calls-onward}

-- ---- a call that goes on

-- A call that goes on from p is the call by itself on what is left of the trace, counted on from p.
pub goes-from : {S : Type 0} {At Between : ℕ → S → S → Type 0} {Fine : Bag → Bag → Type 0} {k : Simulator S} → Agree At Between Fine k k → (room r t : ℕ) (x : Bag) (p : Progress S)
    → Between p.opening p.state p.state → p.opening ≤ t → room ≡ length p.trace + r
    → advancing k room t x (suc t) p ≡ counted_end k t x p.instants p.steps p.trace p.rules (advance_from k r t x p.opening p.state)
unfolding advance_from
goes-from {k = k} a room r t x p b l e =
    let alone = advancing k r t x (suc t) (begins p.opening p.state) in
    let on = counted_end k t x p.instants p.steps p.trace p.rules alone in
    let so : Ends k (length p.trace + r) t x p on
    = subst (λ q. Ends k (length p.trace + r) t x q on) (counted-begin k t x p)
    (counted-ends k t x p.instants p.steps p.trace p.rules r (ends a r t x (suc t) (begins p.opening p.state) b l (omega arith))) in
    only a room t x (subst (λ i. Ends k i t x p on) (sym e) so) (suc t) b l (omega arith)

-- ---- from the run buffer to entries

abbrev run_at : Progress (List Entry) → Run
run_at p = record { opening = p.opening; entries = p.state }

-- what the calls after p give, with the counts and bytes of p in front
unfoldable after : ℕ → Progress (List Entry) → Fed → Fed
after n p f = record {
  number = f.number;
  bags = n + f.bags;
  instants = p.instants + f.instants;
  steps = p.steps + f.steps;
  used = length p.trace + f.used;
  run = f.run;
  trace = p.trace ++ f.trace;
}

module _ (file : Bytes) (m : Model) (b : AllBytes file) (a : accepted file ≡ ok m) (run trace : Bytes) where
  abbrev w : WellFormed m
  w = (accepted_sound file m b a).sound

  -- the run buffer and what is left of the trace, where the calls have come so far
  abbrev run_so : Progress (List Entry) → Bytes
  run_so p = stored (run_bytes (run_at p)) run

  abbrev left : Progress (List Entry) → Bytes
  left p = drop (length p.trace) trace

  -- a run that fits, stored over another, leaves no byte of it
  stored-over : (r q : Run) → FitRun m r → FitRun m q → stored (run_bytes q) (stored (run_bytes r) run) ≡ stored (run_bytes q) run
  unfolding stored
  stored-over r q h k =
      let n = length_run r ∙ ap run_length (pairs-length _ (atomics m.components) r.entries h.0) in
      let l = length_run q ∙ ap run_length (pairs-length _ (atomics m.components) q.entries k.0) in
      ap (λ s. run_bytes q ++ s) (drop_at (run_bytes r) (drop (length (run_bytes r)) run) (length (run_bytes q)) (n ∙ sym l) ∙ ap (λ i. drop i run) (n ∙ sym l))

  -- A buffer that holds the run of p: it is read from it, and a run stored over it leaves what it leaves of the lent one.
  record Holds (p : Progress (List Entry)) (buffer : Bytes) : Type 0 where
    run_fits_lem : run_fits m buffer ≡ true
    reads : run_of m buffer ≡ run_at p
    over : (q : Run) → FitRun m q → stored (run_bytes q) buffer ≡ stored (run_bytes q) run

  -- the lent one does before the first call, and the one that a call has stored
  lent-holds : run_fits m run ≡ true → Holds (begins (opening_of m run) (run_of m run).entries) run
  lent-holds f = record { run_fits_lem = f; reads = refl; over = λ q k. refl }

  stored-holds : (p : Progress (List Entry)) → FitRun m (run_at p) → Holds p (run_so p)
  unfolding stored
  stored-holds p fit =
      let back = fit_written m w (run_at p) (drop (length (run_bytes (run_at p))) run) fit in
      record { run_fits_lem = back.0; reads = back.1; over = λ q k. stored-over (run_at p) q fit k }

  -- ---- one call

  module _ (p : Progress (List Entry)) (fit : FitRun m (run_at p)) (buffer : Bytes) (holds : Holds p buffer) (c : FeedBag) (early : p.opening ≤ c.moment) (late : c.moment ≤ max_moment) (own : bag_fits c.bag ≡ true)
      (room : length p.trace ≤ length trace) where
    -- the call by itself, and counted on
    abbrev alone : Ended (List Entry)
    alone = advance_from (nested m) (length (left p)) c.moment (to_bag c.bag) p.opening p.state

    abbrev on : Ended (List Entry)
    on = counted_end (nested m) c.moment (to_bag c.bag) p.instants p.steps p.trace p.rules alone

    abbrev answer : Advanced
    answer = advanced buffer (left p) [] (ok alone)

    whole_trace : length trace ≡ length p.trace + length (left p)
    whole_trace = omega (arith, length-drop (length p.trace) trace)

    is_call : advance file buffer c.moment c.bag (left p) [] ≡ answer
    is_call =
        let o : opening_of m buffer ≡ p.opening = ap (λ (q : Run). q.opening) holds.reads in
        advance-done file buffer c.moment c.bag (left p) [] m a (record { run_fits_lem = holds.run_fits_lem; not_early = omega (arith, o); not_late = late; bag_fits_lem = own })
        ∙ ap (λ (q : Run). advanced buffer (left p) [] (ok (advance_from (nested m) (length (left p)) c.moment (to_bag c.bag) q.opening q.entries))) holds.reads

    is-on : advancing (nested m) (length trace) c.moment (to_bag c.bag) (suc c.moment) p ≡ on
    is-on = goes-from (agree-order m w) (length trace) (length (left p)) c.moment (to_bag c.bag) p (refl, fit.0) early whole_trace

    alike : EndsAlike (BetweenSame m w) c.moment alone alone
    unfolding advance_from
    alike =
        advancing-alike (agree-order m w) (length (left p)) c.moment (to_bag c.bag) (to_bag c.bag) (λ f. refl) (suc c.moment) _ _
        (record { opening = refl; state = (refl, fit.0); instants = refl; steps = refl; trace = refl; rules = refl }) early

    fit_on : FitRun m (run_at on.progress)
    fit_on = (alike.1.state.1, omega (arith, alike.2))

    room-on : length on.progress.trace ≤ length trace
    unfolding advance_from
    room-on =
        let h = advancing-bounded (nested m) (length (left p)) c.moment (to_bag c.bag) (suc c.moment) (begins p.opening p.state) (omega arith) in
        omega (arith, whole_trace, length-append p.trace alone.progress.trace, h.trace)

    -- the buffers that it leaves
    same-run : answer.run ≡ run_so on.progress
    unfolding advanced
    same-run = holds.over (run_at on.progress) fit_on

    drop-on : drop (length alone.progress.trace) (left p) ≡ left on.progress
    drop-on = drop-drop (length alone.progress.trace) (length p.trace) trace ∙ ap (λ n. drop n trace) (sym (length-append p.trace alone.progress.trace))

    same_left : drop answer.used answer.trace ≡ left on.progress
    unfolding advanced stored
    same_left = drop_at alone.progress.trace _ (length alone.progress.trace) refl ∙ drop-on

    same-trace : p.trace ++ answer.trace ≡ stored on.progress.trace trace
    unfolding advanced stored
    same-trace = sym (append_assoc p.trace alone.progress.trace _) ∙ ap (λ s. p.trace ++ alone.progress.trace ++ s) drop-on

    -- the call stops the feed
    stops-here : (n : ℕ) → after n p (stopped_by answer) ≡ fed_from run trace (record { bags = n; end = on })
    unfolding after stopped_by fed_from advanced
    stops-here n =
        let bags : n + 0 ≡ n = omega arith in
        let used : length p.trace + length alone.progress.trace ≡ length on.progress.trace = sym (length-append p.trace alone.progress.trace) in
        λ i. record {
          number = alone.number;
          bags = bags i;
          instants = p.instants + alone.progress.instants;
          steps = p.steps + alone.progress.steps;
          used = used i;
          run = same-run i;
          trace = same-trace i;
        }

    -- the call succeeds, and the others go on from there
    goes-there : (n : ℕ) (f : Fed) → after n p (followed_by answer f) ≡ after (suc n) on.progress f
    unfolding after followed_by advanced stored
    goes-there n f =
        let d = alone.progress in
        let bags : n + suc f.bags ≡ suc n + f.bags = omega arith in
        let instants : p.instants + (d.instants + f.instants) ≡ p.instants + d.instants + f.instants = omega arith in
        let steps : p.steps + (d.steps + f.steps) ≡ p.steps + d.steps + f.steps = omega arith in
        let used : length p.trace + (length d.trace + f.used) ≡ length (p.trace ++ d.trace) + f.used = omega (arith, length-append p.trace d.trace) in
        let bytes : p.trace ++ (take (length d.trace) (d.trace ++ drop (length d.trace) (left p)) ++ f.trace) ≡ p.trace ++ d.trace ++ f.trace
        = ap (λ s. p.trace ++ (s ++ f.trace)) (take_at d.trace _ (length d.trace) refl) ∙ sym (append_assoc p.trace d.trace f.trace) in
        λ i. record { number = f.number; bags = bags i; instants = instants i; steps = steps i; used = used i; run = f.run; trace = bytes i }

    -- it, and the calls after it
    turn : (cs : List FeedBag) (n : ℕ)
        → after (suc n) on.progress (fed_in_turn file (run_so on.progress) (left on.progress) cs) ≡ fed_from run trace (bags_onward (nested m) (length trace) cs (suc n) on.progress)
        → after n p (fed_in_turn file buffer (left p) (c ∷ cs)) ≡ fed_from run trace (bags_onward (nested m) (length trace) (c ∷ cs) n p)
    unfolding fed_in_turn bags_onward advanced
    turn cs n others = ap (λ (r : Advanced). after n p (by_answer r)) is_call ∙ go (eqb alone.number 0) ∙ ap (λ (e : Ended (List Entry)). fed_from run trace (by_end e)) (sym is-on)
      where
        by_answer : Advanced → Fed
        by_answer r = cond (eqb r.number 0) (followed_by r (fed_in_turn file r.run (drop r.used r.trace) cs)) (stopped_by r)

        by_end : Ended (List Entry) → Onward (List Entry)
        by_end e = cond (eqb e.number 0) (bags_onward (nested m) (length trace) cs (suc n) e.progress) (record { bags = n; end = e })

        go : (z : Bool) → after n p (cond z (followed_by answer (fed_in_turn file answer.run (drop answer.used answer.trace) cs)) (stopped_by answer))
            ≡ fed_from run trace (cond z (bags_onward (nested m) (length trace) cs (suc n) on.progress) (record { bags = n; end = on }))
        go true = goes-there n _ ∙ ap₂ (λ (s q : Bytes). after (suc n) on.progress (fed_in_turn file s q cs)) same-run same_left ∙ others
        go false = stops-here n

  -- ---- the calls in turn

  -- one call, and those after it from wherever it leaves the run
  turn_on : (p : Progress (List Entry)) → FitRun m (run_at p) → (buffer : Bytes) → Holds p buffer → (c : FeedBag) (cs : List FeedBag) (n : ℕ) → InTime p.opening (c ∷ cs)
      → length p.trace ≤ length trace
      → ((q : Progress (List Entry)) → FitRun m (run_at q) → InTime q.opening cs → length q.trace ≤ length trace
      → after (suc n) q (fed_in_turn file (run_so q) (left q) cs) ≡ fed_from run trace (bags_onward (nested m) (length trace) cs (suc n) q))
      → after n p (fed_in_turn file buffer (left p) (c ∷ cs)) ≡ fed_from run trace (bags_onward (nested m) (length trace) (c ∷ cs) n p)
  turn_on p fit buffer holds c cs n l room others =
      let e = on p fit buffer holds c l.0 l.1 l.2 room in
      let opened = (alike p fit buffer holds c l.0 l.1 l.2 room).2 in
      turn p fit buffer holds c l.0 l.1 l.2 room cs n
      (others e.progress (fit_on p fit buffer holds c l.0 l.1 l.2 room) (time-sooner e.progress.opening (suc c.moment) cs opened l.3) (room-on p fit buffer holds c l.0 l.1 l.2 room))

  turns : (cs : List FeedBag) (n : ℕ) (p : Progress (List Entry)) → FitRun m (run_at p) → InTime p.opening cs → length p.trace ≤ length trace
      → after n p (fed_in_turn file (run_so p) (left p) cs) ≡ fed_from run trace (bags_onward (nested m) (length trace) cs n p)
  unfolding fed_in_turn nothing_fed bags_onward after fed_from ended stored
  turns [] n p fit l room =
      let z : n + 0 ≡ n = omega arith in
      let i : p.instants + 0 ≡ p.instants = omega arith in
      let s : p.steps + 0 ≡ p.steps = omega arith in
      let u : length p.trace + 0 ≡ length p.trace = omega arith in
      λ j. record { number = 0; bags = z j; instants = i j; steps = s j; used = u j; run = run_so p; trace = p.trace ++ left p }
  turns (c ∷ cs) n p fit l room = turn_on p fit (run_so p) (stored-holds p fit) c cs n l room (λ q k t r. turns cs (suc n) q k t r)

  -- before the first call
  none_before : (o : ℕ) (rs : List Entry) (f : Fed) → after 0 (begins o rs) f ≡ f
  unfolding after
  none_before o rs f =
      let bags : 0 + f.bags ≡ f.bags = omega arith in
      let instants : 0 + f.instants ≡ f.instants = omega arith in
      let steps : 0 + f.steps ≡ f.steps = omega arith in
      let used : 0 + f.used ≡ f.used = omega arith in
      λ i. record { number = f.number; bags = bags i; instants = instants i; steps = steps i; used = used i; run = f.run; trace = f.trace }

-- ---- from the run as it was lent

-- Any calls in time, of which there is one: the first stores its run over the lent one, whatever that is.
pub turns-load : (file : Bytes) (m : Model) → AllBytes file → accepted file ≡ ok m → (run trace : Bytes) → run_fits m run ≡ true
    → (c : FeedBag) (cs : List FeedBag) → InTime (opening_of m run) (c ∷ cs)
    → fed_in_turn file run trace (c ∷ cs) ≡ fed_from run trace (bags_onward (nested m) (length trace) (c ∷ cs) 0 (begins (opening_of m run) (run_of m run).entries))
turns-load file m b a run trace h c cs t =
    let first = begins (opening_of m run) (run_of m run).entries in
    sym (none_before file m b a run trace (opening_of m run) (run_of m run).entries _)
    ∙ turn_on file m b a run trace first (fits_run m run h).0 run (lent-holds file m b a run trace h) c cs 0 t (omega arith) (turns file m b a run trace cs 1)

-- the calls of a feed, of which there is one
pub calls-load : (file : Bytes) (m : Model) → AllBytes file → accepted file ≡ ok m → (run trace : Bytes) → run_fits m run ≡ true
    → (bs : List FeedBag) (end : ℕ) → InTime (opening_of m run) (feed_calls bs end)
    → fed_in_turn file run trace (feed_calls bs end) ≡ fed_from run trace (bags_onward (nested m) (length trace) (feed_calls bs end) 0 (begins (opening_of m run) (run_of m run).entries))
unfolding feed_calls is_empty
calls-load file m b a run trace h [] end t = turns-load file m b a run trace h (end_call end) [] t
calls-load file m b a run trace h (c ∷ bs) end t = turns-load file m b a run trace h c _ t

-- a feed
pub one-load : (file : Bytes) (m : Model) → AllBytes file → accepted file ≡ ok m → (run trace : Bytes) (end : ℕ) (feed : Bytes) (bs : List FeedBag)
    → MayFeed m run end feed bs
    → own_bags (length bs) (fed_in_turn file run trace (feed_calls bs end))
    ≡ fed_from run trace (feed_onward (nested m) (length trace) bs end (begins (opening_of m run) (run_of m run).entries))
unfolding own_bags fed_from
one-load file m b a run trace end feed bs h =
    let first = begins (opening_of m run) (run_of m run).entries in
    let time = (calls-in-time feed (opening_of m run) end bs h.is_feed h.timed).0 in
    ap (own_bags (length bs)) (calls-load file m b a run trace h.run_fits_lem bs end time)
    ∙ ap (fed_from run trace) (calls-onward (nested m) (length trace) bs end first)
