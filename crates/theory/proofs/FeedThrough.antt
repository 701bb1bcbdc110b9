-- A feed of bytes, beside the root's resultant that stands for the saved run: the resultant, carried through all calls of the feed, ends as they
-- do, gives the answer and stands for the run that is left. Assumes nothing.
use mathlib.Core.Path.{◌≡◌, refl, sym, ap, ◌∙◌, subst}
use Prim.Native.Nat.{ℕ, ◌+◌, min}
use mathlib.Core.List.{List}
use mathlib.Core.Bool.{Bool, true, false}
use native.Mathlib.Omega.{arith}
use lib.ListN.{length, drop}
use Rattle.definition.specs.Bytes.{Bytes, AllBytes, Result, ok, refused, stored}
use Rattle.definition.specs.Model.{Model}
use Rattle.definition.specs.Pinned.Decoder.{accepted}
use Rattle.definition.specs.Pinned.FeedReader.{feed_of}
use Rattle.definition.specs.Devs.{Since}
use Rattle.definition.specs.SavedRun.{Entry, Run, run_length, atomic_count, run_of, run_bytes}
use Rattle.definition.specs.AdvanceRelation.{EndsInTurn}
use Rattle.definition.specs.Feed.{FeedBag, feed_calls}
use Rattle.definition.specs.FeedCall.{Fed, nothing_fed, fed_in_turn, own_bags}
use Rattle.definition.specs.Calls.{FeedCall, feed_call, feed_answer, called, engine}
use Rattle.definition.specs.Carrying.{carried, root_of, StandsFor, BetweenCalls, begins, left_by, Answers, refuses_feed, refuses_feed_time, answers_feed, Saved}
use Rattle.definition.specs.Demands.{opening_of, MayFeed, fed_as}
use Rattle.law_base.proofs.Results.{never-ok}
use Rattle.law_model.proofs.WellFormed.{WellFormed}
use Rattle.law_model.proofs.Reading.{accepted_sound}
use Rattle.law_calls.proofs.Fitting.{FitRun, fits_run}
use Rattle.law_feed.specs.Onward.{Onward, bags_onward}
use Rattle.law_feed.proofs.FeedBytes.{feed-read, feed-back, no-feed}
use Rattle.theory.proofs.Carrying.{BetweenStands, agree-self, agree-carried}
use Rattle.theory.proofs.WrittenRuns.{beyond, saved, Follows}
use Rattle.theory.proofs.FeedRows.{late, mistimed, timed, feed-none, feed-time, feed-done}
use Rattle.theory.proofs.FeedEnds.{TurnsAlike, turns-alike, ends-in-turn}
use Rattle.theory.proofs.FeedCalls.{onward, in_time, onward-ends, onward-kept, turns-only}

module _ (file : Bytes) (m : Model) (b : AllBytes file) (e : accepted file ≡ ok m) (q : Since (root_of m)) (run : Bytes)
    (s : Saved m (record { opening = opening_of m run; since = q }) run) (c : FeedCall) where
  abbrev w : WellFormed m
  w = (accepted_sound file m b e).sound

  abbrev here : BetweenCalls m
  here = record { opening = opening_of m run; since = q }

  -- ---- through the calls of a feed

  module _ (bs : List FeedBag) (h : MayFeed m run c.end c.feed bs) where
    abbrev calls : List FeedBag
    calls = feed_calls bs c.end

    -- the saved run's progress, and the resultant's
    abbrev entries : Onward (List Entry)
    entries = onward file m b e run c.trace c.end c.feed bs h

    abbrev since : Onward (Since (root_of m))
    since = bags_onward (carried m) (length c.trace) calls 0 (begins (opening_of m run) q)

    stands : BetweenStands m w (opening_of m run) q (run_of m run).entries
    stands = (s.entries, (fits_run m run h.run_fits_lem).0.0)

    since-ends : (n : ℕ) × EndsInTurn (carried m) (length c.trace) calls (begins (opening_of m run) q) n since.end × (since.bags ≡ 0 + n)
    since-ends =
        ends-in-turn (agree-self (agree-carried m w)) (λ c f. refl) (length c.trace) calls 0 (begins (opening_of m run) q) (refl, (run_of m run).entries, stands)
        (in_time file m b e run c.trace c.end c.feed bs h)

    alike : TurnsAlike (BetweenStands m w) since entries
    alike =
        turns-alike (agree-carried m w) (λ c f. refl) (length c.trace) calls 0 (begins (opening_of m run) q) (begins (opening_of m run) (run_of m run).entries)
        (record { opening = refl; state = stands; instants = refl; steps = refl; trace = refl; rules = refl }) (fits_run m run h.run_fits_lem).0.1
        (in_time file m b e run c.trace c.end c.feed bs h)

    -- what the engine gives
    abbrev fed : Fed
    fed = own_bags (length bs) (fed_in_turn file run c.trace calls)

    told : fed ≡ fed_as run c.trace bs (onward-ends file m b e run c.trace c.end c.feed bs h).0 entries.end
    told =
        let t = onward-ends file m b e run c.trace c.end c.feed bs h in
        turns-only file m b e run c.trace c.end c.feed bs h t.0 entries.end t.1

    answers : Answers m (length run) here (feed_call c) (feed_answer fed.number fed.bags fed.instants fed.steps fed.used fed.trace) (left_by {m = m} since.end)
    answers = subst (λ a. Answers m (length run) here (feed_call c) a (left_by {m = m} since.end)) same (answers_feed c bs n since.end h.is_feed h.timed since-ends.1)
      where
        n : ℕ
        n = since-ends.0

        as_many : n ≡ (onward-ends file m b e run c.trace c.end c.feed bs h).0
        as_many = omega (arith, since-ends.2, alike.bags, (onward-ends file m b e run c.trace c.end c.feed bs h).2)

        same : feed_answer since.end.number (min n (length bs)) since.end.progress.instants since.end.progress.steps (length since.end.progress.trace)
            (stored since.end.progress.trace c.trace) ≡ feed_answer fed.number fed.bags fed.instants fed.steps fed.used fed.trace
        same =
            (λ i. feed_answer (alike.number i) (min (as_many i) (length bs)) (alike.progress.instants i) (alike.progress.steps i) (length (alike.progress.trace i))
            (stored (alike.progress.trace i) c.trace))
            ∙ sym (ap (λ (f : Fed). feed_answer f.number f.bags f.instants f.steps f.used f.trace) told)

    -- the run that is left
    abbrev left : Run
    left = record { opening = entries.end.progress.opening; entries = entries.end.progress.state }

    fit : FitRun m left
    fit = onward-kept file m b e run c.trace c.end c.feed bs h

    run_left : fed.run ≡ stored (run_bytes left) run
    run_left = ap (λ (f : Fed). f.run) told

    beyond-it : drop (run_length (atomic_count m)) fed.run ≡ drop (run_length (atomic_count m)) run
    beyond-it = ap (drop (run_length (atomic_count m))) run_left ∙ beyond m w left fit run

    -- the resultant stands for it
    stands-for : StandsFor m left.opening since.end.progress.state left.entries
    stands-for = subst (λ o. StandsFor m o since.end.progress.state left.entries) alike.progress.opening alike.progress.state.0

    saves : Saved m (left_by {m = m} since.end) fed.run
    saves =
        subst (λ o. Saved m (record { opening = o; since = since.end.progress.state }) fed.run) (sym alike.progress.opening)
        (subst (Saved m (record { opening = left.opening; since = since.end.progress.state })) (sym run_left) (saved m w left fit run since.end.progress.state stands-for))

    runs : Follows m here run (feed_call c) (called (engine file) run (feed_call c)).0 (called (engine file) run (feed_call c)).1
    unfolding called engine
    runs = rw (feed-done file run c.end c.feed c.trace m e bs h) (left_by {m = m} since.end, answers, beyond-it, saves)

  -- ---- any feed of bytes

  pub feed-follows : AllBytes c.feed → Follows m here run (feed_call c) (called (engine file) run (feed_call c)).0 (called (engine file) run (feed_call c)).1
  unfolding called engine nothing_fed
  feed-follows l = bags (feed_of c.feed) refl
    where
      Goal : Type 0
      Goal = Follows m here run (feed_call c) (called (engine file) run (feed_call c)).0 (called (engine file) run (feed_call c)).1

      none : feed_of c.feed ≡ refused 19 → Goal
      none g =
          rw (feed-none file run c.end c.feed c.trace m e s.run_fits_lem g)
          (here, refuses_feed c (λ bs k. never-ok 19 bs (sym g ∙ feed-back c.feed bs k)), refl, s)

      times : (bs : List FeedBag) → feed_of c.feed ≡ ok bs → (z : Bool) → late (opening_of m run) c.end bs ≡ z → Goal
      times bs g true t =
          let is = feed-read c.feed bs l g in
          let out = mistimed (opening_of m run) c.end bs t in
          rw (feed-time file run c.end c.feed c.trace m e s.run_fits_lem bs is out) (here, refuses_feed_time c bs is out, refl, s)
      times bs g false t = runs bs (record { run_fits_lem = s.run_fits_lem; is_feed = feed-read c.feed bs l g; timed = timed (opening_of m run) c.end bs t })

      bags : (r : Result (List FeedBag)) → feed_of c.feed ≡ r → Goal
      bags (refused n) g = none (g ∙ ap refused (no-feed c.feed n g))
      bags (ok bs) g = times bs g (late (opening_of m run) c.end bs) refl
