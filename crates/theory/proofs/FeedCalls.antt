-- A feed that no row refuses ends as its calls do, one after the other on one run and one trace, and in no other way: it is loaded once (crate
-- law_feed), and each of its calls finds the run kept. Where nothing was done nothing has changed, and the run that it leaves fits. Assumes nothing.
use mathlib.Core.Path.{◌≡◌, refl, sym, ap, ◌∙◌, subst}
use mathlib.Core.Logic.{◌⊎◌, inl, inr}
use Prim.Native.Nat.{ℕ, suc, ◌+◌, ◌≤◌, ◌<◌}
use mathlib.Core.List.{List, [], ◌∷◌, ◌++◌}
use mathlib.Core.Bool.{Bool, true, false, ◌||◌, cond}
use native.Mathlib.Omega.{arith}
use lib.Dec.{ltb, eqb}
use lib.ListN.{length, drop, length-append}
use Rattle.definition.specs.Lists.{is_empty}
use Rattle.definition.specs.Bytes.{Bytes, AllBytes, Result, ok, refused, stored}
use Rattle.definition.specs.Model.{Model}
use Rattle.definition.specs.Pinned.Decoder.{accepted}
use Rattle.definition.specs.Pinned.FeedReader.{feed_of}
use Rattle.definition.specs.SavedRun.{Entry, atomic_count, run_of, run_bytes, run_fits}
use Rattle.definition.specs.Step.{nested}
use Rattle.definition.specs.Advance.{Progress, Ended}
use Rattle.definition.specs.Engine.{Advanced, advance}
use Rattle.definition.specs.Feed.{FeedBag, feed_bytes, last_moment, feed_calls}
use Rattle.definition.specs.FeedCall.{Fed, nothing_fed, stopped_by, followed_by, fed_in_turn, own_bags, advance_feed}
use Rattle.definition.specs.Carrying.{begins}
use Rattle.definition.specs.Demands.{opening_of, MayFeed, FeedEnds, fed_as, FeedRefusal, FeedNumber, feed_by_row, feed_by_calls, feed_refuses_model, feed_refuses_run, feed_refuses_feed, feed_refuses_time}
use Rattle.law_base.proofs.Results.{never-ok}
use Rattle.law_model.proofs.WellFormed.{WellFormed}
use Rattle.law_model.proofs.Reading.{accepted_sound}
use Rattle.law_model.proofs.RunBack.{run-written}
use Rattle.law_calls.proofs.Kept.{BetweenSame}
use Rattle.law_calls.proofs.BagOrder.{agree-order}
use Rattle.law_calls.proofs.Fitting.{FitRun, fits_run, advance_fits_lem}
use Rattle.law_feed.specs.Onward.{Onward, bags_onward, fed_from}
use Rattle.law_feed.proofs.Timed.{InTime, calls-in-time}
use Rattle.law_feed.proofs.FeedBytes.{feed-read, feed-back}
use Rattle.law_feed.proofs.OneLoad.{calls-load}
use Rattle.theory.proofs.CallRows.{row-of}
use Rattle.theory.proofs.FeedRows.{late, mistimed, timed, feed-done, feed_refused, by-checks}
use Rattle.theory.proofs.FeedEnds.{turns-alike, ends-in-turn, only-in-turn, some_left, none_done}

-- at most one call more than there are bags
pub calls-length : (bs : List FeedBag) (end : ℕ) → (length bs ≤ length (feed_calls bs end)) × (length (feed_calls bs end) ≤ suc (length bs))
unfolding feed_calls
calls-length bs end = go (is_empty bs || ltb (last_moment bs) end)
  where
    more : Bool → List FeedBag
    more b = cond b (record { moment = end; bag = [] } ∷ []) []

    go : (b : Bool) → (length bs ≤ length (bs ++ more b)) × (length (bs ++ more b) ≤ suc (length bs))
    go true = (omega (arith, length-append bs (more true)), omega (arith, length-append bs (more true)))
    go false = (omega (arith, length-append bs (more false)), omega (arith, length-append bs (more false)))

module _ (file : Bytes) (m : Model) (b : AllBytes file) (e : accepted file ≡ ok m) where
  abbrev w : WellFormed m
  w = (accepted_sound file m b e).sound

  -- ---- a feed that no row refuses

  module _ (run trace : Bytes) (end : ℕ) (feed : Bytes) (bs : List FeedBag) (h : MayFeed m run end feed bs) where
    abbrev calls : List FeedBag
    calls = feed_calls bs end

    abbrev first : Progress (List Entry)
    first = begins (opening_of m run) (run_of m run).entries

    -- where its calls end, on one progress
    abbrev pub onward : Onward (List Entry)
    onward = bags_onward (nested m) (length trace) calls 0 first

    pub in_time : InTime (opening_of m run) calls
    in_time = (calls-in-time feed (opening_of m run) end bs h.is_feed h.timed).0

    kept : BetweenSame m w (opening_of m run) (run_of m run).entries (run_of m run).entries
    kept = (refl, (fits_run m run h.run_fits_lem).0.0)

    pub onward-ends : (n : ℕ) × FeedEnds m run end trace bs n onward.end × (onward.bags ≡ 0 + n)
    onward-ends = ends-in-turn (agree-order m w) (λ c f p. refl) (length trace) calls 0 first kept in_time

    -- the run that they leave
    pub onward-kept : FitRun m (record { opening = onward.end.progress.opening; entries = onward.end.progress.state })
    onward-kept =
        let t = turns-alike (agree-order m w) (λ c f p. refl) (length trace) calls 0 first first
        (record { opening = refl; state = kept; instants = refl; steps = refl; trace = refl; rules = refl }) (fits_run m run h.run_fits_lem).0.1 in_time in
        (t.progress.state.1, t.not_late)

    -- ---- what it answers, by where they end

    told : (n : ℕ) (z : Ended (List Entry)) → onward ≡ record { bags = 0 + n; end = z } → own_bags (length bs) (fed_in_turn file run trace calls) ≡ fed_as run trace bs n z
    unfolding own_bags fed_from
    told n z q =
        ap (own_bags (length bs)) (calls-load file m b e run trace h.run_fits_lem bs end in_time ∙ ap (fed_from run trace) q)
        ∙ ap (λ i. fed_as run trace bs i z) (let y : 0 + n ≡ n = omega arith in y)

    pub turns-end : (n : ℕ) × (z : Ended (List Entry)) × FeedEnds m run end trace bs n z × (own_bags (length bs) (fed_in_turn file run trace calls) ≡ fed_as run trace bs n z)
    turns-end = let t = onward-ends in (t.0, onward.end, t.1, told t.0 onward.end (λ i. record { bags = t.2 i; end = onward.end }))

    pub turns-only : (n : ℕ) (z : Ended (List Entry)) → FeedEnds m run end trace bs n z → own_bags (length bs) (fed_in_turn file run trace calls) ≡ fed_as run trace bs n z
    turns-only n z t = told n z (only-in-turn (agree-order m w) (λ c f p. refl) (length trace) t 0 kept in_time)

    pub feed_only : (n : ℕ) (z : Ended (List Entry)) → FeedEnds m run end trace bs n z → advance_feed file run end feed trace ≡ fed_as run trace bs n z
    feed_only n z t = feed-done file run end feed trace m e bs h ∙ turns-only n z t

    -- where no call has succeeded and no instant stands, the buffers are as they were
    unchanged : AllBytes run → (let f = own_bags (length bs) (fed_in_turn file run trace (feed_calls bs end)) in 0 < f.number → f.bags ≡ 0 → f.instants ≡ 0 → f ≡ nothing_fed f.number run trace)
    unfolding nothing_fed stored run_of
    unchanged r = subst (λ (f : Fed). 0 < f.number → f.bags ≡ 0 → f.instants ≡ 0 → f ≡ nothing_fed f.number run trace) (sym t.3) go
      where
        t : (n : ℕ) × (z : Ended (List Entry)) × FeedEnds m run end trace bs n z × (own_bags (length bs) (fed_in_turn file run trace calls) ≡ fed_as run trace bs n z)
        t = turns-end

        z : Ended (List Entry)
        z = t.1

        go : (let f = fed_as run trace bs t.0 z in 0 < f.number → f.bags ≡ 0 → f.instants ≡ 0 → f ≡ nothing_fed f.number run trace)
        go l none still = stands (none_done t.2 l (omega (arith, none, some_left t.2 l, (calls-length bs end).1)))
          where
            stands : (z.progress ≡ first) ⊎ (first.instants < z.progress.instants) → fed_as run trace bs t.0 z ≡ nothing_fed z.number run trace
            stands (inl q) = let f = fits_run m run h.run_fits_lem in λ i. record {
              number = z.number;
              bags = none i;
              instants = still i;
              steps = (q i).steps;
              used = length (q i).trace;
              run = (ap (λ (p : Progress (List Entry)). stored (run_bytes (record { opening = p.opening; entries = p.state })) run) q ∙ run-written (atomic_count m) f.1 f.2 r) i;
              trace = stored (q i).trace trace;
            }
            stands (inr l) = absurd (omega arith)

  pub nothing_fed_lem : (run : Bytes) (end : ℕ) (feed trace : Bytes) → AllBytes run → 0 < (advance_feed file run end feed trace).number → (advance_feed file run end feed trace).bags ≡ 0
      → (advance_feed file run end feed trace).instants ≡ 0 → advance_feed file run end feed trace ≡ nothing_fed (advance_feed file run end feed trace).number run trace
  nothing_fed_lem run end feed trace r =
      by-checks file run end feed trace m e (λ f. 0 < f.number → f.bags ≡ 0 → f.instants ≡ 0 → f ≡ nothing_fed f.number run trace)
      (λ n l y i. unfold nothing_fed in refl) (λ bs h. unchanged run trace end (feed_bytes bs) bs h r)

  -- ---- the run that is left fits, whatever was given

  turns_fit : (cs : List FeedBag) (run trace : Bytes) → run_fits m run ≡ true → run_fits m (fed_in_turn file run trace cs).run ≡ true
  unfolding fed_in_turn nothing_fed followed_by stopped_by
  turns_fit [] run trace h = h
  turns_fit (c ∷ cs) run trace h = go (eqb a.number 0) (turns_fit cs a.run (drop a.used a.trace) still)
    where
      a : Advanced
      a = advance file run c.moment c.bag trace []

      still : run_fits m a.run ≡ true
      still = advance_fits_lem file run c.moment c.bag trace [] m b e h

      on : Fed
      on = fed_in_turn file a.run (drop a.used a.trace) cs

      go : (z : Bool) → run_fits m on.run ≡ true → run_fits m (cond z (followed_by a on) (stopped_by a)).run ≡ true
      go true k = k
      go false k = still

  pub feed_fits : (run : Bytes) (end : ℕ) (feed trace : Bytes) → run_fits m run ≡ true → run_fits m (advance_feed file run end feed trace).run ≡ true
  unfolding nothing_fed own_bags
  feed_fits run end feed trace h = by-checks file run end feed trace m e (λ f. run_fits m f.run ≡ true) (λ n. h) (λ bs k. turns_fit (feed_calls bs end) run trace h)

-- ---- the number of any feed

module _ (file run : Bytes) (end : ℕ) (feed trace : Bytes) (b : AllBytes file) (c : AllBytes feed) where
  abbrev Told : Type 0
  Told = FeedNumber file run end feed trace (advance_feed file run end feed trace).number

  number-row : (n : ℕ) → FeedRefusal file run end feed n → Told
  unfolding nothing_fed
  number-row n r = subst (FeedNumber file run end feed trace) (sym (ap (λ (f : Fed). f.number) (feed_refused file run end feed trace n c r))) (feed_by_row n r)

  number-calls : (m : Model) (bs : List FeedBag) → accepted file ≡ ok m → MayFeed m run end feed bs → Told
  number-calls m bs e h =
      let t = turns-end file m b e run trace end feed bs h in
      subst (FeedNumber file run end feed trace) (sym (ap (λ (f : Fed). f.number) (feed-done file run end feed trace m e bs h ∙ t.3)))
      (feed_by_calls m bs t.0 t.1 e h t.2)

  pub feed_number : Told
  feed_number = model (accepted file) refl
    where
      times : (m : Model) → accepted file ≡ ok m → (f : run_fits m run ≡ true) (bs : List FeedBag) → feed_of feed ≡ ok bs → (z : Bool) → late (opening_of m run) end bs ≡ z → Told
      times m e f bs g true l = number-row 11 (feed_refuses_time m bs e f (feed-read feed bs c g) (mistimed (opening_of m run) end bs l))
      times m e f bs g false l = number-calls m bs e (record { run_fits_lem = f; is_feed = feed-read feed bs c g; timed = timed (opening_of m run) end bs l })

      bags : (m : Model) → accepted file ≡ ok m → run_fits m run ≡ true → (s : Result (List FeedBag)) → feed_of feed ≡ s → Told
      bags m e f (refused n) g = number-row 19 (feed_refuses_feed m e f (λ bs k. never-ok n bs (sym g ∙ feed-back feed bs k)))
      bags m e f (ok bs) g = times m e f bs g (late (opening_of m run) end bs) refl

      saved : (m : Model) → accepted file ≡ ok m → (z : Bool) → run_fits m run ≡ z → Told
      saved m e false f = number-row 10 (feed_refuses_run m e f)
      saved m e true f = bags m e f (feed_of feed) refl

      model : (s : Result Model) → accepted file ≡ s → Told
      model (refused n) e = let h = row-of file n b e in number-row n (feed_refuses_model n h.0 h.1)
      model (ok m) e = saved m e (run_fits m run) refl
