-- The flat machine's own feed, on a model that is its own flat form, is the engine's: its one stage that goes on from bag to bag is at every call
-- the progress written into the lent buffers. Assumes nothing.
use mathlib.Core.Path.{◌≡◌, refl, sym, ap, ◌∙◌, subst}
use mathlib.Core.Logic.{inl}
use Prim.Native.Nat.{ℕ, suc, ◌≤◌}
use mathlib.Core.List.{List, [], ◌∷◌}
use mathlib.Core.Bool.{Bool, true, false, ◌&&◌, ◌||◌, cond}
use native.Mathlib.Omega.{arith}
use lib.Dec.{ltb, eqb}
use lib.ListN.{length, length-map}
use borrow.Author.Tests.{ltb-true, eqb-true}
use Rattle.definition.specs.Lists.{all, is_empty}
use Rattle.definition.specs.Bytes.{Bytes, AllBytes, Result, ok, refused, ◌>>=◌, stored}
use Rattle.definition.specs.Limits.{max_moment}
use Rattle.definition.specs.Model.{Bag, Model, atomics}
use Rattle.definition.specs.Records.{port_fits}
use Rattle.definition.specs.Pinned.Decoder.{accepted}
use Rattle.definition.specs.SavedRun.{Entry, atomic_count, run_of, run_fits}
use Rattle.definition.specs.Step.{nested, step, step_on, decided_in_file_order}
use Rattle.definition.specs.Advance.{Progress, Ended, ended, advancing}
use Rattle.definition.specs.Engine.{to_bag, with_rules}
use Rattle.definition.specs.Flatten.{flat}
use Rattle.definition.specs.Feed.{FeedBag, feed_bytes, FeedTimed, last_moment, first_moment, feed_calls}
use Rattle.definition.specs.FeedCall.{Fed, fed_in_turn, own_bags, fed_or, feed_checks, advance_feed}
use Rattle.definition.specs.FlatMachine.{Stage, in_turn, Turned, bags_in_turn, to_the_end, turned, flat_feed}
use Rattle.definition.specs.Carrying.{begins}
use Rattle.definition.specs.Demands.{opening_of, MayFeed}
use Rattle.law_base.proofs.Tests.{and_left, and_right}
use Rattle.law_model.proofs.WellFormed.{WellFormed}
use Rattle.law_model.proofs.RunBack.{run-written}
use Rattle.law_nest.proofs.Pairs.{pairs-length}
use Rattle.law_flat.proofs.Checks.{bag-fine}
use Rattle.law_calls.proofs.Lift.{EndsAlike, advancing-alike, ends-equal}
use Rattle.law_calls.proofs.Kept.{Fit, BetweenSame}
use Rattle.law_calls.proofs.BagOrder.{agree-order}
use Rattle.law_calls.proofs.Ending.{ends}
use Rattle.law_calls.proofs.Fitting.{fits_run}
use Rattle.law_feed.specs.Onward.{Onward, bags_onward, end_onward, feed_onward, fed_from}
use Rattle.law_feed.proofs.Timed.{InTime, open_after, time-sooner, after_last, bags-in-time}
use Rattle.law_feed.proofs.Bounded.{advancing-bounded}
use Rattle.law_feed.proofs.OneLoad.{one-load}
use Rattle.theory.proofs.Agreement.{levelled}
use Rattle.theory.proofs.RuleTables.{Long, long-ends}
use Rattle.theory.proofs.FlatLoops.{agree-self, no-ports}
use Rattle.theory.proofs.FlatStages.{to_stage, answer, in-turn}
use Rattle.theory.proofs.FeedRows.{may-run}
use Rattle.theory.proofs.FeedEnds.{ends-in-turn, all_done}

module _ (m : Model) (w : WellFormed m) (self : flat m ≡ m) where
  -- the lent buffers are the first stage
  pub first-stage : (run trace table : Bytes) → AllBytes run → run_fits m run ≡ true
      → to_stage m w self run trace table (begins (opening_of m run) (run_of m run).entries) ≡ record { state = run; trace = trace; table = table; instants = 0; steps = 0; used = 0 }
  unfolding to_stage stored run_of with_rules
  first-stage run trace table b h =
      let f = fits_run m run h in
      λ i. record { state = run-written (atomic_count m) f.1 f.2 b i; trace = trace; table = table; instants = 0; steps = 0; used = 0 }

  module _ (run₀ trace₀ : Bytes) where
    abbrev room : ℕ
    room = length trace₀

    abbrev stage : Progress (List Entry) → Stage
    stage p = to_stage m w self run₀ trace₀ [] p

    -- ---- one call, from where the ones before it stand

    abbrev Rests : Progress (List Entry) → Type 0
    Rests p = Fit m p.opening p.state × (length p.trace ≤ room) × Long (length (atomics m.components)) p

    each : (p : Progress (List Entry)) → Rests p → length p.state ≡ length (atomics m.components)
    each p h = pairs-length _ (atomics m.components) p.state h.0

    module _ (t : ℕ) (last : t ≤ max_moment) (x : Bag) (ports : all port_fits x ≡ true) (p : Progress (List Entry)) (h : Rests p) (o : p.opening ≤ t) where
      abbrev z : Ended (List Entry)
      z = advancing (nested m) room t x (suc t) p

      alike : EndsAlike (BetweenSame m w) t z (advancing (levelled m) room t x (suc t) p)
      alike =
          advancing-alike (agree-self m w self) room t x x (refl, ports) (suc t) p p
          (record { opening = refl; state = (refl, h.0); instants = refl; steps = refl; trace = refl; rules = refl }) o

      turn : in_turn m t x (suc t) (stage p) ≡ (z.number, stage z.progress)
      turn =
          in-turn m w self run₀ trace₀ [] t last x ports (suc t) p (h.0, o, h.1, subst (λ n. Long n p) (sym (each p h)) h.2)
          ∙ ap (answer m w self run₀ trace₀ []) (sym (ends-equal {Between = BetweenSame m w} {t = t} _ _ (λ o rs qs y. y.0) alike))

      rests : Rests z.progress
      unfolding step step_on decided_in_file_order
      rests = (
        alike.1.state.1,
        (advancing-bounded (nested m) room t x (suc t) p h.1).trace,
        long-ends (nested m) (length (atomics m.components)) (λ now y s. length-map (atomics m.components) _) room t x
            (ends (agree-order m w) room t x (suc t) p (refl, h.0) o (omega arith)) h.2,
      )

    -- ---- the bags' own calls

    abbrev staged : Onward (List Entry) → Turned
    staged q = record { bags = q.bags; number = q.end.number; stage = stage q.end.progress }

    bags-staged : (bs : List FeedBag) (n : ℕ) (p : Progress (List Entry)) → Rests p → InTime p.opening bs
        → (bags_in_turn m bs n (stage p) ≡ staged (bags_onward (nested m) room bs n p)) × Rests (bags_onward (nested m) room bs n p).end.progress
    unfolding bags_in_turn bags_onward ended
    bags-staged [] n p h t = (refl, h)
    bags-staged (b ∷ bs) n p h t =
        let on = go (eqb y.number 0)
        (bags-staged bs (suc n) y.progress still
        (time-sooner y.progress.opening (suc b.moment) bs (alike b.moment t.1 (to_bag b.bag) ports p h t.0).2 t.3)) in
        (ap (λ (r : ℕ × Stage). cond (eqb r.0 0) (bags_in_turn m bs (suc n) r.1) (record { bags = n; number = r.0; stage = r.1 })) (turn b.moment t.1 (to_bag b.bag) ports p h t.0) ∙ on.0, on.1)
      where
        y : Ended (List Entry)
        y = advancing (nested m) room b.moment (to_bag b.bag) (suc b.moment) p

        ports : all port_fits (to_bag b.bag) ≡ true
        ports = bag-fine b.bag t.2

        still : Rests y.progress
        still = rests b.moment t.1 (to_bag b.bag) ports p h t.0

        on : Onward (List Entry)
        on = bags_onward (nested m) room bs (suc n) y.progress

        go : (c : Bool) → (bags_in_turn m bs (suc n) (stage y.progress) ≡ staged on) × Rests on.end.progress
            → (cond c (bags_in_turn m bs (suc n) (stage y.progress)) (record { bags = n; number = y.number; stage = stage y.progress })
            ≡ staged (cond c on (record { bags = n; end = y }))) × Rests (cond c on (record { bags = n; end = y })).end.progress
        go true k = k
        go false k = (refl, still)

    -- ---- the call to the end

    end-staged : (bs : List FeedBag) (end : ℕ) (o : Onward (List Entry)) → end ≤ max_moment → Rests o.end.progress
        → (o.end.number ≡ 0 → (is_empty bs || ltb (last_moment bs) end) ≡ true → o.end.progress.opening ≤ end)
        → to_the_end m bs end (staged o) ≡ staged (end_onward (nested m) room bs end o)
    unfolding to_the_end end_onward
    end-staged bs end o l h opens = go (eqb o.end.number 0 && more) refl
      where
        more : Bool
        more = is_empty bs || ltb (last_moment bs) end

        p : Progress (List Entry)
        p = o.end.progress

        y : Ended (List Entry)
        y = advancing (nested m) room end [] (suc end) p

        went : ℕ × Stage
        went = in_turn m end [] (suc end) (stage p)

        go : (c : Bool) → (eqb o.end.number 0 && more) ≡ c
            → cond c (record { bags = o.bags; number = went.0; stage = went.1 }) (staged o) ≡ staged (cond c (record { bags = o.bags; end = y }) o)
        go true e =
            let now = opens (eqb-true o.end.number 0 (and_left (eqb o.end.number 0) more e)) (and_right (eqb o.end.number 0) more e) in
            ap (λ (r : ℕ × Stage). record { bags = o.bags; number = r.0; stage = r.1 }) (turn end l [] no-ports p h now)
        go false e = refl

    -- ---- both, from the saved run

    module _ (end : ℕ) (feed : Bytes) (bs : List FeedBag) (h : MayFeed m run₀ end feed bs) where
      abbrev first : Progress (List Entry)
      first = begins (opening_of m run₀) (run_of m run₀).entries

      abbrev own_calls : Onward (List Entry)
      own_calls = bags_onward (nested m) room bs 0 first

      in_time : InTime (opening_of m run₀) bs
      in_time = bags-in-time feed (opening_of m run₀) end bs h.is_feed h.timed

      first-rests : Rests first
      first-rests = ((fits_run m run₀ h.run_fits_lem).0.0, omega arith, inl refl)

      -- where the bags' own calls have succeeded, the end is open
      end-open : own_calls.end.number ≡ 0 → (is_empty bs || ltb (last_moment bs) end) ≡ true → own_calls.end.progress.opening ≤ end
      unfolding open_after first_moment is_empty
      end-open n l =
          let t = ends-in-turn (agree-order m w) (λ c f p. refl) room bs 0 first (refl, first-rests.0) in_time in
          omega (arith, (all_done t.1 n).1, after bs h.timed l)
        where
          after : (bs : List FeedBag) → FeedTimed (opening_of m run₀) end bs → (is_empty bs || ltb (last_moment bs) end) ≡ true → open_after (opening_of m run₀) bs ≤ end
          after [] t l = t.not_early
          after (b ∷ bs) t l = omega (arith, after_last (opening_of m run₀) b bs, ltb-true (last_moment (b ∷ bs)) end l)

      pub feed-staged : turned (to_the_end m bs end (bags_in_turn m bs 0 (stage first))) ≡ fed_from run₀ trace₀ (feed_onward (nested m) room bs end first)
      unfolding turned fed_from feed_onward to_stage
      feed-staged =
          let k = bags-staged bs 0 first first-rests in_time in
          ap turned (ap (to_the_end m bs end) k.0 ∙ end-staged bs end own_calls h.timed.not_late k.1 end-open)

-- ---- the feed

module _ (file : Bytes) (m : Model) (b : AllBytes file) (e : accepted file ≡ ok m) (w : WellFormed m) (self : flat m ≡ m) where
  pub feed-self : (run : Bytes) (end : ℕ) (feed trace : Bytes) → AllBytes run → advance_feed file run end feed trace ≡ flat_feed file run end feed trace
  unfolding advance_feed flat_feed
  feed-self run end feed trace r = rw e (go (feed_checks m run end feed) refl)
    where
      lent : Stage
      lent = record { state = run; trace = trace; table = []; instants = 0; steps = 0; used = 0 }

      go : (c : Result (List FeedBag)) → feed_checks m run end feed ≡ c
          → fed_or run trace (feed_checks m run end feed >>= λ bs. ok (own_bags (length bs) (fed_in_turn file run trace (feed_calls bs end))))
          ≡ fed_or run trace (feed_checks m run end feed >>= λ bs. ok (turned (to_the_end m bs end (bags_in_turn m bs 0 lent))))
      go (refused n) h = rw h
      go (ok bs) h =
          let may = may-run m run end feed bs h in
          rw h (ap (λ (f : Fed). fed_or run trace (ok f))
          (one-load file m b e run trace end (feed_bytes bs) bs may
          ∙ sym (ap (λ (g : Stage). turned (to_the_end m bs end (bags_in_turn m bs 0 g))) (sym (first-stage m w self run trace [] r may.run_fits_lem))
          ∙ feed-staged m w self run trace end (feed_bytes bs) bs may)))
