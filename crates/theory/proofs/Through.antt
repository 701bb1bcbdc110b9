-- Through every list of calls, their feeds being bytes, the root's resultant stands for the saved run and gives each answer: one call of the
-- engine leaves it standing for what it saved, and the rest follows call by call. Assumes nothing.
use mathlib.Core.Path.{◌≡◌, refl, sym, ap, ◌∙◌, subst}
use mathlib.Core.Logic.{◌⊎◌, inl, inr}
use Prim.Native.Nat.{ℕ, ◌≤◌, ◌<◌}
use mathlib.Core.List.{List, [], ◌∷◌}
use mathlib.Core.Bool.{Bool, true, false}
use native.Mathlib.Omega.{arith}
use lib.Dec.{leb, ltb}
use lib.ListN.{length}
use borrow.Author.Tests.{ltb-true, ltb-false, leb-true, leb-false}
use Rattle.definition.specs.Bytes.{Bytes, AllBytes, ok, stored}
use Rattle.definition.specs.Limits.{max_moment}
use Rattle.definition.specs.Model.{Model}
use Rattle.definition.specs.Pinned.Decoder.{accepted}
use Rattle.definition.specs.Devs.{Since, devs_due}
use Rattle.definition.specs.SavedRun.{run_length, atomic_count, run_of, run_bytes, next_due}
use Rattle.definition.specs.Engine.{start_run, start, bag_fits, advanced, read_at}
use Rattle.definition.specs.Calls.{AdvanceCall, Call, FeedOfBytes, start_call, advance_call, feed_call, channels_call, reading_call, advance_answer, called, engine}
use Rattle.definition.specs.Carrying.{root_of, StandsFor, BetweenCalls, at_start, left_by, InTime, Answers, answers_start, refuses_time, refuses_bag, answers_advance, refuses_position, answers_reading, Saved, Through}
use Rattle.definition.specs.Demands.{opening_of, MayAdvance}
use Rattle.definition.specs.Sound.{Every}
use Rattle.law_model.proofs.WellFormed.{WellFormed}
use Rattle.law_model.proofs.Reading.{accepted_sound}
use Rattle.law_calls.proofs.Fitting.{fits_run, start-run}
use Rattle.theory.proofs.WrittenRuns.{beyond, read_back, saved, Follows}
use Rattle.theory.proofs.FeedThrough.{feed-follows}
use Rattle.theory.proofs.FrontChannel.{channels-follow}
use Rattle.theory.proofs.RuleTables.{same-rules}
use Rattle.theory.proofs.Carrying.{due-between}
use Rattle.law_model.proofs.Answers.{start-short, start_done, reading-position, reading_done, end_of, advance-time, advance-bag, advance-done}
use Rattle.theory.proofs.Standing.{start-stands}
use Rattle.theory.proofs.Shown.{run_after, after-fits, carried_ends, carried-alike}

module _ (file : Bytes) (m : Model) (b : AllBytes file) (f : accepted file ≡ ok m) where
  abbrev w : WellFormed m
  w = (accepted_sound file m b f).sound

  -- ---- one call

  start-saved : (buffer : Bytes) → Saved m (at_start m) (stored (run_bytes (start_run m)) buffer)
  unfolding start_run
  start-saved buffer = saved m w (start_run m) (start-run m w) buffer (at_start m).since (start-stands m w)

  start-follows : (q : BetweenCalls m) (run : Bytes) → Saved m q run → Follows m q run start_call (called (engine file) run start_call).0 (called (engine file) run start_call).1
  unfolding called engine
  start-follows q run s =
      rw (start_done file run m f (fits_run m run s.run_fits_lem).1) (at_start m, answers_start, beyond m w (start_run m) (start-run m w) run, start-saved run)

  module _ (q : Since (root_of m)) (run : Bytes) (s : Saved m (record { opening = opening_of m run; since = q }) run) where
    abbrev here : BetweenCalls m
    here = record { opening = opening_of m run; since = q }

    advance-follows : (c : AdvanceCall) → Follows m here run (advance_call c) (called (engine file) run (advance_call c)).0 (called (engine file) run (advance_call c)).1
    unfolding called engine advanced
    advance-follows c = early (ltb c.moment (opening_of m run)) refl
      where
        t : ℕ
        t = c.moment

        Goal : Type 0
        Goal = Follows m here run (advance_call c) (called (engine file) run (advance_call c)).0 (called (engine file) run (advance_call c)).1

        at-time : (t < opening_of m run) ⊎ (max_moment < t) → Goal
        at-time h = rw (advance-time file run t c.bag c.trace c.table m f s.run_fits_lem h) (here, refuses_time c h, refl, s)

        at-bag : InTime (opening_of m run) c → bag_fits c.bag ≡ false → Goal
        at-bag i h = rw (advance-bag file run t c.bag c.trace c.table m f s.run_fits_lem i.not_early i.not_late h) (here, refuses_bag c i h, refl, s)

        done : InTime (opening_of m run) c → bag_fits c.bag ≡ true → Goal
        done i h =
            let a : MayAdvance m run t c.bag = record { run_fits_lem = s.run_fits_lem; not_early = i.not_early; not_late = i.not_late; bag_fits_lem = h } in
            let e = carried_ends run t c.bag c.trace m w a q s.entries in
            let k = carried-alike run t c.bag c.trace m w a q s.entries e.0 e.1 in
            let r = run_after m run t c.bag c.trace in
            let fit = after-fits run t c.bag c.trace m w a in
            let since = e.0.progress.state in
            let rules = same-rules _ _ e.0.progress (end_of m run t c.bag c.trace).progress c.table (sym k.1.state.0.each) k.1.instants k.1.rules in
            rw (advance-done file run t c.bag c.trace c.table m f a) (
              left_by {m = m} e.0,
              subst (λ z. Answers m (length run) here (advance_call c) z (left_by {m = m} e.0))
                  (λ j. advance_answer (k.0 j) (k.1.instants j) (k.1.steps j) (length (k.1.trace j)) (stored (k.1.trace j) c.trace) (rules j)) (answers_advance c e.0 i h e.1),
              beyond m w r fit run,
              subst (λ o. Saved m (record { opening = o; since = since }) (stored (run_bytes r) run)) (sym k.1.opening)
                  (saved m w r fit run since (subst (λ o. StandsFor m o since r.entries) k.1.opening k.1.state.0)),
            )

        bag : InTime (opening_of m run) c → (b : Bool) → bag_fits c.bag ≡ b → Goal
        bag i true h = done i h
        bag i false h = at-bag i h

        late : opening_of m run ≤ t → (b : Bool) → ltb max_moment t ≡ b → Goal
        late l true h = at-time (inr (ltb-true max_moment t h))
        late l false h = bag (record { not_early = l; not_late = ltb-false max_moment t h }) (bag_fits c.bag) refl

        early : (b : Bool) → ltb t (opening_of m run) ≡ b → Goal
        early true h = at-time (inl (ltb-true t (opening_of m run) h))
        early false h = late (ltb-false t (opening_of m run) h) (ltb max_moment t) refl

    reading-follows : (position : ℕ) → Follows m here run (reading_call position) (called (engine file) run (reading_call position)).0 (called (engine file) run (reading_call position)).1
    unfolding called engine read_at
    reading-follows position = go (leb (atomic_count m) position) refl
      where
        due : next_due m (run_of m run).entries ≡ devs_due (root_of m) q
        due = sym (due-between m w (opening_of m run) q (run_of m run).entries (s.entries, (fits_run m run s.run_fits_lem).0.0))

        go : (b : Bool) → leb (atomic_count m) position ≡ b
            → Follows m here run (reading_call position) (called (engine file) run (reading_call position)).0 (called (engine file) run (reading_call position)).1
        go true h =
            let l = leb-true (atomic_count m) position h in
            rw (reading-position file run position m f s.run_fits_lem l) (here, refuses_position position l, refl, s)
        go false h =
            let l = leb-false (atomic_count m) position h in
            rw (reading_done file run position m f s.run_fits_lem l, due) (here, answers_reading position (run_of m run).entries l s.entries, refl, s)

  follows : (q : BetweenCalls m) (run : Bytes) → Saved m q run → (c : Call) → FeedOfBytes c → Follows m q run c (called (engine file) run c).0 (called (engine file) run c).1
  follows q run s c l = subst (λ z. Follows m z run c (called (engine file) run c).0 (called (engine file) run c).1) same (go c l)
    where
      same : ◌≡◌ {A = BetweenCalls m} (record { opening = opening_of m run; since = q.since }) q
      same i = record { opening = s.opening i; since = q.since }

      s' : Saved m (record { opening = opening_of m run; since = q.since }) run
      s' = subst (λ z. Saved m z run) (sym same) s

      go : (c : Call) → FeedOfBytes c → Follows m (record { opening = opening_of m run; since = q.since }) run c (called (engine file) run c).0 (called (engine file) run c).1
      go start_call l = start-follows (record { opening = opening_of m run; since = q.since }) run s'
      go (advance_call c) l = advance-follows q.since run s' c
      go (feed_call c) l = feed-follows file m b f q.since run s' c l
      go (channels_call c) l = channels-follow file m b f (record { opening = opening_of m run; since = q.since }) run s' c
      go (reading_call position) l = reading-follows q.since run s' position

  -- ---- a list of calls

  pub through_calls : (calls : List Call) → Every FeedOfBytes calls → (q : BetweenCalls m) (run : Bytes) → Saved m q run → Through m (engine file) q run calls
  through_calls [] l q run s = s
  through_calls (c ∷ calls) l q run s = let h = follows q run s c l.0 in (s, h.0, h.1, h.2, through_calls calls l.1 h.0 (called (engine file) run c).1 h.3)

  -- what a start that succeeds writes
  start-writes : (buffer : Bytes) → (start file buffer).number ≡ 0 → (start file buffer).buffer ≡ stored (run_bytes (start_run m)) buffer
  start-writes buffer z = go (ltb (length buffer) (run_length (atomic_count m))) refl
    where
      go : (b : Bool) → ltb (length buffer) (run_length (atomic_count m)) ≡ b → (start file buffer).buffer ≡ stored (run_bytes (start_run m)) buffer
      go true l = absurd (omega (arith, z, ap (λ r. r.number) (start-short file buffer m f (ltb-true _ _ l))))
      go false l = ap (λ r. r.buffer) (start_done file buffer m f (ltb-false (length buffer) (run_length (atomic_count m)) l))

  pub start_saves : (buffer : Bytes) → (start file buffer).number ≡ 0 → run_of m (start file buffer).buffer ≡ start_run m
  start_saves buffer z = ap (run_of m) (start-writes buffer z) ∙ read_back m w (start_run m) (start-run m w) buffer

  pub from_start : (buffer : Bytes) → (start file buffer).number ≡ 0 → (calls : List Call) → Every FeedOfBytes calls → Through m (engine file) (at_start m) (start file buffer).buffer calls
  from_start buffer z calls l = through_calls calls l (at_start m) (start file buffer).buffer (subst (Saved m (at_start m)) (sym (start-writes buffer z)) (start-saved buffer))
