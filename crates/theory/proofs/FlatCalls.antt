-- On a model that is its own flat form the engine and the flat machine answer every list of calls alike, over every run buffer of bytes.
-- Assumes nothing.
use mathlib.Core.Path.{◌≡◌, refl, sym, ap, ◌∙◌}
use mathlib.Core.Logic.{inl}
use Prim.Native.Nat.{ℕ, suc, ◌≤◌}
use mathlib.Core.List.{List, [], ◌∷◌}
use mathlib.Core.Bool.{true}
use native.Mathlib.Omega.{arith}
use lib.ListN.{length}
use Rattle.definition.specs.Lists.{all}
use Rattle.definition.specs.Bytes.{Bytes, AllBytes, Result, ok, refused, ◌>>=◌}
use Rattle.definition.specs.Model.{Bag, Model}
use Rattle.definition.specs.Records.{port_fits}
use Rattle.definition.specs.Pinned.Decoder.{accepted}
use Rattle.definition.specs.SavedRun.{Entry, run_of}
use Rattle.definition.specs.Step.{nested}
use Rattle.definition.specs.Advance.{Progress, Ended, advance_from}
use Rattle.definition.specs.Engine.{WasRead, start, Advanced, advance_checks, advanced, advance, to_bag, reading}
use Rattle.definition.specs.Flatten.{flat}
use Rattle.definition.specs.FlatMachine.{in_turn, answered, flat_advance, flat_start, flat_reading}
use Rattle.definition.specs.Calls.{advance_answer, feed_answer, channels_answer, reading_answer, Call, start_call, advance_call, feed_call, channels_call, reading_call, called, run_calls, engine, flat_machine}
use Rattle.definition.specs.FeedCall.{Fed}
use Rattle.definition.specs.Channels.{Channelled}
use Rattle.law_model.proofs.WellFormed.{WellFormed}
use Rattle.law_flat.proofs.Checks.{run_length_lem, advance-ok, bag-fine}
use Rattle.law_calls.proofs.Lift.{advance-alike, ends-equal}
use Rattle.law_calls.proofs.Kept.{Fit, BetweenSame}
use Rattle.theory.proofs.Agreement.{levelled, due-same, agree-flat}
use Rattle.law_calls.proofs.Fitting.{fits_run}
use Rattle.theory.proofs.RunBuffers.{start-bytes, advance-bytes, feed-bytes, channels-bytes}
use Rattle.theory.proofs.FlatStages.{to_stage, answer, in-turn}
use Rattle.theory.proofs.FlatFeeds.{first-stage, feed-self}
use Rattle.theory.proofs.SameChannels.{channels-self}

-- An advance of the nest is one of the flat step on the flat form.
pub lifted : (m : Model) (w : WellFormed m) (o : ℕ) (rs : List Entry) (room t : ℕ) (x : Bag) → Fit m o rs → o ≤ t → all port_fits x ≡ true
    → advance_from (nested m) room t x o rs ≡ advance_from (levelled (flat m)) room t x o rs
lifted m w o rs room t x f l ports =
    ends-equal {Between = BetweenSame m w} {t = t} _ _ (λ o rs qs z. z.0) (advance-alike (agree-flat m w) room t x x (refl, ports) o rs rs (refl, f) l)

module _ (file : Bytes) (m : Model) (l : AllBytes file) (e : accepted file ≡ ok m) (w : WellFormed m) (self : flat m ≡ m) where
  -- ---- one call

  module _ (run : Bytes) (t : ℕ) (bag trace table : Bytes) (b : AllBytes run) (h : advance_checks m run t bag ≡ ok tt) where
    abbrev first : Progress (List Entry)
    first = record { opening = (run_of m run).opening; state = (run_of m run).entries; instants = 0; steps = 0; trace = []; rules = [] }

    own-loops : in_turn m t (to_bag bag) (suc t) (record { state = run; trace = trace; table = table; instants = 0; steps = 0; used = 0 })
        ≡ answer m w self run trace table (advance_from (nested m) (length trace) t (to_bag bag) (run_of m run).opening (run_of m run).entries)
    unfolding advance_from
    own-loops =
        let c = advance-ok m run t bag h in
        let ports = bag-fine bag c.bag_fits_lem in
        let f = (fits_run m run c.run_fits_lem).0.0 in
        ap (in_turn m t (to_bag bag) (suc t)) (sym (first-stage m w self run trace table b c.run_fits_lem))
        ∙ in-turn m w self run trace table t c.not_late (to_bag bag) ports (suc t) first (f, c.not_early, omega arith, inl refl)
        ∙ ap (answer m w self run trace table) (sym (lifted m w (run_of m run).opening (run_of m run).entries (length trace) t (to_bag bag) f c.not_early ports
        ∙ ap (λ k. advance_from (levelled k) (length trace) t (to_bag bag) (run_of m run).opening (run_of m run).entries) self))

  answers : (run trace table : Bytes) (a : Ended (List Entry)) → answered run trace table (ok (answer m w self run trace table a)) ≡ advanced run trace table (ok a)
  unfolding answered advanced to_stage
  answers run trace table a = refl

  advance-self : (run : Bytes) (t : ℕ) (bag trace table : Bytes) → AllBytes run → advance file run t bag trace table ≡ flat_advance file run t bag trace table
  unfolding advance flat_advance
  advance-self run t bag trace table b = rw e (go (advance_checks m run t bag) refl)
    where
      go : (r : Result (Unit {0})) → advance_checks m run t bag ≡ r
          → advanced run trace table (advance_checks m run t bag >>= λ _. ok (advance_from (nested m) (length trace) t (to_bag bag) (run_of m run).opening (run_of m run).entries))
          ≡ answered run trace table (advance_checks m run t bag >>= λ _. ok (in_turn m t (to_bag bag) (suc t) (record { state = run; trace = trace; table = table; instants = 0; steps = 0; used = 0 })))
      go (refused n) h = rw h (unfold answered advanced in refl)
      go (ok u) h = rw (h, own-loops run t bag trace table b h) (sym (answers run trace table _))

  reading-self : (run : Bytes) (position : ℕ) → reading file run position ≡ flat_reading file run position
  unfolding reading flat_reading
  reading-self run position = rw (e, due-same m w (run_of m run).entries (run_length_lem m run), self)

  pub called-self : (run : Bytes) (c : Call) → AllBytes run → called (engine file) run c ≡ called (flat_machine file) run c
  unfolding called engine flat_machine
  called-self run start_call h = unfold start flat_start in refl
  called-self run (advance_call c) h =
      ap (λ (r : Advanced). (advance_answer r.number r.instants r.steps r.used r.trace r.table, r.run)) (advance-self run c.moment c.bag c.trace c.table h)
  called-self run (feed_call c) h =
      ap (λ (r : Fed). (feed_answer r.number r.bags r.instants r.steps r.used r.trace, r.run)) (feed-self file m l e w self run c.end c.feed c.trace h)
  called-self run (channels_call b) h =
      ap (λ (r : Channelled). (channels_answer r.number r.answers r.traces, r.runs)) (channels-self m w self file e run b h)
  called-self run (reading_call position) h =
      ap (λ (r : WasRead). (reading_answer r.number r.phase r.last r.due, run)) (reading-self run position)

  pub call-bytes : (run : Bytes) (c : Call) → AllBytes run → AllBytes (called (engine file) run c).1
  unfolding called engine
  call-bytes run start_call h = start-bytes file run h
  call-bytes run (advance_call c) h = advance-bytes file run c.moment c.bag c.trace c.table h
  call-bytes run (feed_call c) h = feed-bytes file run c.end c.feed c.trace h
  call-bytes run (channels_call b) h = channels-bytes file run b h
  call-bytes run (reading_call position) h = h

  -- ---- every list of calls

  pub calls-self : (calls : List Call) (run : Bytes) → AllBytes run → run_calls (engine file) run calls ≡ run_calls (flat_machine file) run calls
  unfolding run_calls
  calls-self [] run h = refl
  calls-self (c ∷ cs) run h =
      let q = called-self run c h in
      let rest : run_calls (engine file) (called (engine file) run c).1 cs ≡ run_calls (flat_machine file) (called (flat_machine file) run c).1 cs
      = calls-self cs (called (engine file) run c).1 (call-bytes run c h) ∙ ap (λ s. run_calls (flat_machine file) s cs) (ap (λ r. r.1) q) in
      λ i. ((q i).0 ∷ (rest i).0, (rest i).1)
