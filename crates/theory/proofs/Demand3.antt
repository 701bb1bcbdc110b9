-- Demand 3: for every list of calls an accepted model, its flat form and the flat machine on the flat form give the same answers and the same
-- bytes; the flat form is accepted and flattens to itself. Assumes nothing.
use mathlib.Core.Path.{◌≡◌, refl, sym, ap, ◌∙◌, subst}
use Prim.Native.Nat.{ℕ}
use mathlib.Core.List.{List, [], ◌∷◌}
use mathlib.Core.Bool.{Bool, true, false, cond}
use native.Mathlib.Omega.{arith}
use lib.Dec.{ltb, eqb}
use lib.ListN.{length, take, drop}
use lib.Seq.{take_at}
use Rattle.definition.specs.Bytes.{Bytes, AllBytes, Result, ok, refused, ◌>>=◌, stored}
use Rattle.definition.specs.Model.{Model}
use Rattle.definition.specs.File.{model_bytes}
use Rattle.definition.specs.Pinned.Decoder.{accepted, check_model}
use Rattle.definition.specs.SavedRun.{Entry, run_of, next_due}
use Rattle.definition.specs.Step.{nested}
use Rattle.definition.specs.Advance.{advance_from}
use Rattle.definition.specs.Engine.{start, wrote, Advanced, advance_checks, advanced, advance, to_bag, reading}
use Rattle.definition.specs.Flatten.{flat, flatten}
use Rattle.definition.specs.FlatMachine.{flat_due}
use Rattle.definition.specs.Feed.{FeedBag, feed_calls}
use Rattle.definition.specs.FeedCall.{Fed, followed_by, stopped_by, fed_in_turn, own_bags, fed_or, feed_checks, advance_feed}
use Rattle.definition.specs.Calls.{Call, Answer, Machine, called, run_calls, engine}
use Rattle.definition.specs.Carrying.{BetweenCalls, Answers, stays_from, Through}
use Rattle.definition.specs.Demands.{flat_form, Alike, Demand3}
use Rattle.law_model.proofs.WellFormed.{WellFormed, Accepted}
use Rattle.law_model.proofs.Reading.{accepted_sound}
use Rattle.law_model.proofs.Refusals.{Positive, accepted-positive}
use Rattle.law_flat.proofs.FlatTwice.{flat-stays, flat-accepted, flat-twice}
use Rattle.law_flat.proofs.Checks.{run_length_lem, advance-ok, bag-fine}
use Rattle.law_flat.proofs.SameChecks.{same-run, same-fits, same-checks, same-reading, same_start}
use Rattle.law_calls.proofs.Kept.{Fit}
use Rattle.theory.proofs.Agreement.{levelled, due-same}
use Rattle.law_calls.proofs.Fitting.{fits_run}
use Rattle.theory.proofs.Through.{through_calls}
use Rattle.theory.proofs.ModelBytes.{model-bytes}
use Rattle.theory.proofs.SameChannels.{channels-same}
use Rattle.theory.proofs.FlatCalls.{lifted, called-self, call-bytes, calls-self}

-- ---- a model and its flat form

module _ (file : Bytes) (m : Model) (e : accepted file ≡ ok m) (a : Accepted m) where
  abbrev w : WellFormed m
  w = a.sound

  abbrev v : WellFormed (flat m)
  v = (flat-stays m a).sound

  abbrev f : accepted (model_bytes (flat m)) ≡ ok (flat m)
  f = flat-accepted m a

  abbrev twice : flat (flat m) ≡ flat m
  twice = flat-twice m a

  start-same : (run : Bytes) → start file run ≡ start (model_bytes (flat m)) run
  unfolding start
  start-same run = rw (e, f, same_start m w)

  -- both are advances of the flat step on the flat form
  advance-same : (run : Bytes) (t : ℕ) (bag trace table : Bytes) → advance file run t bag trace table ≡ advance (model_bytes (flat m)) run t bag trace table
  unfolding advance
  advance-same run t bag trace table = rw (e, f, same-checks m w run t bag, same-run m w run) (go (advance_checks m run t bag) refl)
    where
      rs : List Entry
      rs = (run_of m run).entries

      o : ℕ
      o = (run_of m run).opening

      go : (r : Result (Unit {0})) → advance_checks m run t bag ≡ r
          → advanced run trace table (advance_checks m run t bag >>= λ _. ok (advance_from (nested m) (length trace) t (to_bag bag) o rs))
          ≡ advanced run trace table (advance_checks m run t bag >>= λ _. ok (advance_from (nested (flat m)) (length trace) t (to_bag bag) o rs))
      go (refused n) h = rw h
      go (ok u) h =
          let c = advance-ok m run t bag h in
          let ports = bag-fine bag c.bag_fits_lem in
          let fit = subst (λ r. Fit (flat m) r.opening r.entries) (same-run m w run) (fits_run (flat m) run (same-fits m w run ∙ c.run_fits_lem)).0.0 in
          rw h (ap (λ x. advanced run trace table (ok x))
          (lifted m w o rs (length trace) t (to_bag bag) (fits_run m run c.run_fits_lem).0.0 c.not_early ports
          ∙ sym (lifted (flat m) v o rs (length trace) t (to_bag bag) fit c.not_early ports ∙ ap (λ k. advance_from (levelled k) (length trace) t (to_bag bag) o rs) twice)))

  next-same : (run : Bytes) → next_due m (run_of m run).entries ≡ next_due (flat m) (run_of m run).entries
  next-same run =
      let rs = (run_of m run).entries in
      due-same m w rs (run_length_lem m run)
      ∙ sym (due-same (flat m) v rs (ap (λ r. length r.entries) (sym (same-run m w run)) ∙ run_length_lem (flat m) run) ∙ ap (λ k. flat_due k rs) twice)

  reading-same : (run : Bytes) (position : ℕ) → reading file run position ≡ reading (model_bytes (flat m)) run position
  unfolding reading
  reading-same run position = rw (e, f, same-reading m w run position, same-run m w run, next-same run)

  -- a feed is a fold of advances
  turns_same : (cs : List FeedBag) (run trace : Bytes) → fed_in_turn file run trace cs ≡ fed_in_turn (model_bytes (flat m)) run trace cs
  unfolding fed_in_turn
  turns_same [] run trace = refl
  turns_same (c ∷ cs) run trace =
      let a = advance file run c.moment c.bag trace [] in
      ap (λ (on : Fed). cond (eqb a.number 0) (followed_by a on) (stopped_by a)) (turns_same cs a.run (drop a.used a.trace))
      ∙ ap (λ (d : Advanced). cond (eqb d.number 0) (followed_by d (fed_in_turn (model_bytes (flat m)) d.run (drop d.used d.trace) cs)) (stopped_by d))
      (advance-same run c.moment c.bag trace [])

  same-feed-checks : (run : Bytes) (end : ℕ) (feed : Bytes) → feed_checks (flat m) run end feed ≡ feed_checks m run end feed
  unfolding feed_checks
  same-feed-checks run end feed = rw (same-fits m w run, same-run m w run)

  feed-same : (run : Bytes) (end : ℕ) (feed trace : Bytes) → advance_feed file run end feed trace ≡ advance_feed (model_bytes (flat m)) run end feed trace
  unfolding advance_feed
  feed-same run end feed trace =
      rw (e, f, same-feed-checks run end feed)
      (ap (λ (turn : List FeedBag → Fed). fed_or run trace (feed_checks m run end feed >>= λ bs. ok (own_bags (length bs) (turn (feed_calls bs end))))) (λ i cs. turns_same cs run trace i))

  -- the engine does the same on both
  engine-same : engine file ≡ engine (model_bytes (flat m))
  unfolding engine
  engine-same = λ i. record {
    starts = λ run. start-same run i;
    advances = λ run t bag trace table. advance-same run t bag trace table i;
    feeds = λ run end feed trace. feed-same run end feed trace i;
    advances_channels = λ runs b. channels-same file runs b m e a i;
    reads = λ run position. reading-same run position i;
  }

-- ---- the resultant beside the flat machine

-- two machines that do the same on bytes
machine-same : (m : Model) (k l : Machine) → ((run : Bytes) (c : Call) → AllBytes run → (called k run c ≡ called l run c) × AllBytes (called k run c).1)
    → (calls : List Call) (q : BetweenCalls m) (run : Bytes) → AllBytes run → Through m k q run calls → Through m l q run calls
machine-same m k l same [] q run b h = h
machine-same m k l same (c ∷ cs) q run b h =
    let s = same run c b in
    let n = stays_from m (length run) c in
    let on : (q' : BetweenCalls m) × Answers m (length run) q c (called l run c).0 q' × (drop n (called l run c).1 ≡ drop n run) × Through m l q' (called l run c).1 cs
    = subst (λ (z : Answer × Bytes). (q' : BetweenCalls m) × Answers m (length run) q c z.0 q' × (drop n z.1 ≡ drop n run) × Through m l q' z.1 cs) s.0
    (h.1, h.2, h.3, machine-same m k l same cs h.1 (called k run c).1 s.1 h.4) in
    (h.0, on.0, on.1, on.2, on.3)

-- ---- by what flattening writes

pub flat-form : (file buffer : Bytes) (m : Model) → accepted file ≡ ok m → (flatten file buffer).number ≡ 0 → flat_form file buffer ≡ model_bytes (flat m)
unfolding flat_form flatten wrote stored
flat-form file buffer m e h = rw e (go (ltb (length buffer) (length (model_bytes (flat m)))) refl)
  where
    b : Bytes
    b = model_bytes (flat m)

    go : (t : Bool) → ltb (length buffer) (length b) ≡ t → (let w = wrote buffer (ok b) in take w.written w.buffer) ≡ b
    go true f = absurd (let k = rw (e, f) at h in omega arith)
    go false f = rw f (take_at b (drop (length b) buffer) (length b) refl)

flatten-accepts : (file buffer : Bytes) → (flatten file buffer).number ≡ 0 → (m : Model) × (accepted file ≡ ok m)
unfolding flatten wrote
flatten-accepts file buffer h = go (accepted file) refl (accepted-positive file)
  where
    go : (r : Result Model) → accepted file ≡ r → Positive r → (m : Model) × (accepted file ≡ ok m)
    go (ok m) e p = (m, e)
    go (refused n) e p = absurd (let k : n ≡ 0 = rw e at h in omega arith)

flat-alike : (file : Bytes) (m : Model) → AllBytes file → accepted file ≡ ok m → Alike file (model_bytes (flat m))
unfolding check_model
flat-alike file m b e =
    let a = accepted_sound file m b e in
    let acc = flat-accepted m a in
    let twice = flat-twice m a in
    record {
      accepts = rw acc;
      itself = λ buffer h. flat-form (model_bytes (flat m)) buffer (flat m) acc h ∙ ap model_bytes twice;
      calls_alike = λ run calls h. (
        ap (λ k. run_calls k run calls) (engine-same file m e a),
        calls-self (model_bytes (flat m)) (flat m) (model-bytes (flat m)) acc (flat-stays m a).sound twice calls run h,
      );
      calls_defined = λ n f q run h s calls l.
          let same = engine-same file m e a in
          let v = (flat-stays m a).sound in
          let through : Through n (engine (model_bytes (flat m))) q run calls = subst (λ k. Through n k q run calls) same (through_calls file n b f calls l q run s) in
          (through, machine-same n _ _ (λ r c g. (called-self (model_bytes (flat m)) (flat m) (model-bytes (flat m)) acc v twice r c g, call-bytes (model_bytes (flat m)) (flat m) (model-bytes (flat m)) acc v twice r c g)) calls q run h through);
    }

pub demand3 : Demand3
unfolding Demand3
demand3 file buffer b h =
    let m = flatten-accepts file buffer h in
    subst (Alike file) (sym (flat-form file buffer m.0 m.1 h)) (flat-alike file m.0 b m.1)
