-- A channel's turn, and every channel call: an accepted model and its flat form do the same, and on a model that is its own flat form the flat machine
-- does so too. Assumes nothing.
use mathlib.Core.Path.{◌≡◌, refl, sym, ap, ap₂, ◌∙◌, subst}
use mathlib.Core.Logic.{◌⊎◌, inl, inr}
use Prim.Native.Nat.{ℕ, suc, ◌+◌, ◌-◌, ◌*◌, ◌/◌, ◌≤◌}
use mathlib.Core.List.{List, [], ◌∷◌}
use mathlib.Core.Bool.{Bool, true, false}
use native.Mathlib.Omega.{arith}
use lib.ListN.{length}
use Rattle.definition.specs.Lists.{all}
use Rattle.definition.specs.Bytes.{Bytes, AllBytes, ok, refuse_if, ◌>>=◌}
use Rattle.definition.specs.Model.{Bag, Model}
use Rattle.definition.specs.File.{model_bytes}
use Rattle.definition.specs.Records.{port_fits}
use Rattle.definition.specs.Pinned.Decoder.{accepted}
use Rattle.definition.specs.SavedRun.{Entry, run_of}
use Rattle.definition.specs.Step.{nested}
use Rattle.definition.specs.Advance.{Ended}
use Rattle.definition.specs.Engine.{Advanced, advanced, to_bag}
use Rattle.definition.specs.Flatten.{flat}
use Rattle.definition.specs.FlatMachine.{answered}
use Rattle.definition.specs.Channels.{part, advance_within, Channel, turn_checks, turn, turns, channel_at, channels_of, channelled, eight_answers, miscounted, ChannelsCall, advance_channels}
use Rattle.definition.specs.ChannelShares.{share_of}
use Rattle.definition.specs.ChannelRows.{TurnRefusal, MayTurn}
use Rattle.definition.specs.FlatChannels.{in_turn_within, flat_turn, one_by_one, boxed, flat_channels}
use Rattle.definition.specs.Carrying.{begins}
use Rattle.law_model.proofs.WellFormed.{WellFormed, Accepted}
use Rattle.law_model.proofs.Codec.{take-bytes, drop-bytes}
use Rattle.law_flat.proofs.Checks.{bag-fine}
use Rattle.law_flat.proofs.FlatTwice.{flat-stays, flat-accepted, flat-twice}
use Rattle.law_flat.proofs.SameChecks.{same-run, same-fits}
use Rattle.law_calls.proofs.Lift.{ends-equal}
use Rattle.law_calls.proofs.Kept.{Fit, BetweenSame}
use Rattle.law_calls.proofs.Fitting.{fits_run}
use Rattle.law_channels.proofs.LiftWithin.{advance-within-alike}
use Rattle.law_channels.proofs.TurnRows.{checks-refused, checks-may, turn-or, turn-may, end_within}
use Rattle.law_channels.proofs.OneByOne.{empty_box, boxes-are}
use Rattle.theory.proofs.Agreement.{levelled, agree-flat}
use Rattle.theory.proofs.FlatStages.{to_stage, answer}
use Rattle.theory.proofs.FlatFeeds.{first-stage}
use Rattle.theory.proofs.FlatTurns.{in-turn-within}

-- A turn of the nest is one of the flat step on the flat form.
lifted-within : (m : Model) (w : WellFormed m) (o : ℕ) (rs : List Entry) (has room t : ℕ) (x : Bag) → Fit m o rs → o ≤ t → all port_fits x ≡ true
    → advance_within (nested m) has room t x o rs ≡ advance_within (levelled (flat m)) has room t x o rs
lifted-within m w o rs has room t x f l ports =
    ends-equal {Between = BetweenSame m w} {t = t} _ _ (λ o rs qs z. z.0) (advance-within-alike (agree-flat m w) has room t x x (refl, ports) o rs rs (refl, f) l)

-- ---- the flat machine, on a model that is its own flat form

module _ (m : Model) (w : WellFormed m) (self : flat m ≡ m) where
  module _ (t has : ℕ) (c : Channel) (b : AllBytes c.run) (bag : Bytes) (h : MayTurn m t c bag) where
    own-loop : in_turn_within m has t (to_bag bag) (suc t) (record { state = c.run; trace = c.trace; table = []; instants = 0; steps = 0; used = 0 })
        ≡ answer m w self c.run c.trace [] (end_within m t has c bag)
    unfolding advance_within
    own-loop =
        let r = run_of m c.run in
        let f = (fits_run m c.run h.run_fits_lem).0.0 in
        let ports = bag-fine bag h.bag_fits_lem in
        ap (in_turn_within m has t (to_bag bag) (suc t)) (sym (first-stage m w self c.run c.trace [] b h.run_fits_lem))
        ∙ in-turn-within m w self c.run c.trace [] t h.not_late has (to_bag bag) ports (suc t) (begins r.opening r.entries) (f, h.not_early, omega arith, inl refl)
        ∙ ap (answer m w self c.run c.trace []) (sym (lifted-within m w r.opening r.entries has (length c.trace) t (to_bag bag) f h.not_early ports
        ∙ ap (λ k. advance_within (levelled k) has (length c.trace) t (to_bag bag) r.opening r.entries) self))

    own-end : flat_turn m t has c ≡ answered c.run c.trace [] (ok (answer m w self c.run c.trace [] (end_within m t has c bag)))
    unfolding flat_turn
    own-end = rw (checks-may m t c bag h, own-loop)

  answers : (run trace : Bytes) (a : Ended (List Entry)) → answered run trace [] (ok (answer m w self run trace [] a)) ≡ advanced run trace [] (ok a)
  unfolding answered advanced to_stage
  answers run trace a = refl

  turn-self : (t has : ℕ) (c : Channel) → AllBytes c.run → flat_turn m t has c ≡ turn m t has c
  turn-self t has c b = go (turn-or m t c)
    where
      go : ((n : ℕ) × TurnRefusal m t c n) ⊎ ((bag : Bytes) × MayTurn m t c bag) → flat_turn m t has c ≡ turn m t has c
      go (inl h) = unfold flat_turn turn answered advanced in (rw (checks-refused m t c h.0 h.1))
      go (inr h) = own-end t has c b h.0 h.1 ∙ answers c.run c.trace _ ∙ sym (turn-may m t has c h.0 h.1)

  module _ (file : Bytes) (e : accepted file ≡ ok m) where
    pub channels-self : (runs : Bytes) (b : ChannelsCall) → AllBytes runs → advance_channels file runs b ≡ flat_channels file runs b
    unfolding advance_channels flat_channels
    channels-self runs b bytes = rw e (go (miscounted b.count b.allowance))
      where
        own-bytes : (i : ℕ) → AllBytes (channel_at runs b i).run
        own-bytes i = unfold channel_at part in (take-bytes (length runs / b.count) (drop-bytes (length runs / b.count * i) bytes))

        go : (c : Bool) → channelled runs b.traces (refuse_if c 21 >>= λ _. ok (turns m b.moment (share_of b) 0 (channels_of runs b)))
            ≡ boxed runs b.traces (refuse_if c 21 >>= λ _. ok (one_by_one (flat_turn m b.moment) b (length runs / b.count) (length b.traces / b.count) b.count 0 (empty_box runs b)))
        go true = unfold channelled boxed eight_answers in refl
        go false = boxes-are m runs b (flat_turn m b.moment) (λ has i l. turn-self b.moment has _ (own-bytes i))

-- ---- a model and its flat form

module _ (m : Model) (a : Accepted m) (t : ℕ) where
  abbrev w : WellFormed m
  w = a.sound

  abbrev v : WellFormed (flat m)
  v = (flat-stays m a).sound

  same-turn-checks : (c : Channel) → turn_checks (flat m) t c ≡ turn_checks m t c
  unfolding turn_checks
  same-turn-checks c = rw (same-fits m w c.run, same-run m w c.run)

  flat-turn : (has : ℕ) (c : Channel) (bag : Bytes) → turn_checks (flat m) t c ≡ ok bag
      → turn (flat m) t has c
      ≡ advanced c.run c.trace [] (ok (advance_within (nested (flat m)) has (length c.trace) t (to_bag bag) (run_of m c.run).opening (run_of m c.run).entries))
  unfolding turn
  flat-turn has c bag h = rw (h, same-run m w c.run)

  -- both are turns of the flat step on the flat form
  turn-same : (has : ℕ) (c : Channel) → turn m t has c ≡ turn (flat m) t has c
  turn-same has c = go (turn-or m t c)
    where
      o : ℕ
      o = (run_of m c.run).opening

      rs : List Entry
      rs = (run_of m c.run).entries

      size : ℕ
      size = length c.trace

      ends : (bag : Bytes) → MayTurn m t c bag → end_within m t has c bag ≡ advance_within (nested (flat m)) has size t (to_bag bag) o rs
      ends bag h =
          let ports = bag-fine bag h.bag_fits_lem in
          let fit = subst (λ r. Fit (flat m) r.opening r.entries) (same-run m w c.run) (fits_run (flat m) c.run (same-fits m w c.run ∙ h.run_fits_lem)).0.0 in
          lifted-within m w o rs has size t (to_bag bag) (fits_run m c.run h.run_fits_lem).0.0 h.not_early ports
          ∙ sym (lifted-within (flat m) v o rs has size t (to_bag bag) fit h.not_early ports
          ∙ ap (λ k. advance_within (levelled k) has size t (to_bag bag) o rs) (flat-twice m a))

      go : ((n : ℕ) × TurnRefusal m t c n) ⊎ ((bag : Bytes) × MayTurn m t c bag) → turn m t has c ≡ turn (flat m) t has c
      go (inl h) = unfold turn advanced in (rw (same-turn-checks c, checks-refused m t c h.0 h.1))
      go (inr h) =
          turn-may m t has c h.0 h.1 ∙ ap (λ z. advanced c.run c.trace [] (ok z)) (ends h.0 h.1)
          ∙ sym (flat-turn has c h.0 (same-turn-checks c ∙ checks-may m t c h.0 h.1))

  turns_same : (share left : ℕ) (cs : List Channel) → turns m t share left cs ≡ turns (flat m) t share left cs
  unfolding turns
  turns_same share left [] = refl
  turns_same share left (c ∷ cs) =
      ap₂ ◌∷◌ (turn-same (share + left) c)
      (turns_same share (share + left - (turn m t (share + left) c).steps) cs
      ∙ ap (λ (r : Advanced). turns (flat m) t share (share + left - r.steps) cs) (turn-same (share + left) c))

pub channels-same : (file runs : Bytes) (b : ChannelsCall) (m : Model) → accepted file ≡ ok m → Accepted m
    → advance_channels file runs b ≡ advance_channels (model_bytes (flat m)) runs b
unfolding advance_channels
channels-same file runs b m e a = rw (e, flat-accepted m a, turns_same m a b.moment (share_of b) 0 (channels_of runs b))
