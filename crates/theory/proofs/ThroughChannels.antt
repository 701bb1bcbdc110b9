-- A channel beside the root's resultant: in its turn the resultant that stands for the channel's run tells what the channel is told and stands for the
-- run that is left; so through every list of channel calls. Assumes nothing.
use mathlib.Core.Path.{◌≡◌, refl, sym, ap, ◌∙◌, subst}
use mathlib.Core.Logic.{◌⊎◌, inl, inr}
use Prim.Native.Nat.{ℕ, suc, ◌<◌}
use mathlib.Core.List.{List, [], ◌∷◌}
use native.Mathlib.Omega.{arith}
use lib.ListN.{length, drop, get_or}
use Rattle.definition.specs.Bytes.{Bytes, AllBytes, ok, stored}
use Rattle.definition.specs.Model.{Model}
use Rattle.definition.specs.Pinned.Decoder.{accepted}
use Rattle.definition.specs.Sound.{Every}
use Rattle.definition.specs.Devs.{Since}
use Rattle.definition.specs.SavedRun.{Run, atomic_count, run_length, run_of, run_bytes}
use Rattle.definition.specs.Advance.{Ended}
use Rattle.definition.specs.Engine.{Advanced, Numbers, numbers_of, number_alone, to_bag, advanced}
use Rattle.definition.specs.Channels.{part, no_place, bag_at, advance_within, Channel, turn, channel_at, ChannelsCall, advance_channels}
use Rattle.definition.specs.ChannelShares.{WellCounted, has_at}
use Rattle.definition.specs.ChannelRelation.{EndsWithin}
use Rattle.definition.specs.ChannelRows.{TurnRefusal, turn_refuses_run, turn_refuses_time, turn_refuses_place, turn_refuses_bag, MayTurn, refused_turn}
use Rattle.definition.specs.Carrying.{carried, root_of, StandsFor, BetweenCalls, begins, left_by, AnswersTurn, channel_refuses_time, channel_refuses_place, channel_refuses_bag, answers_turn, Saved, ThroughChannel}
use Rattle.law_base.proofs.Tests.{clash}
use Rattle.law_model.proofs.WellFormed.{WellFormed}
use Rattle.law_model.proofs.Reading.{accepted_sound}
use Rattle.law_calls.proofs.Lift.{EndsAlike}
use Rattle.law_calls.proofs.Kept.{Fit}
use Rattle.law_calls.proofs.Fitting.{FitRun, fits_run}
use Rattle.law_channels.proofs.Within.{ends-within}
use Rattle.law_channels.proofs.LiftWithin.{advance-within-alike}
use Rattle.law_channels.proofs.TurnRows.{turn-or, turn_refused, turn-may, end_within}
use Rattle.law_channels.proofs.Called.{own_turn}
use Rattle.theory.proofs.Carrying.{BetweenStands, agree-self, agree-carried}
use Rattle.theory.proofs.WrittenRuns.{beyond, saved}

-- ---- one turn

module _ (m : Model) (w : WellFormed m) (t has : ℕ) (c : Channel) where
  -- what a channel does beside the resultant that stands for its run
  abbrev TurnFollows : BetweenCalls m → Advanced → Type 0
  TurnFollows q a =
      (q' : BetweenCalls m) × AnswersTurn m q t has c.bag c.trace (numbers_of a) a.trace q' × Saved m q' a.run
      × (drop (run_length (atomic_count m)) a.run ≡ drop (run_length (atomic_count m)) c.run)

  abbrev opening : ℕ
  opening = (run_of m c.run).opening

  module _ (q : Since (root_of m)) (s : Saved m (record { opening = (run_of m c.run).opening; since = q }) c.run) where
    abbrev here : BetweenCalls m
    here = record { opening = opening; since = q }

    -- where its instants end
    module _ (bag : Bytes) (h : MayTurn m t c bag) where
      stands : BetweenStands m w opening q (run_of m c.run).entries
      stands = (s.entries, (fits_run m c.run h.run_fits_lem).0.0)

      abbrev since : Ended (Since (root_of m))
      since = advance_within (carried m) has (length c.trace) t (to_bag bag) opening q

      carried-ends-within : EndsWithin (carried m) has (length c.trace) t (to_bag bag) (begins opening q) since
      unfolding advance_within
      carried-ends-within =
          ends-within (agree-self (agree-carried m w)) has (length c.trace) t (to_bag bag) (suc t) (begins opening q) (refl, (run_of m c.run).entries, stands)
          h.not_early (omega arith) (omega arith)

      carried-alike-within : EndsAlike (BetweenStands m w) t since (end_within m t has c bag)
      carried-alike-within =
          advance-within-alike (agree-carried m w) has (length c.trace) t (to_bag bag) (to_bag bag) refl opening q (run_of m c.run).entries stands h.not_early

      -- the run that is left
      abbrev left : Run
      left = let p = (end_within m t has c bag).progress in record { opening = p.opening; entries = p.state }

      fit : FitRun m left
      fit =
          let k = carried-alike-within in
          (subst (λ o. Fit m o left.entries) k.1.opening k.1.state.1, omega (arith, k.1.opening, k.2, h.not_late))

      may-follow : TurnFollows here (advanced c.run c.trace [] (ok (end_within m t has c bag)))
      unfolding advanced numbers_of
      may-follow =
          let k = carried-alike-within in
          let after = since.progress.state in (
            left_by {m = m} since,
            subst (λ (z : Numbers × Bytes). AnswersTurn m here t has c.bag c.trace z.0 z.1 (left_by {m = m} since))
                (λ j. (record { number = k.0 j; instants = k.1.instants j; steps = k.1.steps j; used = length (k.1.trace j) }, stored (k.1.trace j) c.trace))
                (answers_turn bag since h.not_early h.not_late h.inside h.bag_fits_lem carried-ends-within),
            subst (λ o. Saved m (record { opening = o; since = after }) (stored (run_bytes left) c.run)) (sym k.1.opening)
                (saved m w left fit c.run after (subst (λ o. StandsFor m o after left.entries) k.1.opening k.1.state.0)),
            beyond m w left fit c.run,
          )

    refused-follows : (n : ℕ) → TurnRefusal m t c n → TurnFollows here (refused_turn n c)
    unfolding numbers_of number_alone
    refused-follows n (turn_refuses_run f) = absurd (clash s.run_fits_lem f)
    refused-follows n (turn_refuses_time f l) = (here, channel_refuses_time l, s, refl)
    refused-follows n (turn_refuses_place f o l p) = (here, channel_refuses_place o l p, s, refl)
    refused-follows n (turn_refuses_bag f o l bag p g) = (here, channel_refuses_bag bag o l p g, s, refl)

    follows-here : TurnFollows here (turn m t has c)
    follows-here = go (turn-or m t c)
      where
        go : ((n : ℕ) × TurnRefusal m t c n) ⊎ ((bag : Bytes) × MayTurn m t c bag) → TurnFollows here (turn m t has c)
        go (inl h) = subst (TurnFollows here) (sym (turn_refused m t has c h.0 h.1)) (refused-follows h.0 h.1)
        go (inr h) = subst (TurnFollows here) (sym (turn-may m t has c h.0 h.1)) (may-follow h.0 h.1)

  pub turn-follows : (q : BetweenCalls m) → Saved m q c.run → TurnFollows q (turn m t has c)
  turn-follows q s = subst (λ z. TurnFollows z (turn m t has c)) same (follows-here q.since (subst (λ z. Saved m z c.run) (sym same) s))
    where
      same : ◌≡◌ {A = BetweenCalls m} (record { opening = opening; since = q.since }) q
      same i = record { opening = s.opening i; since = q.since }

-- ---- a channel of a call

module _ (file : Bytes) (m : Model) (bytes : AllBytes file) (e : accepted file ≡ ok m) where
  -- what channel i of n is told and holds beside the resultant
  abbrev pub ChannelFollows : (n i : ℕ) → BetweenCalls m → Bytes → ChannelsCall → Type 0
  ChannelFollows n i q runs b =
      let r = advance_channels file runs b in
      (q' : BetweenCalls m)
      × AnswersTurn m q b.moment (has_at b r.answers i) (bag_at b.bags (get_or b.places i no_place)) (part n i b.traces)
      (get_or r.answers i (number_alone 0)) (part n i r.traces) q'
      × Saved m q' (part n i r.runs) × (drop (run_length (atomic_count m)) (part n i r.runs) ≡ drop (run_length (atomic_count m)) (part n i runs))

  pub channel-follows : (b : ChannelsCall) → WellCounted b → (i : ℕ) → i < b.count → (q : BetweenCalls m) (runs : Bytes) → Saved m q (part b.count i runs)
      → ChannelFollows b.count i q runs b
  unfolding channel_at
  channel-follows b h i l q runs s =
      let w = (accepted_sound file m bytes e).sound in
      let has = has_at b (advance_channels file runs b).answers i in
      let k = turn-follows m w b.moment has (channel_at runs b i) q s in
      let a = own_turn file runs b m e h i l in (
        k.0,
        subst (λ z. AnswersTurn m q b.moment has (bag_at b.bags (get_or b.places i no_place)) (part b.count i b.traces) z (part b.count i (advance_channels file runs b).traces) k.0)
            (sym a.answer)
            (subst (λ z. AnswersTurn m q b.moment has (bag_at b.bags (get_or b.places i no_place)) (part b.count i b.traces) (numbers_of (turn m b.moment has (channel_at runs b i))) z k.0)
            (sym a.trace) k.1),
        subst (Saved m k.0) (sym a.run) k.2,
        ap (drop (run_length (atomic_count m))) a.run ∙ k.3,
      )

  pub through_channels : (n i : ℕ) → i < n → (calls : List ChannelsCall) → Every (λ b. WellCounted b × (b.count ≡ n)) calls → (q : BetweenCalls m) (runs : Bytes)
      → Saved m q (part n i runs) → ThroughChannel m (advance_channels file) n i q runs calls
  through_channels n i l [] h q runs s = s
  through_channels n i l (b ∷ bs) h q runs s =
      let same = h.0.1 in
      let k : ChannelFollows n i q runs b
      = subst (λ j. ChannelFollows j i q runs b) same (channel-follows b h.0.0 i (omega (arith, same)) q runs (subst (λ j. Saved m q (part j i runs)) (sym same) s)) in
      (s, k.0, k.1, k.3, through_channels n i l bs h.1 k.0 (advance_channels file runs b).runs k.2)
