-- Demand 1 for the call that advances several channels: each row gives its number, and each number above 0 comes from its row, of the call and of a
-- channel's turn; a turn that may be taken ends as `EndsWithin` tells, in no other way, and leaves a run that fits. Assumes nothing.
use mathlib.Core.Path.{◌≡◌, refl, sym, ap, ◌∙◌, subst}
use mathlib.Core.Logic.{◌⊎◌, inl, inr}
use Prim.Native.Nat.{ℕ, suc, ◌<◌}
use mathlib.Core.List.{List, []}
use mathlib.Core.Bool.{Bool, true, false}
use native.Mathlib.Omega.{arith}
use lib.ListN.{length}
use Rattle.definition.specs.Bytes.{Bytes, AllBytes, Result, ok, refused, stored}
use Rattle.definition.specs.Model.{Model}
use Rattle.definition.specs.Pinned.Decoder.{accepted}
use Rattle.definition.specs.SavedRun.{Entry, Run, run_of, run_fits}
use Rattle.definition.specs.Advance.{Ended}
use Rattle.definition.specs.Engine.{Advanced, to_bag, advanced}
use Rattle.definition.specs.Channels.{advance_within, Channel, turn, ChannelsCall, Channelled, channelled, miscounted, advance_channels}
use Rattle.definition.specs.ChannelRows.{ChannelsRefusal, channels_refuse_count, channels_refuse_model, refused_channels, TurnRefusal, MayTurn, TurnEnds, TurnNumber, turn_by_row, turn_by_instants, ChannelRows}
use Rattle.definition.specs.Carrying.{begins}
use Rattle.law_model.proofs.WellFormed.{WellFormed}
use Rattle.law_model.proofs.Reading.{accepted_sound}
use Rattle.law_calls.proofs.BagOrder.{agree-order}
use Rattle.law_calls.proofs.Fitting.{FitRun, fits_run, fit_written}
use Rattle.law_channels.proofs.Within.{ends-within, only-within}
use Rattle.law_channels.proofs.LiftWithin.{advance-within-alike}
use Rattle.law_channels.proofs.TurnRows.{place_past, place_inside, turn-or, turn_refused, end_within, turn-may}
use Rattle.law_channels.proofs.Called.{counted-from, miscount, miscounted-from, call-21, call-model, call_ok}
use Rattle.theory.proofs.CallRows.{by_row, row-of}

-- ---- the call

module _ (file runs : Bytes) (b : ChannelsCall) where
  channels_refused : (n : ℕ) → ChannelsRefusal file b n → advance_channels file runs b ≡ refused_channels n runs b
  channels_refused n (channels_refuse_count h) = call-21 file runs b (miscount b h)
  channels_refused n (channels_refuse_model k h l j) = call-model file runs b k h (by_row file k l j)

  channels_number : AllBytes file → 0 < (advance_channels file runs b).number → ChannelsRefusal file b (advance_channels file runs b).number
  unfolding channelled
  channels_number f l = go (miscounted b.count b.allowance) refl (accepted file) refl
    where
      refusal : (n : ℕ) → ChannelsRefusal file b n → ChannelsRefusal file b (advance_channels file runs b).number
      refusal n r = subst (ChannelsRefusal file b) (sym (ap (λ (z : Channelled). z.number) (channels_refused n r))) r

      go : (c : Bool) → miscounted b.count b.allowance ≡ c → (r : Result Model) → accepted file ≡ r → ChannelsRefusal file b (advance_channels file runs b).number
      go true c r e = refusal 21 (channels_refuse_count (miscounted-from b c))
      go false c (refused n) e = let j = row-of file n f e in refusal n (channels_refuse_model n (counted-from b c) j.0 j.1)
      go false c (ok m) e = absurd (omega (arith, l, ap (λ (z : Channelled). z.number) (call_ok file runs b m (counted-from b c) e)))

-- ---- a turn that may be taken

-- the run where a turn ends
abbrev pub left_in : Ended (List Entry) → Run
left_in e = record { opening = e.progress.opening; entries = e.progress.state }

module _ (m : Model) (w : WellFormed m) (t has : ℕ) (c : Channel) (bag : Bytes) (h : MayTurn m t c bag) where
  pub turn_ends : TurnEnds m t has c bag (end_within m t has c bag)
  unfolding advance_within
  turn_ends =
      ends-within (agree-order m w) has (length c.trace) t (to_bag bag) (suc t) (begins (run_of m c.run).opening (run_of m c.run).entries)
      (refl, (fits_run m c.run h.run_fits_lem).0.0) h.not_early (omega arith) (omega arith)

  pub turn_only : (e : Ended (List Entry)) → TurnEnds m t has c bag e → end_within m t has c bag ≡ e
  unfolding advance_within
  turn_only e r = only-within (agree-order m w) has (length c.trace) t (to_bag bag) r (suc t) (refl, (fits_run m c.run h.run_fits_lem).0.0) h.not_early (omega arith) (omega arith)

  -- what it leaves fits, and is read back
  pub turn-fit : FitRun m (left_in (end_within m t has c bag))
  turn-fit =
      let o = (run_of m c.run).opening in
      let rs = (run_of m c.run).entries in
      let a = advance-within-alike (agree-order m w) has (length c.trace) t (to_bag bag) (to_bag bag) (λ p. refl) o rs rs (refl, (fits_run m c.run h.run_fits_lem).0.0) h.not_early in
      (a.1.state.1, omega (arith, a.2, h.not_late))

  pub turn-back : (run_fits m (turn m t has c).run ≡ true) × (run_of m (turn m t has c).run ≡ left_in (end_within m t has c bag))
  unfolding advanced stored
  turn-back =
      subst (λ (a : Advanced). (run_fits m a.run ≡ true) × (run_of m a.run ≡ left_in (end_within m t has c bag))) (sym (turn-may m t has c bag h))
      (fit_written m w (left_in (end_within m t has c bag)) _ turn-fit)

-- ---- any turn

module _ (m : Model) (w : WellFormed m) (t has : ℕ) (c : Channel) where
  turn_number : TurnNumber m t has c (turn m t has c).number
  unfolding advanced
  turn_number = go (turn-or m t c)
    where
      go : ((n : ℕ) × TurnRefusal m t c n) ⊎ ((bag : Bytes) × MayTurn m t c bag) → TurnNumber m t has c (turn m t has c).number
      go (inl (n, r)) = subst (TurnNumber m t has c) (sym (ap (λ (a : Advanced). a.number) (turn_refused m t has c n r))) (turn_by_row n r)
      go (inr (bag, h)) =
          subst (TurnNumber m t has c) (sym (ap (λ (a : Advanced). a.number) (turn-may m t has c bag h)))
          (turn_by_instants bag (end_within m t has c bag) h (turn_ends m w t has c bag h))

  turn_fits : run_fits m c.run ≡ true → run_fits m (turn m t has c).run ≡ true
  turn_fits f = go (turn-or m t c)
    where
      go : ((n : ℕ) × TurnRefusal m t c n) ⊎ ((bag : Bytes) × MayTurn m t c bag) → run_fits m (turn m t has c).run ≡ true
      go (inl (n, r)) = subst (λ (a : Advanced). run_fits m a.run ≡ true) (sym (turn_refused m t has c n r)) f
      go (inr (bag, h)) = (turn-back m w t has c bag h).0

pub channel_rows : ChannelRows
channel_rows = record {
  channels_refused = channels_refused;
  channels_number = channels_number;
  place_past = place_past;
  place_inside = place_inside;
  turn_refused = turn_refused;
  turn_number = λ file m t has c b e. turn_number m (accepted_sound file m b e).sound t has c;
  turn_ends = λ file m t has c bag b e h. (end_within m t has c bag, turn_ends m (accepted_sound file m b e).sound t has c bag h, turn-may m t has c bag h);
  turn_only = λ file m t has c bag b e h z r.
      turn-may m t has c bag h ∙ ap (λ y. advanced c.run c.trace [] (ok y)) (turn_only m (accepted_sound file m b e).sound t has c bag h z r);
  turn_fits = λ file m t has c b e. turn_fits m (accepted_sound file m b e).sound t has c;
}
