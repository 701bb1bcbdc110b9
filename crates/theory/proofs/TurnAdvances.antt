-- A channel's turn beside its own advance: it is that advance unless its number is 22, and wherever that has no more steps than the channel; it does
-- at least one instant that is due; and what it writes is one trace, of short records. Assumes nothing.
use mathlib.Core.Path.{◌≡◌, refl, sym, ap, ◌∙◌, subst}
use mathlib.Core.Logic.{◌⊎◌, inl, inr}
use mathlib.Core.Option.{some}
use Prim.Native.Nat.{ℕ, suc, ◌≤◌, ◌<◌}
use mathlib.Core.List.{List, []}
use mathlib.Core.Bool.{true}
use native.Mathlib.Omega.{arith}
use lib.ListN.{length}
use Rattle.definition.specs.Lists.{concat}
use Rattle.definition.specs.Bytes.{Bytes, Result, ok, refused, ◌>>=◌}
use Rattle.definition.specs.Limits.{max_steps}
use Rattle.definition.specs.Model.{Bag, Model}
use Rattle.definition.specs.Pinned.Decoder.{accepted}
use Rattle.definition.specs.SavedRun.{Entry, run_of, next_due}
use Rattle.definition.specs.Step.{nested}
use Rattle.definition.specs.Instant.{trace_bytes}
use Rattle.definition.specs.Advance.{Progress, Ended, ended, advance_from}
use Rattle.definition.specs.AdvanceRelation.{Ends}
use Rattle.definition.specs.Engine.{Advanced, to_bag, advance_checks, advanced, advance}
use Rattle.definition.specs.Channels.{advance_within, Channel, turn}
use Rattle.definition.specs.ChannelRelation.{due_by}
use Rattle.definition.specs.ChannelRows.{TurnRefusal, MayTurn}
use Rattle.definition.specs.SeveralChannels.{own_advance}
use Rattle.definition.specs.Carrying.{begins}
use Rattle.definition.specs.Demands.{opening_of, MayAdvance, traced_by}
use Rattle.law_model.proofs.WellFormed.{WellFormed, Accepted}
use Rattle.law_model.proofs.Answers.{end_of, advance-done}
use Rattle.law_flat.proofs.Checks.{advance-ok}
use Rattle.law_calls.proofs.Kept.{BetweenSame}
use Rattle.law_calls.proofs.BagOrder.{agree-order}
use Rattle.law_calls.proofs.Fitting.{fits_run}
use Rattle.law_channels.proofs.Within.{enough}
use Rattle.law_channels.proofs.TurnRows.{turn-or, turn_refused, end_within, turn-may, turn_inside}
use Rattle.theory.proofs.Buffers.{stored-front}
use Rattle.theory.proofs.ChannelRows.{turn_ends}
use Rattle.theory.proofs.Demand1.{advance_only}
use Rattle.theory.proofs.CutTurns.{cut-behind, does_one, CutOff, CutOr, cut, LedTo, leads}
use Rattle.theory.proofs.Spans.{span-recorded, span_none, nest-adds}
use Rattle.theory.proofs.Joined.{Traces}

-- what a turn asks and what its own advance asks
pub may-advance : (m : Model) (t : ℕ) (c : Channel) (bag : Bytes) → MayTurn m t c bag → MayAdvance m c.run t bag
may-advance m t c bag h = record { run_fits_lem = h.run_fits_lem; not_early = h.not_early; not_late = h.not_late; bag_fits_lem = h.bag_fits_lem }

pub may_turn : (m : Model) (t : ℕ) (c : Channel) (bag : Bytes) → c.bag ≡ some bag → MayAdvance m c.run t bag → MayTurn m t c bag
may_turn m t c bag p h = record { run_fits_lem = h.run_fits_lem; not_early = h.not_early; not_late = h.not_late; inside = p; bag_fits_lem = h.bag_fits_lem }

-- ---- a turn that may be taken

-- where its instants begin
abbrev pub from_run : Model → Channel → Progress (List Entry)
from_run m c = begins (opening_of m c.run) (run_of m c.run).entries

module _ (m : Model) (w : WellFormed m) (t has : ℕ) (c : Channel) (bag : Bytes) (h : MayTurn m t c bag) where
  abbrev E : Ended (List Entry)
  E = end_within m t has c bag

  pub fitting : BetweenSame m w (opening_of m c.run) (run_of m c.run).entries (run_of m c.run).entries
  fitting = (refl, (fits_run m c.run h.run_fits_lem).0.0)

  pub turn-cut : CutOr (nested m) has (length c.trace) t (to_bag bag) (from_run m c) E
  turn-cut = cut (nested m) (turn_ends m w t has c bag h)

  -- where it is cut off, it stands where it began or where an advance to its last instant ends
  pub cut-where : CutOff (nested m) has (length c.trace) t (to_bag bag) (from_run m c) E.progress
      → (E.progress ≡ from_run m c) ⊎ LedTo (nested m) (length c.trace) t (from_run m c) E.progress
  cut-where x = leads (agree-order m w) x.chain fitting

  -- its own advance, where its instants end so
  pub ends_as : Ends (nested m) (length c.trace) t (to_bag bag) (from_run m c) E → E ≡ end_of m c.run t bag c.trace
  ends_as r = sym (advance_only c.run t bag c.trace m w h.run_fits_lem h.not_early E r)

  pub does-an-instant : max_steps ≤ has → due_by (next_due m (run_of m c.run).entries) t (to_bag bag) ≡ true
      → (0 < (turn m t has c).instants) ⊎ (((turn m t has c).number ≡ 13) ⊎ ((turn m t has c).number ≡ 15))
  unfolding advanced
  does-an-instant l d =
      subst (λ (a : Advanced). (0 < a.instants) ⊎ ((a.number ≡ 13) ⊎ (a.number ≡ 15))) (sym (turn-may m t has c bag h))
      (does_one (turn_ends m w t has c bag h) (omega arith) d)

  pub cut-after-one : max_steps ≤ has → (turn m t has c).number ≡ 22 → 0 < (turn m t has c).instants
  unfolding advanced
  cut-after-one l =
      subst (λ (a : Advanced). a.number ≡ 22 → 0 < a.instants) (sym (turn-may m t has c bag h)) (cut-behind (turn_ends m w t has c bag h) (omega arith))

-- ---- as its own advance

module _ (file : Bytes) (m : Model) (w : WellFormed m) (e : accepted file ≡ ok m) (t has : ℕ) (c : Channel) (bag : Bytes) (p : c.bag ≡ some bag) where
  abbrev checks : Result (Unit {0})
  checks = advance_checks m c.run t bag

  may : checks ≡ ok tt → MayTurn m t c bag
  may f = may_turn m t c bag p (advance-ok m c.run t bag f)

  same_ends : (checks ≡ ok tt → end_within m t has c bag ≡ end_of m c.run t bag c.trace) → turn m t has c ≡ own_advance file c t bag
  unfolding advance
  same_ends s = turn_inside m t has c bag p ∙ rw e (go checks refl)
    where
      go : (r : Result (Unit {0})) → checks ≡ r
          → advanced c.run c.trace [] (checks >>= λ _. ok (end_within m t has c bag)) ≡ advanced c.run c.trace [] (checks >>= λ _. ok (end_of m c.run t bag c.trace))
      go (refused n) f = rw f
      go (ok u) f = rw f (ap (λ z. advanced c.run c.trace [] (ok z)) (s f))

  -- a turn that may be taken has the number with which its instants end
  number_is : checks ≡ ok tt → (turn m t has c).number ≡ (end_within m t has c bag).number
  unfolding advanced
  number_is f = ap (λ (a : Advanced). a.number) (turn-may m t has c bag (may f))

  pub as_advance : ((turn m t has c).number ≡ 22 → ⊥) → turn m t has c ≡ own_advance file c t bag
  as_advance not = same_ends (λ f. go f (turn-cut m w t has c bag (may f)))
    where
      go : checks ≡ ok tt → CutOr (nested m) has (length c.trace) t (to_bag bag) (from_run m c) (end_within m t has c bag) → end_within m t has c bag ≡ end_of m c.run t bag c.trace
      go f (inl r) = ends_as m w t has c bag (may f) r
      go f (inr r) = absurd (not (number_is f ∙ r.0))

  pub where_enough : (own_advance file c t bag).steps ≤ has → turn m t has c ≡ own_advance file c t bag
  where_enough l = same_ends (λ f. by (subst (λ (a : Advanced). a.steps ≤ has) (advance-done file c.run t bag c.trace [] m e (may-advance m t c bag (may f))) l))
    where
      by : (advanced c.run c.trace [] (ok (end_of m c.run t bag c.trace))).steps ≤ has → end_within m t has c bag ≡ end_of m c.run t bag c.trace
      by l = unfold advance_within advance_from advanced in (enough (nested m) has (length c.trace) t (to_bag bag) (suc t) (from_run m c) (omega arith) l)

-- ---- what it writes

none-traced : Traces []
unfolding trace_bytes concat
none-traced = ([], span-recorded 0 0 [] [] refl (span_none 0 0), tt)

module _ (m : Model) (a : Accepted m) (t has : ℕ) (c : Channel) where
  -- what any advance on its parts writes
  ends-traced : (bag : Bytes) → MayTurn m t c bag → (u : ℕ) (y : Bag) → opening_of m c.run ≤ u → u ≤ t → (z : Ended (List Entry))
      → Ends (nested m) (length c.trace) u y (from_run m c) z → Traces z.progress.trace
  ends-traced bag h u y o l z r =
      let n = nest-adds m a (length c.trace) u (omega (arith, l, h.not_late)) y r (fits_run m c.run h.run_fits_lem).0.0 o in
      (n.new, span-recorded _ _ z.progress.trace n.new n.trace n.span, n.span.small)

  pub turn-traces : Traces (traced_by (turn m t has c))
  unfolding ended
  turn-traces = go (turn-or m t c)
    where
      taken : (bag : Bytes) (h : MayTurn m t c bag) → Traces (end_within m t has c bag).progress.trace
      taken bag h = by (turn-cut m a.sound t has c bag h)
        where
          q : Progress (List Entry)
          q = (end_within m t has c bag).progress

          cut_at : (q ≡ from_run m c) ⊎ LedTo (nested m) (length c.trace) t (from_run m c) q → Traces q.trace
          cut_at (inl z) = subst (λ (r : Progress (List Entry)). Traces r.trace) (sym z) none-traced
          cut_at (inr z) = ends-traced bag h z.last [] z.later (omega (arith, z.in_time)) _ z.ends_so

          by : CutOr (nested m) has (length c.trace) t (to_bag bag) (from_run m c) (end_within m t has c bag) → Traces q.trace
          by (inl r) = ends-traced bag h t (to_bag bag) h.not_early (omega arith) _ r
          by (inr r) = cut_at (cut-where m a.sound t has c bag h r.1)

      go : ((n : ℕ) × TurnRefusal m t c n) ⊎ ((bag : Bytes) × MayTurn m t c bag) → Traces (traced_by (turn m t has c))
      go (inl (n, r)) = subst (λ (z : Advanced). Traces (traced_by z)) (sym (turn_refused m t has c n r)) none-traced
      go (inr (bag, h)) =
          subst (λ (z : Advanced). Traces (traced_by z)) (sym (turn-may m t has c bag h))
          (unfold advanced in (subst Traces (sym (stored-front (end_within m t has c bag).progress.trace c.trace)) (taken bag h)))
