-- What 22 leaves: a channel that may take its turn stands untouched, or as its own advance to the moment of its last instant leaves it, and its own
-- advance to the moment of the next one has more steps than the channel. Assumes nothing.
use mathlib.Core.Path.{◌≡◌, refl, sym, ap, ◌∙◌, subst}
use mathlib.Core.Logic.{◌⊎◌, inl, inr}
use Prim.Native.Nat.{ℕ, suc, ◌≤◌, ◌<◌}
use mathlib.Core.List.{List, [], ◌∷◌}
use mathlib.Core.Bool.{Bool, true, false}
use native.Mathlib.Omega.{arith}
use lib.Dec.{ltb}
use lib.ListN.{length}
use borrow.Author.Tests.{ltb-true, ltb-false}
use Rattle.definition.specs.Lists.{all}
use Rattle.definition.specs.Bytes.{Bytes, AllBytes, ok, chunks, stored}
use Rattle.definition.specs.Model.{Bag, Model, atomics}
use Rattle.definition.specs.Pinned.Decoder.{accepted}
use Rattle.definition.specs.SavedRun.{Entry, Run, atomic_count, run_of, run_bytes}
use Rattle.definition.specs.Step.{nested}
use Rattle.definition.specs.Advance.{Progress, Ended, ended, succeeded}
use Rattle.definition.specs.AdvanceRelation.{with_instant, Ends}
use Rattle.definition.specs.Engine.{Advanced, to_bag, bag_fits, with_rules, advanced}
use Rattle.definition.specs.Channels.{Channel, turn}
use Rattle.definition.specs.ChannelRows.{TurnRefusal, turn_refuses_run, turn_refuses_time, turn_refuses_place, turn_refuses_bag, MayTurn}
use Rattle.definition.specs.SeveralChannels.{own_advance, NextTooLong, LeftBy22}
use Rattle.definition.specs.Demands.{opening_of, advance_refuses_time}
use Rattle.law_model.proofs.WellFormed.{WellFormed}
use Rattle.law_model.proofs.RunBack.{run-written}
use Rattle.law_model.proofs.Answers.{advance-done}
use Rattle.law_nest.proofs.Pairs.{pairs-length}
use Rattle.law_calls.proofs.BagOrder.{agree-order}
use Rattle.law_calls.proofs.Fitting.{fits_run}
use Rattle.law_channels.proofs.TurnRows.{turn-or, turn_refused, end_within, turn-may}
use Rattle.theory.proofs.RuleTables.{no_table, nest-long}
use Rattle.theory.proofs.CallRows.{advance_refused}
use Rattle.theory.proofs.FeedEnds.{ending-number}
use Rattle.theory.proofs.ChannelRows.{turn-fit, turn-back}
use Rattle.theory.proofs.Demand1.{advance_only}
use Rattle.theory.proofs.CutTurns.{CutOff, CutOr, LedTo, DoneNext, done_next, fewer}
use Rattle.theory.proofs.TurnAdvances.{from_run, fitting, turn-cut, cut-where}

pub row_number : {m : Model} {t : ℕ} {c : Channel} {n : ℕ} → TurnRefusal m t c n → (0 < n) × (n ≤ 12)
row_number (turn_refuses_run f) = (omega arith, omega arith)
row_number (turn_refuses_time f l) = (omega arith, omega arith)
row_number (turn_refuses_place f o l p) = (omega arith, omega arith)
row_number (turn_refuses_bag f o l bag p g) = (omega arith, omega arith)

pub empty-bag : (bag_fits [] ≡ true) × (to_bag [] ≡ [])
unfolding bag_fits to_bag all chunks
empty-bag = (refl, refl)

-- A turn that is cut off.
pub record CutTurn (m : Model) (t has : ℕ) (c : Channel) : Type 0 where
  pub bag : Bytes
  pub may : MayTurn m t c bag
  pub cut : CutOff (nested m) has (length c.trace) t (to_bag bag) (from_run m c) (end_within m t has c bag).progress

-- With 22 it is.
pub cut-here : (m : Model) (w : WellFormed m) (t has : ℕ) (c : Channel) → (turn m t has c).number ≡ 22 → CutTurn m t has c
unfolding advanced
cut-here m w t has c n = go (turn-or m t c)
  where
    go : ((n : ℕ) × TurnRefusal m t c n) ⊎ ((bag : Bytes) × MayTurn m t c bag) → CutTurn m t has c
    go (inl (j, r)) = absurd (omega (arith, n, (row_number r).1, ap (λ (a : Advanced). a.number) (turn_refused m t has c j r)))
    go (inr (bag, h)) = pick (turn-cut m w t has c bag h)
      where
        number : (end_within m t has c bag).number ≡ 22
        number = sym (ap (λ (a : Advanced). a.number) (turn-may m t has c bag h)) ∙ n

        otherwise : (k : ℕ) → k ≡ 22 → (k ≡ 0) ⊎ ((k ≡ 13) ⊎ (k ≡ 15)) → ⊥
        otherwise k z (inl f) = omega arith
        otherwise k z (inr (inl f)) = omega arith
        otherwise k z (inr (inr f)) = omega arith

        pick : CutOr (nested m) has (length c.trace) t (to_bag bag) (from_run m c) (end_within m t has c bag) → CutTurn m t has c
        pick (inl r) = absurd (otherwise (end_within m t has c bag).number number (ending-number r))
        pick (inr r) = record { bag = bag; may = h; cut = r.1 }

-- ---- what it leaves

module _ (file : Bytes) (m : Model) (w : WellFormed m) (e : accepted file ≡ ok m) (t has : ℕ) (c : Channel) (x : CutTurn m t has c) where
  abbrev bag : Bytes
  bag = x.bag

  abbrev h : MayTurn m t c bag
  h = x.may

  abbrev q : Progress (List Entry)
  q = (end_within m t has c bag).progress

  pub untouched : AllBytes c.run → (turn m t has c).instants ≡ 0 → ((turn m t has c).run ≡ c.run) × ((turn m t has c).trace ≡ c.trace)
  unfolding advanced stored run_of
  untouched b i = rw (turn-may m t has c bag h) (go (cut-where m w t has c bag h x.cut))
    where
      none : q.instants ≡ 0
      none = sym (ap (λ (a : Advanced). a.instants) (turn-may m t has c bag h)) ∙ i

      go : (q ≡ from_run m c) ⊎ LedTo (nested m) (length c.trace) t (from_run m c) q
          → (stored (run_bytes (record { opening = q.opening; entries = q.state })) c.run ≡ c.run) × (stored q.trace c.trace ≡ c.trace)
      go (inl z) =
          let f = fits_run m c.run h.run_fits_lem in (
            ap (λ (p : Progress (List Entry)). stored (run_bytes (record { opening = p.opening; entries = p.state })) c.run) z ∙ run-written (atomic_count m) f.1 f.2 b,
            ap (λ (p : Progress (List Entry)). stored p.trace c.trace) z,
          )
      go (inr z) = absurd (omega (arith, z.more, none))

  -- an advance on its parts to a moment up to t, where its instants end so
  advance-to : (u : ℕ) (given : Bytes) (y : Bag) → to_bag given ≡ y → bag_fits given ≡ true → opening_of m c.run ≤ u → u ≤ t → (z : Ended (List Entry))
      → Ends (nested m) (length c.trace) u y (from_run m c) z → own_advance file c u given ≡ advanced c.run c.trace [] (ok z)
  advance-to u given y s g o l z r =
      advance-done file c.run u given c.trace [] m e (record { run_fits_lem = h.run_fits_lem; not_early = o; not_late = omega (arith, l, h.not_late); bag_fits_lem = g })
      ∙ ap (λ (k : Ended (List Entry)). advanced c.run c.trace [] (ok k))
      (advance_only c.run u given c.trace m w h.run_fits_lem o z (subst (λ (k : Bag). Ends (nested m) (length c.trace) u k (from_run m c) z) (sym s) r))

  -- to an earlier moment than the last one's it does fewer
  earlier : (last : ℕ) → q.opening ≡ suc last → 0 < q.instants → last < t → (now : ℕ) → now < last → (own_advance file c now []).instants < q.instants
  unfolding advanced
  earlier last o i j now l = go (ltb now (opening_of m c.run)) refl
    where
      go : (b : Bool) → ltb now (opening_of m c.run) ≡ b → (own_advance file c now []).instants < q.instants
      go true b =
          let r = advance_refused file c.run now [] c.trace [] 11 (advance_refuses_time m e h.run_fits_lem (inl (ltb-true now _ b))) in
          omega (arith, i, ap (λ (a : Advanced). a.instants) r)
      go false b =
          let r = fewer (nested m) now x.cut.chain (ltb-false now _ b) (omega (arith, o, l)) in
          omega (arith, r.2, ap (λ (a : Advanced). a.instants) (advance-to now [] [] empty-bag.1 empty-bag.0 (ltb-false now _ b) (omega arith) r.0 r.1))

  pub as_far : 0 < (turn m t has c).instants
      → (last : ℕ) × (last < t) × (opening_of m (turn m t has c).run ≡ suc last)
      × (own_advance file c last []
      ≡ (let a = turn m t has c in record { number = 0; instants = a.instants; steps = a.steps; used = a.used; run = a.run; trace = a.trace; table = [] }))
      × ((now : ℕ) → now < last → (own_advance file c now []).instants < (turn m t has c).instants)
  unfolding advanced ended
  as_far i = go (cut-where m w t has c bag h x.cut)
    where
      a : Advanced
      a = turn m t has c

      is : a ≡ advanced c.run c.trace [] (ok (end_within m t has c bag))
      is = turn-may m t has c bag h

      go : (q ≡ from_run m c) ⊎ LedTo (nested m) (length c.trace) t (from_run m c) q
          → (last : ℕ) × (last < t) × (opening_of m a.run ≡ suc last)
          × (own_advance file c last [] ≡ record { number = 0; instants = a.instants; steps = a.steps; used = a.used; run = a.run; trace = a.trace; table = [] })
          × ((now : ℕ) → now < last → (own_advance file c now []).instants < a.instants)
      go (inl z) = absurd (omega (arith, i, ap (λ (r : Advanced). r.instants) is, ap (λ (p : Progress (List Entry)). p.instants) z))
      go (inr z) =
          let size = pairs-length _ (atomics m.components) q.state (turn-fit m w t has c bag h).0 in
          let none : with_rules (length q.state) q [] ≡ []
          = ap (λ n. with_rules n q []) size ∙ no_table _ q (nest-long m (length c.trace) z.last [] z.ends_so (inl refl)) in
          let as_turn : own_advance file c z.last [] ≡ record {
            number = 0;
            instants = q.instants;
            steps = q.steps;
            used = length q.trace;
            run = stored (run_bytes (record { opening = q.opening; entries = q.state })) c.run;
            trace = stored q.trace c.trace;
            table = [];
          } =
          advance-to z.last [] [] empty-bag.1 empty-bag.0 z.later (omega (arith, z.in_time)) (ended 0 q) z.ends_so
          ∙ (λ i. record {
            number = 0;
            instants = q.instants;
            steps = q.steps;
            used = length q.trace;
            run = stored (run_bytes (record { opening = q.opening; entries = q.state })) c.run;
            trace = stored q.trace c.trace;
            table = none i;
          }) in (
            z.last,
            z.in_time,
            ap (λ (r : Run). r.opening) (turn-back m w t has c bag h).1 ∙ z.opened,
            as_turn ∙ ap (λ (r : Advanced). record { number = 0; instants = r.instants; steps = r.steps; used = r.used; run = r.run; trace = r.trace; table = [] }) (sym is),
            λ now l. subst (λ (r : Advanced). (own_advance file c now []).instants < r.instants) (sym is) (earlier z.last z.opened (omega (arith, z.more)) z.in_time now l),
          )

  -- the progress with the instant that is left undone
  abbrev on : Progress (List Entry)
  on = with_instant (nested m) (length c.trace) t (to_bag bag) q x.cut.now (x.cut.first ∷ x.cut.others) x.cut.after

  pub next_too_long : NextTooLong file t has c bag (turn m t has c)
  unfolding advanced succeeded ended
  next_too_long = go n.which
    where
      n : DoneNext (nested m) (length c.trace) t (to_bag bag) (from_run m c) on x.cut.now x.cut.given
      n = done_next (agree-order m w) x.cut (fitting m w t has c bag h) h.not_early

      told : (given : Bytes) → ((x.cut.now < t) × (given ≡ [])) ⊎ ((x.cut.now ≡ t) × (given ≡ bag))
          → own_advance file c x.cut.now given ≡ advanced c.run c.trace [] (ok (succeeded x.cut.now on)) → NextTooLong file t has c bag (turn m t has c)
      told given which r = record {
        now = x.cut.now;
        given = given;
        which = which;
        stands = ap (λ (z : Advanced). z.number) r;
        one_more = ap (λ (z : Advanced). z.instants) r ∙ ap suc (sym (ap (λ (z : Advanced). z.instants) (turn-may m t has c bag h)));
        too_long = subst (λ (z : Advanced). has < z.steps) (sym r) x.cut.too_many;
      }

      go : ((x.cut.now < t) × (x.cut.given ≡ [])) ⊎ ((x.cut.now ≡ t) × (x.cut.given ≡ to_bag bag)) → NextTooLong file t has c bag (turn m t has c)
      go (inl z) =
          told [] (inl (z.0, refl))
          (advance-to x.cut.now [] x.cut.given (empty-bag.1 ∙ sym z.1) empty-bag.0 n.from_open (omega (arith, z.0)) (succeeded x.cut.now on) n.ends_so)
      go (inr z) =
          told bag (inr (z.0, refl)) (advance-to x.cut.now bag x.cut.given (sym z.1) h.bag_fits_lem n.from_open (omega (arith, z.0)) (succeeded x.cut.now on) n.ends_so)

pub left_by_22 : (file : Bytes) (m : Model) → WellFormed m → accepted file ≡ ok m → (t has : ℕ) (c : Channel) → (turn m t has c).number ≡ 22
    → LeftBy22 file m t has c (turn m t has c)
left_by_22 file m w e t has c n = let x = cut-here m w t has c n in record {
  bag = x.bag;
  may_turn = x.may;
  untouched = untouched file m w e t has c x;
  as_far = as_far file m w e t has c x;
  next_too_long = next_too_long file m w e t has c x;
}
