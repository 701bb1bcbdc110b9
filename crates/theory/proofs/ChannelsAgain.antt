-- The whole call again and again, with one moment and one bag: each channel's part comes to hold the run that its one advance would have left,
-- whatever the other channels do, and stays so. Assumes nothing.
use mathlib.Core.Path.{◌≡◌, refl, sym, ap, ◌∙◌, subst}
use mathlib.Core.Logic.{◌⊎◌, inl, inr}
use mathlib.Core.Option.{some}
use Prim.Native.Nat.{ℕ, suc, ◌+◌, ◌≤◌, ◌<◌}
use mathlib.Core.List.{List, [], ◌∷◌, ◌++◌}
use mathlib.Core.Bool.{Bool, true, false}
use native.Mathlib.Omega.{arith}
use lib.Dec.{eqb}
use lib.ListN.{length, replicate, length-append, length-replicate}
use borrow.Author.Tests.{eqb-true, eqb-false}
use Rattle.definition.specs.Bytes.{Bytes, ok, stored}
use Rattle.definition.specs.Limits.{max_steps}
use Rattle.definition.specs.Model.{Model}
use Rattle.definition.specs.Pinned.Decoder.{accepted}
use Rattle.definition.specs.Sound.{Every}
use Rattle.definition.specs.SavedRun.{Run, run_fits}
use Rattle.definition.specs.Engine.{Advanced, bag_fits, advanced, advance}
use Rattle.definition.specs.Channels.{part, Channel, turn, ChannelsCall, channel_at, advance_channels}
use Rattle.definition.specs.ChannelShares.{WellCounted, has_at}
use Rattle.definition.specs.ChannelRows.{TurnRefusal, turn_refuses_time, MayTurn}
use Rattle.definition.specs.SeveralChannels.{alone, followed_by, EachChannel, runs_after, Repeated}
use Rattle.definition.specs.Demands.{opening_of, MayAdvance}
use Rattle.law_model.proofs.WellFormed.{WellFormed}
use Rattle.law_model.proofs.Answers.{advance-done}
use Rattle.law_calls.proofs.Fitting.{fit_written}
use Rattle.law_channels.proofs.Parts.{length_part}
use Rattle.law_channels.proofs.TurnRows.{turn-or, turn_refused}
use Rattle.theory.proofs.FeedEnds.{opens}
use Rattle.theory.proofs.Demand1.{advance_ends}
use Rattle.theory.proofs.Shown.{run_after, after-fits}
use Rattle.theory.proofs.TurnAdvances.{as_advance}
use Rattle.theory.proofs.TurnsCut.{row_number}
use Rattle.theory.proofs.TurnResumes.{some_same, longer, goes-on-in, opens-later}

module _ (file : Bytes) (m : Model) (w : WellFormed m) (e : accepted file ≡ ok m) (t : ℕ) (bag trace : Bytes) where
  abbrev whole : Bytes → Advanced
  whole run = advance file run t bag trace []

  abbrev channel : Bytes → Bytes → Channel
  channel run tr = record { run = run; trace = tr; bag = some bag }

  -- ---- an advance that succeeds

  may-advance : (run : Bytes) → (whole run).number ≡ 0 → MayAdvance m run t bag
  may-advance run z = go (turn-or m t (channel run trace))
    where
      go : ((n : ℕ) × TurnRefusal m t (channel run trace) n) ⊎ ((b : Bytes) × MayTurn m t (channel run trace) b) → MayAdvance m run t bag
      go (inl (n, r)) =
          let k = row_number r in
          let number : (turn m t 0 (channel run trace)).number ≡ n = ap (λ (a : Advanced). a.number) (turn_refused m t 0 (channel run trace) n r) in
          let own = as_advance file m w e t 0 (channel run trace) bag refl (λ q. omega (arith, q, number, k.1)) in
          absurd (omega (arith, z, number, k.0, ap (λ (a : Advanced). a.number) own))
      go (inr (b, h)) =
          record { run_fits_lem = h.run_fits_lem; not_early = h.not_early; not_late = h.not_late; bag_fits_lem = ap bag_fits (some_same bag b h.inside) ∙ h.bag_fits_lem }

  -- it leaves a run that fits, with the moment past t open
  success : (run : Bytes) → (whole run).number ≡ 0 → (run_fits m (whole run).run ≡ true) × (opening_of m (whole run).run ≡ suc t)
  unfolding advanced stored
  success run z =
      let h = may-advance run z in
      let is = advance-done file run t bag trace [] m e h in
      let back = fit_written m w (run_after m run t bag trace) _ (after-fits run t bag trace m w h) in
      let opened = opens (advance_ends run t bag trace m w h.run_fits_lem h.not_early) (sym (ap (λ (a : Advanced). a.number) is) ∙ z) in
      subst (λ (a : Advanced). (run_fits m a.run ≡ true) × (opening_of m a.run ≡ suc t)) (sym is) (back.0, ap (λ (r : Run). r.opening) back.1 ∙ opened)

  -- ---- one turn more

  -- a run that is done stays
  stays : (has : ℕ) (run tr : Bytes) → run_fits m run ≡ true → opening_of m run ≡ suc t → (turn m t has (channel run tr)).run ≡ run
  stays has run tr f o = ap (λ (a : Advanced). a.run) (turn_refused m t has (channel run tr) 11 (turn_refuses_time f (inl (omega (arith, o)))))

  -- Still to go: its own advance succeeds, and leaves what it is to leave.
  record ToGo (end run : Bytes) : Type 0 where
    pub succeeds_yet : (whole run).number ≡ 0
    pub leaves : (whole run).run ≡ end

  -- it is done by this turn, or a later moment is open
  one_turn : (has : ℕ) (end run tr : Bytes) → max_steps ≤ has → length trace ≤ length tr → ToGo end run
      → (let after = (turn m t has (channel run tr)).run in (after ≡ end) ⊎ (ToGo end after × (opening_of m run < opening_of m after)))
  unfolding alone followed_by
  one_turn has end run tr l r g = go (eqb a.number 22) refl
    where
      a : Advanced
      a = turn m t has (channel run tr)

      not-15 : (whole run).number ≡ 15 → ⊥
      not-15 z = omega (arith, g.succeeds_yet, z)

      go : (b : Bool) → eqb a.number 22 ≡ b → (a.run ≡ end) ⊎ (ToGo end a.run × (opening_of m run < opening_of m a.run))
      go false z =
          inl (ap (λ (y : Advanced). y.run)
          (as_advance file m w e t has (channel run tr) bag refl (eqb-false a.number 22 z) ∙ longer file m w e run t bag trace tr r not-15) ∙ g.leaves)
      go true z =
          let n = eqb-true a.number 22 z in
          -- a trace for what this turn wrote and for all that the advance would write
          let T = replicate a.used 0 ++ trace in
          let size : length T ≡ a.used + length trace = length-append (replicate a.used 0) trace ∙ ap (λ k. k + length trace) (length-replicate a.used 0) in
          let one = longer file m w e run t bag trace T (omega (arith, size)) not-15 in
          let two = goes-on-in file m w e t has (channel run tr) bag refl n trace T size in
          inr (
            record {
              succeeds_yet = sym (ap (λ (y : Advanced). y.number) two) ∙ ap (λ (y : Advanced). y.number) one ∙ g.succeeds_yet;
              leaves = sym (ap (λ (y : Advanced). y.run) two) ∙ ap (λ (y : Advanced). y.run) one ∙ g.leaves;
            },
            (opens-later file m w e t has (channel run tr) bag refl n l).0,
          )

-- ---- the whole call again and again

module _ (file : Bytes) (m : Model) (w : WellFormed m) (e : accepted file ≡ ok m)
    (each : (runs : Bytes) (b : ChannelsCall) (i : ℕ) → WellCounted b → i < b.count → EachChannel m runs b (advance_channels file runs b) i)
    (n i t : ℕ) (bag trace : Bytes) (l : i < n) where
  -- what one call does to the channel's part
  record OneCall (runs : Bytes) (b : ChannelsCall) : Type 0 where
    pub has : ℕ
    pub lent : Bytes
    pub enough : max_steps ≤ has
    pub long : length trace ≤ length lent
    pub becomes : part n i (advance_channels file runs b).runs ≡ (turn m t has (channel file m w e t bag trace (part n i runs) lent)).run

  one-call : (runs : Bytes) (b : ChannelsCall) → Repeated n i t bag (length trace) b → OneCall runs b
  unfolding channel_at
  one-call runs b s =
      let k = each runs b i s.counted (omega (arith, l, s.count)) in
      let h = has_at b (advance_channels file runs b).answers i in
      record {
        has = h;
        lent = part n i b.traces;
        enough = omega (arith, k.own_share.0, k.own_share.1);
        long = omega (arith, s.room, length_part n i b.traces l);
        becomes =
            ap (λ j. part j i (advance_channels file runs b).runs) (sym s.count) ∙ k.own_turn.run
            ∙ (λ j. (turn m (s.moment j) h (record { run = part (s.count j) i runs; trace = part (s.count j) i b.traces; bag = s.same_bag j })).run);
      }

  done-stays : (bs : List ChannelsCall) (runs : Bytes) → Every (Repeated n i t bag (length trace)) bs → run_fits m (part n i runs) ≡ true → opening_of m (part n i runs) ≡ suc t
      → part n i (runs_after file runs bs) ≡ part n i runs
  unfolding runs_after
  done-stays [] runs h f o = refl
  done-stays (b ∷ bs) runs h f o =
      let s = one-call runs b h.0 in
      let same = s.becomes ∙ stays file m w e t bag trace s.has (part n i runs) s.lent f o in
      done-stays bs (advance_channels file runs b).runs h.1 (ap (run_fits m) same ∙ f) (ap (opening_of m) same ∙ o) ∙ same

  ends_so : (end : Bytes) → run_fits m end ≡ true → opening_of m end ≡ suc t → (bs : List ChannelsCall) (runs : Bytes) → Every (Repeated n i t bag (length trace)) bs
      → ToGo file m w e t bag trace end (part n i runs) → t < opening_of m (part n i runs) + length bs → part n i (runs_after file runs bs) ≡ end
  unfolding runs_after
  ends_so end f o [] runs h g c = absurd (omega (arith, c, (may-advance file m w e t bag trace (part n i runs) g.succeeds_yet).not_early))
  ends_so end f o (b ∷ bs) runs h g c =
      go (one_turn file m w e t bag trace s.has end (part n i runs) s.lent s.enough s.long g) (λ r. ends_so end f o bs r h.1)
    where
      s : OneCall runs b
      s = one-call runs b h.0

      new : Bytes
      new = (turn m t s.has (channel file m w e t bag trace (part n i runs) s.lent)).run

      go : (new ≡ end) ⊎ (ToGo file m w e t bag trace end new × (opening_of m (part n i runs) < opening_of m new))
          → ((r : Bytes) → ToGo file m w e t bag trace end (part n i r) → t < opening_of m (part n i r) + length bs → part n i (runs_after file r bs) ≡ end)
          → part n i (runs_after file (advance_channels file runs b).runs bs) ≡ end
      go (inl q) ih =
          let same = s.becomes ∙ q in
          done-stays bs (advance_channels file runs b).runs h.1 (ap (run_fits m) same ∙ f) (ap (opening_of m) same ∙ o) ∙ same
      go (inr q) ih =
          ih (advance_channels file runs b).runs (subst (ToGo file m w e t bag trace end) (sym s.becomes) q.0) (omega (arith, q.1, ap (opening_of m) s.becomes, c))

  pub ends_as_one : (runs : Bytes) (bs : List ChannelsCall) → Every (Repeated n i t bag (length trace)) bs → t < opening_of m (part n i runs) + length bs
      → (advance file (part n i runs) t bag trace []).number ≡ 0 → part n i (runs_after file runs bs) ≡ (advance file (part n i runs) t bag trace []).run
  ends_as_one runs bs h c z =
      let k = success file m w e t bag trace (part n i runs) z in
      ends_so _ k.0 k.1 bs runs h (record { succeeds_yet = z; leaves = refl }) c
