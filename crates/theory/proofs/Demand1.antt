-- Demand 1: what is outside the layouts is refused by its listed number and changes no lent byte, everything else is accepted, and an advance
-- and a feed end as the papers tell. Assumes nothing.
use Rattle.law_refusals.proofs.Runs as RR
use Rattle.law_refusals.proofs.Bags as RB
use mathlib.Core.Path.{subst, ◌≡◌, refl, sym, ap, ◌∙◌}
use mathlib.Core.Logic.{◌⊎◌, inl, inr}
use Prim.Native.Nat.{ℕ, suc, ◌≤◌, ◌<◌}
use mathlib.Core.List.{List}
use mathlib.Core.Bool.{Bool, true, false}
use native.Mathlib.Omega.{arith}
use lib.Dec.{ltb}
use lib.ListN.{length}
use borrow.Author.Tests.{le-ltb, ltb-true, ltb-false}
use Rattle.definition.specs.Bytes.{Bytes, AllBytes, Result, ok, refused, ◌>>=◌, stored}
use Rattle.definition.specs.Limits.{max_moment}
use Rattle.definition.specs.Model.{Model}
use Rattle.definition.specs.File.{model_bytes}
use Rattle.definition.specs.Pinned.Decoder.{accepted}
use Rattle.definition.specs.SavedRun.{Entry, atomic_count, run_of, run_bytes, run_fits}
use Rattle.definition.specs.Step.{nested}
use Rattle.definition.specs.Advance.{Progress, Ended, advance_from}
use Rattle.definition.specs.AdvanceRelation.{Ends}
use Rattle.definition.specs.Engine.{Advanced, wrote, to_bag, bag_fits, advance_checks, with_rules, advanced, advance}
use Rattle.definition.specs.Flatten.{flat, flatten}
use Rattle.definition.specs.Carrying.{begins}
use Rattle.definition.specs.Demands.{opening_of, MayAdvance, AdvanceRefusal, AdvanceNumber, by_row, by_instants, Demand1, advance_refuses_model, advance_refuses_run, advance_refuses_time, advance_refuses_bag}
use Rattle.law_model.proofs.WellFormed.{WellFormed}
use Rattle.law_model.proofs.Reading.{accepted_sound}
use Rattle.law_model.proofs.RunBack.{run-written}
use Rattle.law_flat.proofs.Checks.{advance-ok}
use Rattle.law_refusals.proofs.Judged.{judged, judged-only, judged-number, sound_accepted, accepted_sound as sound-of}
use Rattle.law_calls.proofs.BagOrder.{agree-order}
use Rattle.theory.proofs.CallRows.{row-of, start_refused, start_number, flatten_refused, flatten_number, reading_refused, reading_number, advance_refused}
use Rattle.theory.proofs.FeedRows.{feed_refused}
use Rattle.theory.proofs.FeedCalls.{turns-end, feed_only, nothing_fed_lem, feed_fits, feed_number}
use Rattle.theory.proofs.ChannelRows.{channel_rows}
use Rattle.theory.proofs.ColumnRows.{columns_refused, columns_number, columns_done, trace_refused, trace_number, trace_done}
use Rattle.law_model.proofs.Answers.{start_done, reading_done, end_of, advance-done}
use Rattle.law_calls.proofs.Fitting.{fits_run, start_fits, advance_fits_lem}
use Rattle.law_calls.proofs.Ending.{ends, only, undone}

flatten_done : (file buffer : Bytes) (m : Model) → accepted file ≡ ok m → length (model_bytes (flat m)) ≤ length buffer
    → flatten file buffer ≡ record { number = 0; written = length (model_bytes (flat m)); buffer = stored (model_bytes (flat m)) buffer }
unfolding flatten wrote
flatten_done file buffer m e l = rw (e, le-ltb _ _ l)

-- ---- an advance that no check refuses

module _ (run : Bytes) (t : ℕ) (bag trace : Bytes) (m : Model) (w : WellFormed m) (fit : run_fits m run ≡ true) (early : opening_of m run ≤ t) where
  pub advance_ends : Ends (nested m) (length trace) t (to_bag bag) (begins (opening_of m run) (run_of m run).entries) (end_of m run t bag trace)
  unfolding advance_from
  advance_ends = ends (agree-order m w) (length trace) t (to_bag bag) (suc t) (begins (opening_of m run) (run_of m run).entries) (refl, (fits_run m run fit).0.0) early (omega arith)

  pub advance_only : (e : Ended (List Entry)) → Ends (nested m) (length trace) t (to_bag bag) (begins (opening_of m run) (run_of m run).entries) e → end_of m run t bag trace ≡ e
  unfolding advance_from
  advance_only e r = only (agree-order m w) (length trace) t (to_bag bag) r (suc t) (refl, (fits_run m run fit).0.0) early (omega arith)

  -- where no instant stands, the buffers are as they were
  as_before : (table : Bytes) → AllBytes run → 0 < (end_of m run t bag trace).number → (end_of m run t bag trace).progress.instants ≡ 0
      → (let a = advanced run trace table (ok (end_of m run t bag trace)) in (a.run ≡ run) × (a.trace ≡ trace) × (a.table ≡ table))
  unfolding advanced stored run_of with_rules
  as_before table b n i = go (undone advance_ends)
    where
      e : Ended (List Entry)
      e = end_of m run t bag trace

      go : (e.number ≡ 0) ⊎ ((e.progress ≡ begins (opening_of m run) (run_of m run).entries) ⊎ (0 < e.progress.instants))
          → (let a = advanced run trace table (ok e) in (a.run ≡ run) × (a.trace ≡ trace) × (a.table ≡ table))
      go (inl z) = absurd (omega arith)
      go (inr (inl z)) =
          let f = fits_run m run fit in (
            ap (λ (p : Progress (List Entry)). stored (run_bytes (record { opening = p.opening; entries = p.state })) run) z ∙ run-written (atomic_count m) f.1 f.2 b,
            ap (λ (p : Progress (List Entry)). stored p.trace trace) z,
            ap (λ (p : Progress (List Entry)). with_rules (length p.state) p table) z,
          )
      go (inr (inr z)) = absurd (omega arith)

nothing_done : (file run : Bytes) (t : ℕ) (bag trace table : Bytes) (m : Model) → AllBytes file → AllBytes run → accepted file ≡ ok m
    → 0 < (advance file run t bag trace table).number → (advance file run t bag trace table).instants ≡ 0
    → ((advance file run t bag trace table).run ≡ run) × ((advance file run t bag trace table).trace ≡ trace) × ((advance file run t bag trace table).table ≡ table)
unfolding advance advanced
nothing_done file run t bag trace table m bf br e = rw e (go (advance_checks m run t bag) refl)
  where
    all : Advanced
    all = advanced run trace table (advance_checks m run t bag >>= λ _. ok (end_of m run t bag trace))

    go : (r : Result (Unit {0})) → advance_checks m run t bag ≡ r → 0 < all.number → all.instants ≡ 0 → (all.run ≡ run) × (all.trace ≡ trace) × (all.table ≡ table)
    go (refused n) f = rw f (λ u v. (refl, refl, refl))
    go (ok z) f =
        let c = advance-ok m run t bag f in
        rw f (as_before run t bag trace m (accepted_sound file m bf e).sound c.run_fits_lem c.not_early table br)

-- ---- the number of any advance

module _ (file run : Bytes) (t : ℕ) (bag trace table : Bytes) (b : AllBytes file) where
  number_by : (n : ℕ) → (advance file run t bag trace table).number ≡ n → AdvanceNumber file run t bag trace n → AdvanceNumber file run t bag trace (advance file run t bag trace table).number
  number_by n e h = subst (AdvanceNumber file run t bag trace) (sym e) h

  number-row : (n : ℕ) → AdvanceRefusal file run t bag n → AdvanceNumber file run t bag trace (advance file run t bag trace table).number
  number-row n r = number_by n (ap (λ a. a.number) (advance_refused file run t bag trace table n r)) (by_row n r)

  -- a model that is accepted: its rows one after the other
  number-rows : (m : Model) → accepted file ≡ ok m → (r : Bool) → run_fits m run ≡ r → (u : Bool) → ltb t (run_of m run).opening ≡ u → (v : Bool) → ltb max_moment t ≡ v
      → (g : Bool) → bag_fits bag ≡ g → AdvanceNumber file run t bag trace (advance file run t bag trace table).number
  unfolding advanced
  number-rows m e false f u h v i g k = number-row 10 (advance_refuses_run m e f)
  number-rows m e true f true h v i g k = number-row 11 (advance_refuses_time m e f (inl (ltb-true _ _ h)))
  number-rows m e true f false h true i g k = number-row 11 (advance_refuses_time m e f (inr (ltb-true _ _ i)))
  number-rows m e true f false h false i false k = number-row 12 (advance_refuses_bag m e f (ltb-false _ _ h) (ltb-false _ _ i) k)
  number-rows m e true f false h false i true k =
      let may : MayAdvance m run t bag = record { run_fits_lem = f; not_early = ltb-false t (run_of m run).opening h; not_late = ltb-false max_moment t i; bag_fits_lem = k } in
      let w = (accepted_sound file m b e).sound in
      number_by (end_of m run t bag trace).number (ap (λ a. a.number) (advance-done file run t bag trace table m e may)) (by_instants m (end_of m run t bag trace) e may (advance_ends run t bag trace m w f may.not_early))

  advance_number : AdvanceNumber file run t bag trace (advance file run t bag trace table).number
  advance_number = go (accepted file) refl
    where
      go : (r : Result Model) → accepted file ≡ r → AdvanceNumber file run t bag trace (advance file run t bag trace table).number
      go (refused n) e = let h = row-of file n b e in number-row n (advance_refuses_model n h.0 h.1)
      go (ok m) e = number-rows m e (run_fits m run) refl (ltb t (run_of m run).opening) refl (ltb max_moment t) refl (bag_fits bag) refl

pub demand1 : Demand1
demand1 = record {
  fits_run = RR.fits_run;
  run_fits_lem = RR.run_fits_lem;
  fits_bag = RB.fits_bag;
  bag_fits_lem = RB.bag_fits_lem;
  model_judged = judged;
  model_only = judged-only;
  model_numbers = judged-number;
  sound_accepted = sound_accepted;
  accepted_sound = sound-of;
  start_refused = start_refused;
  start_number = start_number;
  flatten_refused = flatten_refused;
  flatten_number = flatten_number;
  columns_refused = columns_refused;
  columns_number = columns_number;
  trace_refused = trace_refused;
  trace_number = trace_number;
  reading_refused = reading_refused;
  reading_number = reading_number;
  advance_refused = advance_refused;
  advance_number = advance_number;
  feed_refused = feed_refused;
  feed_number = feed_number;
  start_done = start_done;
  flatten_done = flatten_done;
  columns_done = columns_done;
  trace_done = trace_done;
  reading_done = reading_done;
  advance_ends = λ file run t bag trace table m b e h.
      let w = (accepted_sound file m b e).sound in
      (end_of m run t bag trace, advance_ends run t bag trace m w h.run_fits_lem h.not_early, advance-done file run t bag trace table m e h);
  advance_only = λ file run t bag trace table m b e h r s.
      advance-done file run t bag trace table m e h ∙ ap (λ z. advanced run trace table (ok z)) (advance_only run t bag trace m (accepted_sound file m b e).sound h.run_fits_lem h.not_early r s);
  feed_ends = λ file run end feed trace m bs b e h.
      let t = turns-end file m b e run trace end feed bs h in
      (t.0, t.1, t.2, feed_only file m b e run trace end feed bs h t.0 t.1 t.2);
  feed_only = λ file run end feed trace m bs b e h. feed_only file m b e run trace end feed bs h;
  channel_rows = channel_rows;
  nothing_done = nothing_done;
  nothing_fed_lem = λ file run end feed trace m b r e. nothing_fed_lem file m b e run end feed trace r;
  start_fits = start_fits;
  advance_fits_lem = advance_fits_lem;
  feed_fits = λ file run end feed trace m b e. feed_fits file m b e run end feed trace;
}
