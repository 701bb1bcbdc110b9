-- What the C header says of lengths and of a call made again: the longest model file, run and record, columns, an advance after 13 or 15, and a feed
-- after 15 (`FeedResumes`). What the first call left is read back by the second (`Fitting`), and the instants are those of `Resuming`. Assumes nothing.
use mathlib.Core.Path.{◌≡◌, refl, sym, ap, ap₂, ◌∙◌, subst}
use mathlib.Core.Logic.{inl, inr}
use Prim.Native.Nat.{ℕ, ◌+◌, ◌≤◌, ◌<◌}
use mathlib.Core.List.{List, ◌++◌}
use mathlib.Core.Bool.{Bool, true, false}
use native.Mathlib.Omega.{arith}
use lib.Dec.{ltb, eqb}
use lib.ListN.{length, take, drop, length-append}
use borrow.Author.Tests.{ltb-true, ltb-false, eqb-true, eqb-false}
use Rattle.definition.specs.Bytes.{Bytes, AllBytes, ok, stored}
use Rattle.definition.specs.Limits.{max_moment, longest_model}
use Rattle.definition.specs.Model.{Model, atomics}
use Rattle.definition.specs.Pinned.Decoder.{accepted}
use Rattle.definition.specs.SavedRun.{Entry, Run, run_length, atomic_count, run_of, run_bytes, run_fits}
use Rattle.definition.specs.Step.{nested}
use Rattle.definition.specs.Advance.{Ended, ended}
use Rattle.definition.specs.AdvanceRelation.{Ends}
use Rattle.definition.specs.Engine.{to_bag, bag_fits, Advanced, with_rules, advanced, advance}
use Rattle.definition.specs.Flatten.{flat}
use Rattle.definition.specs.Carrying.{begins}
use Rattle.definition.specs.Demands.{refused_advance, opening_of, MayAdvance, AdvanceRefusal, advance_refuses_run, advance_refuses_time, advance_refuses_bag, Together, Header}
use Rattle.law_model.proofs.WellFormed.{WellFormed}
use Rattle.law_model.proofs.Reading.{accepted_sound}
use Rattle.law_model.proofs.RunBack.{length_run, run-written}
use Rattle.law_flat.proofs.FlatSound.{flat_sound}
use Rattle.law_nest.proofs.Pairs.{pairs-length}
use Rattle.law_columns.proofs.ColumnPlaces.{four-longer}
use Rattle.theory.proofs.Buffers.{stored-again, stored-front, stored-behind}
use Rattle.law_calls.proofs.Fitting.{FitRun, fits_run, fit_written, advance-fit}
use Rattle.law_model.proofs.Answers.{end_of, advance-done}
use Rattle.theory.proofs.Joined.{short-of, advance-short}
use Rattle.theory.proofs.Feeds.{feed-short}
use Rattle.theory.proofs.RuleTables.{same-rules, Long, written, with-written, with_none, over-written, nest-long}
use Rattle.theory.proofs.CallRows.{advance_refused}
use Rattle.theory.proofs.Demand1.{advance_ends, advance_only}
use Rattle.theory.proofs.Lengths.{model-long, run_long, table-long, feed-long}
use Rattle.law_refusals.proofs.Judged.{accepted_sound as sound-of}
use Rattle.law_calls.proofs.Counted.{counted_end}
use Rattle.theory.proofs.Resuming.{undone-open, undone-again, overrun-again, one-call}
use Rattle.theory.proofs.FeedResumes.{feed_resumes}
use Rattle.theory.proofs.TurnAdvances.{turn-traces}

module _ (file run : Bytes) (t : ℕ) (bag trace table : Bytes) (m : Model) (b : AllBytes file) (e : accepted file ≡ ok m) where
  abbrev a : Advanced
  a = advance file run t bag trace table

  sound : WellFormed m
  sound = (accepted_sound file m b e).sound

  -- ---- a number that comes from an instant

  no_row : (n : ℕ) → 12 < a.number → AdvanceRefusal file run t bag n → n ≤ 12 → ⊥
  no_row n l r h = omega (arith, l, h, ap (λ (z : Advanced). z.number) (advance_refused file run t bag trace table n r))

  may : 12 < a.number → MayAdvance m run t bag
  may l = go (run_fits m run) refl (ltb t (opening_of m run)) refl (ltb max_moment t) refl (bag_fits bag) refl
    where
      go : (r : Bool) → run_fits m run ≡ r → (u : Bool) → ltb t (opening_of m run) ≡ u → (v : Bool) → ltb max_moment t ≡ v → (g : Bool) → bag_fits bag ≡ g → MayAdvance m run t bag
      go false f u h v i g k = absurd (no_row 10 l (advance_refuses_run m e f) (omega arith))
      go true f true h v i g k = absurd (no_row 11 l (advance_refuses_time m e f (inl (ltb-true _ _ h))) (omega arith))
      go true f false h true i g k = absurd (no_row 11 l (advance_refuses_time m e f (inr (ltb-true _ _ i))) (omega arith))
      go true f false h false i false k = absurd (no_row 12 l (advance_refuses_bag m e f (ltb-false _ _ h) (ltb-false _ _ i) k) (omega arith))
      go true f false h false i true k = record { run_fits_lem = f; not_early = ltb-false _ _ h; not_late = ltb-false _ _ i; bag_fits_lem = k }

  -- ---- what the first call left

  module _ (h : MayAdvance m run t bag) where
    abbrev end : Ended (List Entry)
    end = end_of m run t bag trace

    abbrev left : Run
    left = record { opening = end.progress.opening; entries = end.progress.state }

    ends : Ends (nested m) (length trace) t (to_bag bag) (begins (opening_of m run) (run_of m run).entries) end
    ends = advance_ends run t bag trace m sound h.run_fits_lem h.not_early

    is : a ≡ advanced run trace table (ok end)
    is = advance-done file run t bag trace table m e h

    number_is : a.number ≡ end.number
    unfolding advanced
    number_is = ap (λ (z : Advanced). z.number) is

    instants-is : a.instants ≡ end.progress.instants
    unfolding advanced
    instants-is = ap (λ (z : Advanced). z.instants) is

    steps-is : a.steps ≡ end.progress.steps
    unfolding advanced
    steps-is = ap (λ (z : Advanced). z.steps) is

    used-is : a.used ≡ length end.progress.trace
    unfolding advanced
    used-is = ap (λ (z : Advanced). z.used) is

    run_is : a.run ≡ stored (run_bytes left) run
    unfolding advanced
    run_is = ap (λ (z : Advanced). z.run) is

    trace-is : a.trace ≡ stored end.progress.trace trace
    unfolding advanced
    trace-is = ap (λ (z : Advanced). z.trace) is

    table_is : a.table ≡ with_rules (length left.entries) end.progress table
    unfolding advanced
    table_is = ap (λ (z : Advanced). z.table) is

    -- its records, at the front of its trace
    records-are : take a.used a.trace ≡ end.progress.trace
    records-are = ap₂ (λ (n : ℕ) (s : Bytes). take n s) used-is trace-is ∙ stored-front end.progress.trace trace

    fit : FitRun m left
    fit = advance-fit m sound run t (length trace) (to_bag bag) h.run_fits_lem h.not_early h.not_late

    back : (run_fits m a.run ≡ true) × (run_of m a.run ≡ left)
    unfolding stored
    back = rw run_is (fit_written m sound left (drop (length (run_bytes left)) run) fit)

    -- the same call may be made on it
    again : 0 < end.number → MayAdvance m a.run t bag
    again l = record {
      run_fits_lem = back.0;
      not_early = subst (λ (r : Run). r.opening ≤ t) (sym back.1) (undone-open (nested m) t (to_bag bag) (length trace) ends l h.not_early);
      not_late = h.not_late;
      bag_fits_lem = h.bag_fits_lem;
    }

    -- the second call, by where its instants end
    second : 0 < end.number → (next lent : Bytes) (z : Ended (List Entry))
        → Ends (nested m) (length next) t (to_bag bag) (begins left.opening left.entries) z
        → advance file a.run t bag next lent ≡ advanced a.run next lent (ok z)
    second l next lent z r =
        let k = again l in
        advance-done file a.run t bag next lent m e k
        ∙ ap (λ (y : Ended (List Entry)). advanced a.run next lent (ok y))
        (advance_only a.run t bag next m sound k.run_fits_lem k.not_early z
        (subst (λ (q : Run). Ends (nested m) (length next) t (to_bag bag) (begins q.opening q.entries) z) (sym back.1) r))

    -- the saved run written again over itself
    same-run : stored (run_bytes left) a.run ≡ a.run
    same-run = ap (stored (run_bytes left)) run_is ∙ stored-again (run_bytes left) (run_bytes left) run refl ∙ sym run_is

    -- ---- after 13

    pub refused_again : a.number ≡ 13 → (next lent : Bytes) → advance file a.run t bag next lent ≡ refused_advance 13 a.run next lent
    unfolding advanced stored ended with_rules
    refused_again q next lent =
        let k : end.number ≡ 13 = sym number_is ∙ q in
        second (omega (arith, k)) next lent (ended 13 (begins left.opening left.entries))
        (undone-again (nested m) t (to_bag bag) (length trace) ends k (length next) (begins left.opening left.entries) refl)
        ∙ ap (λ (s : Bytes). refused_advance 13 s next lent) same-run

    -- ---- after 15

    -- the second call, beside the first
    module _ (full : end.number ≡ 15) (next : Bytes) where
      abbrev old : Bytes
      old = end.progress.trace

      abbrev then : Ended (List Entry)
      then = end_of m a.run t bag next

      ready : MayAdvance m a.run t bag
      ready = again (omega (arith, full))

      then-ends : Ends (nested m) (length next) t (to_bag bag) (begins left.opening left.entries) then
      then-ends =
          subst (λ (q : Run). Ends (nested m) (length next) t (to_bag bag) (begins q.opening q.entries) then) back.1
          (advance_ends a.run t bag next m sound ready.run_fits_lem ready.not_early)

      then_is : advance file a.run t bag next a.table ≡ advanced a.run next a.table (ok then)
      then_is = advance-done file a.run t bag next a.table m e ready

      -- both as one call with the longer trace
      abbrev both : Ended (List Entry)
      both = counted_end (nested m) t (to_bag bag) end.progress.instants end.progress.steps old end.progress.rules then

      both_ends : Ends (nested m) (length (old ++ next)) t (to_bag bag) (begins (opening_of m run) (run_of m run).entries) both
      both_ends =
          subst (λ (n : ℕ). Ends (nested m) n t (to_bag bag) (begins (opening_of m run) (run_of m run).entries) both) (sym (length-append old next))
          (one-call (nested m) t (to_bag bag) (length trace) ends full (length next) then then-ends)

      both_is : advance file run t bag (old ++ next) table ≡ advanced run (old ++ next) table (ok both)
      both_is =
          advance-done file run t bag (old ++ next) table m e h
          ∙ ap (λ (y : Ended (List Entry)). advanced run (old ++ next) table (ok y)) (advance_only run t bag (old ++ next) m sound h.run_fits_lem h.not_early both both_ends)

      then_fit : FitRun m (record { opening = then.progress.opening; entries = then.progress.state })
      then_fit = advance-fit m sound a.run t (length next) (to_bag bag) ready.run_fits_lem ready.not_early ready.not_late

      as_long : length (run_bytes (record { opening = then.progress.opening; entries = then.progress.state })) ≡ length (run_bytes left)
      as_long =
          let L = atomics m.components in
          length_run _ ∙ ap run_length (pairs-length _ L then.progress.state then_fit.0 ∙ sym (pairs-length _ L left.entries fit.0)) ∙ sym (length_run left)

      -- the second call's rules stand over the first one's, or it has none
      as_many : length left.entries ≡ length then.progress.state
      as_many = let L = atomics m.components in pairs-length _ L left.entries fit.0 ∙ sym (pairs-length _ L then.progress.state then_fit.0)

      long : (r : Bytes) {e : Ended (List Entry)} (o : ℕ) (rs : List Entry) → Ends (nested m) (length r) t (to_bag bag) (begins o rs) e → Long (length left.entries) e.progress
      long r {e} o rs h =
          subst (λ (n : ℕ). Long n e.progress) (sym (pairs-length _ (atomics m.components) left.entries fit.0)) (nest-long m (length r) t (to_bag bag) h (inl refl))

      rules-on : with_rules (length then.progress.state) both.progress table ≡ with_rules (length then.progress.state) then.progress a.table
      rules-on = go (eqb then.progress.instants 0) refl (long next left.opening left.entries then-ends)
        where
          n : ℕ
          n = length left.entries

          go : (b : Bool) → eqb then.progress.instants 0 ≡ b → Long n then.progress
              → with_rules (length then.progress.state) both.progress table ≡ with_rules (length then.progress.state) then.progress a.table
          go true z h =
              let none = eqb-true then.progress.instants 0 z in
              same-rules _ n both.progress end.progress table (sym as_many) (omega (arith, none)) (rw z) ∙ sym (with_none _ then.progress a.table none ∙ table_is)
          go false z (inl h) = absurd (eqb-false then.progress.instants 0 z h)
          go false z (inr h) =
              let some = eqb-false then.progress.instants 0 z in
              let ps = then.progress.rules in
              with-written _ both.progress table (λ q. some (omega (arith, q)))
              ∙ ap₂ (λ k rs. written k rs table) (sym as_many) (let r : both.progress.rules ≡ ps = rw z in r)
              ∙ sym (with-written _ then.progress a.table some ∙ ap₂ (λ k s. written k ps s) (sym as_many) table_is
              ∙ over-written n end.progress ps table (long trace (opening_of m run) (run_of m run).entries ends) h)

      resumes-old : Together a (advance file a.run t bag next a.table) (advance file run t bag (old ++ next) table)
      unfolding advanced
      resumes-old = record {
        number = ap (λ (z : Advanced). z.number) both_is ∙ sym (ap (λ (z : Advanced). z.number) then_is);
        instants = ap (λ (z : Advanced). z.instants) both_is ∙ sym (ap₂ ◌+◌ instants-is (ap (λ (z : Advanced). z.instants) then_is));
        steps = ap (λ (z : Advanced). z.steps) both_is ∙ sym (ap₂ ◌+◌ steps-is (ap (λ (z : Advanced). z.steps) then_is));
        used = ap (λ (z : Advanced). z.used) both_is ∙ length-append old then.progress.trace ∙ sym (ap₂ ◌+◌ used-is (ap (λ (z : Advanced). z.used) then_is));
        run =
            ap (λ (z : Advanced). z.run) both_is ∙ sym (stored-again _ (run_bytes left) run as_long)
            ∙ ap (stored (run_bytes (record { opening = then.progress.opening; entries = then.progress.state }))) (sym run_is) ∙ sym (ap (λ (z : Advanced). z.run) then_is);
        trace =
            ap (λ (z : Advanced). z.trace) both_is ∙ stored-behind old then.progress.trace next
            ∙ sym (ap₂ ◌++◌ records-are (ap (λ (z : Advanced). z.trace) then_is));
        table = ap (λ (z : Advanced). z.table) both_is ∙ rules-on ∙ sym (ap (λ (z : Advanced). z.table) then_is);
      }

    pub resumes : a.number ≡ 15 → (next : Bytes) → Together a (advance file a.run t bag next a.table) (advance file run t bag (take a.used a.trace ++ next) table)
    resumes q next =
        subst (λ (s : Bytes). Together a (advance file a.run t bag next a.table) (advance file run t bag (s ++ next) table)) (sym records-are)
        (resumes-old (sym number_is ∙ q) next)

    -- where it did no instant
    pub needs_longer : a.number ≡ 15 → a.instants ≡ 0 → AllBytes run → (next lent : Bytes) → length next ≤ length trace
        → advance file run t bag next lent ≡ refused_advance 15 run next lent
    unfolding advanced stored ended run_of with_rules
    needs_longer q i r next lent l =
        let f = fits_run m run h.run_fits_lem in
        advance-done file run t bag next lent m e h
        ∙ ap (λ (y : Ended (List Entry)). advanced run next lent (ok y))
        (advance_only run t bag next m sound h.run_fits_lem h.not_early (ended 15 (begins (opening_of m run) (run_of m run).entries))
        (overrun-again (nested m) t (to_bag bag) (length trace) ends (sym number_is ∙ q) (sym instants-is ∙ i) (length next) l))
        ∙ ap (λ (s : Bytes). refused_advance 15 s next lent) (run-written (atomic_count m) f.1 f.2 r)

pub header : Header
header = record {
  model_length = λ file m b e.
      let s = accepted_sound file m b e in
      (subst (λ (z : Bytes). length z ≤ longest_model) (sym (sound-of file m b e).1) (model-long m s.sound), model-long (flat m) (flat_sound m s.sound s.few_routes));
  run_length_lem = λ file m b e. run_long m (accepted_sound file m b e).sound;
  table_length = λ file m b e. table-long m (accepted_sound file m b e).sound;
  record_length_lem = advance-short;
  feed_record_length = feed-short;
  turn_record_length = λ file m t has c b e. short-of _ (turn-traces m (accepted_sound file m b e) t has c);
  feed_length = feed-long;
  columns_length = λ trace columns r.
      ap length r.its_columns ∙ four-longer r.records ∙ ap (λ (s : Bytes). length s + 4) (sym r.is_trace_lem.recorded.whole);
  resumes = λ file run t bag trace table next m b e q. resumes file run t bag trace table m b e (may file run t bag trace table m b e (omega arith)) q next;
  needs_longer = λ file run t bag trace table next lent m b r e q i l.
      needs_longer file run t bag trace table m b e (may file run t bag trace table m b e (omega arith)) q i r next lent l;
  refused_again = λ file run t bag trace table next lent m b e q.
      refused_again file run t bag trace table m b e (may file run t bag trace table m b e (omega arith)) q next lent;
  feed_resumes = feed_resumes;
}
