-- Request (v): a feed is its calls in turn, is stopped by 13 and 15 alone, leaves the moment past its end open, and writes one trace.
-- Assumes nothing.
use mathlib.Core.Path.{◌≡◌, refl, sym, ap, ◌∙◌, subst}
use mathlib.Core.Logic.{◌⊎◌, inl}
use Prim.Native.Nat.{ℕ, suc, ◌<◌}
use mathlib.Core.List.{List, [], ◌∷◌, map, map-map}
use mathlib.Core.Bool.{true}
use native.Mathlib.Omega.{arith}
use lib.ListN.{length, take}
use Rattle.definition.specs.Lists.{is_empty}
use Rattle.definition.specs.Bytes.{Bytes, AllBytes, Result, ok, refused}
use Rattle.definition.specs.Limits.{longest_record}
use Rattle.definition.specs.Model.{Model}
use Rattle.definition.specs.Pinned.Decoder.{accepted}
use Rattle.definition.specs.Sound.{Every}
use Rattle.definition.specs.SavedRun.{Entry, Run, run_fits}
use Rattle.definition.specs.Advance.{Ended}
use Rattle.definition.specs.Feed.{FeedBag, first_moment, feed_calls}
use Rattle.definition.specs.FeedCall.{Fed, nothing_fed, stopped_by, fed_in_turn, advance_feed}
use Rattle.definition.specs.Calls.{AdvanceCall, advance_call, run_calls, engine}
use Rattle.definition.specs.TracesByColumn.{joined_traces}
use Rattle.definition.specs.Demands.{opening_of, MayFeed, FeedEnds, fed_as, RecordsWithin}
use Rattle.definition.specs.Feeds.{AsCalls, Feeds, made_calls}
use Rattle.law_model.proofs.Reading.{accepted_sound}
use Rattle.law_model.proofs.Answers.{advance-time}
use Rattle.law_feed.proofs.Timed.{calls-in-time}
use Rattle.theory.proofs.WrittenRuns.{read_back}
use Rattle.theory.proofs.FeedRows.{feed-model, feed-done, by-checks}
use Rattle.theory.proofs.FeedEnds.{turns-number, all_done}
use Rattle.theory.proofs.FeedCalls.{calls-length, onward, onward-ends, onward-kept, feed_only}
use Rattle.theory.proofs.Joined.{Traces, one_of, short-of, joined-traces}
use Rattle.theory.proofs.FeedSums.{in-calls}

-- ---- a first call before the open moment

early-first : (file run trace : Bytes) (m : Model) → accepted file ≡ ok m → run_fits m run ≡ true → (c : FeedBag) (cs : List FeedBag) → c.moment < opening_of m run
    → fed_in_turn file run trace (c ∷ cs) ≡ nothing_fed 11 run trace
unfolding fed_in_turn stopped_by nothing_fed
early-first file run trace m e f c cs l = rw (advance-time file run c.moment c.bag trace [] m e f (inl l))

early_call : (file run : Bytes) (end : ℕ) (trace : Bytes) (m : Model) (bs : List FeedBag) → accepted file ≡ ok m → run_fits m run ≡ true
    → first_moment bs end < opening_of m run → fed_in_turn file run trace (feed_calls bs end) ≡ nothing_fed 11 run trace
unfolding feed_calls first_moment is_empty
early_call file run end trace m [] e f l = early-first file run trace m e f (record { moment = end; bag = [] }) [] l
early_call file run end trace m (b ∷ bs) e f l = early-first file run trace m e f b _ l

-- ---- how it ends

module _ (file run : Bytes) (end : ℕ) (feed trace : Bytes) (m : Model) (bs : List FeedBag) (b : AllBytes file) (e : accepted file ≡ ok m)
    (h : MayFeed m run end feed bs) where
  abbrev last : Ended (List Entry)
  last = (onward file m b e run trace end feed bs h).end

  -- so many calls that succeed
  abbrev n : ℕ
  n = (onward-ends file m b e run trace end feed bs h).0

  ends : FeedEnds m run end trace bs n last
  ends = (onward-ends file m b e run trace end feed bs h).1

  told : advance_feed file run end feed trace ≡ fed_as run trace bs n last
  told = feed_only file m b e run trace end feed bs h n last ends

  stopped_by_lem : (let i = (advance_feed file run end feed trace).number in (i ≡ 0) ⊎ ((i ≡ 13) ⊎ (i ≡ 15)))
  stopped_by_lem = subst (λ (f : Fed). (f.number ≡ 0) ⊎ ((f.number ≡ 13) ⊎ (f.number ≡ 15))) (sym told) (turns-number ends)

  to_the_end : (advance_feed file run end feed trace).number ≡ 0
      → ((advance_feed file run end feed trace).bags ≡ length bs) × (opening_of m (advance_feed file run end feed trace).run ≡ suc end)
  to_the_end z =
      let all = all_done ends (sym (ap (λ (f : Fed). f.number) told) ∙ z) in
      let left : Run = record { opening = last.progress.opening; entries = last.progress.state } in (
        ap (λ (f : Fed). f.bags) told ∙ omega (arith, all.0, (calls-length bs end).0),
        ap (λ (f : Fed). opening_of m f.run) told
            ∙ ap (λ (q : Run). q.opening) (read_back m (accepted_sound file m b e).sound left (onward-kept file m b e run trace end feed bs h) run)
            ∙ all.1 ∙ (calls-in-time feed (opening_of m run) end bs h.is_feed h.timed).1,
      )

-- ---- its trace

module _ (file run : Bytes) (end : ℕ) (feed trace : Bytes) (b : AllBytes file) where
  abbrev TracesOf : Fed → Type 0
  TracesOf f = Traces (take f.used f.trace)

  -- of calls by this file
  calls-trace : (calls : List AdvanceCall) → Traces (joined_traces run (map (λ c. (engine file, c)) calls))
  calls-trace calls = subst (λ l. Traces (joined_traces run l)) (map-map _ (λ c. (file, c)) calls) (joined-traces run (map (λ c. (file, c)) calls) (of-bytes calls))
    where
      of-bytes : (calls : List AdvanceCall) → Every (λ (c : Bytes × AdvanceCall). AllBytes c.0) (map (λ c. (file, c)) calls)
      of-bytes [] = tt
      of-bytes (c ∷ cs) = (b, of-bytes cs)

  nothing-traced : (n : ℕ) → TracesOf (nothing_fed n run trace)
  unfolding joined_traces nothing_fed
  nothing-traced n = calls-trace []

  traces : TracesOf (advance_feed file run end feed trace)
  traces = go (accepted file) refl
    where
      go : (r : Result Model) → accepted file ≡ r → TracesOf (advance_feed file run end feed trace)
      go (refused n) e = subst TracesOf (sym (feed-model file run end feed trace n e)) (nothing-traced n)
      go (ok m) e =
          by-checks file run end feed trace m e TracesOf nothing-traced
          (λ bs h. subst Traces (sym (in-calls file run trace bs end).written) (calls-trace (made_calls (engine file) run trace (feed_calls bs end))))

pub feed-short : (file run : Bytes) (end : ℕ) (feed trace : Bytes) → AllBytes file
    → RecordsWithin longest_record (take (advance_feed file run end feed trace).used (advance_feed file run end feed trace).trace)
feed-short file run end feed trace b = short-of _ (traces file run end feed trace b)

pub feeds : Feeds
feeds = record {
  as_calls = λ file run end feed trace m bs b e h.
      let made = made_calls (engine file) run trace (feed_calls bs end) in
      let told = run_calls (engine file) run (map advance_call made) in
      subst (AsCalls (length bs) trace told.0 told.1 (joined_traces run (map (λ c. (engine file, c)) made))) (sym (feed-done file run end feed trace m e bs h)) (in-calls file run trace bs end);
  early_call = early_call;
  stopped_by_lem = stopped_by_lem;
  to_the_end = to_the_end;
  one_trace = λ file run end feed trace b. one_of _ (traces file run end feed trace b);
}
