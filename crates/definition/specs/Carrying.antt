-- The root's resultant carried from event to event by document 001's own bookkeeping, through the instants of a call and from call to
-- call; and when it stands for a saved run. Demand 2 is stated with it. Assumes nothing.
use Rattle.std.specs.Prelude.{◌≡◌, ◌⊎◌, ℕ, ◌+◌, ◌-◌, ◌/◌, ◌≤◌, ◌<◌, min, List, [], ◌∷◌, ◌++◌, true, false, length, take, drop, get_or, replicate}
use Rattle.std.proofs.Math.Option.{Option, none, some}
use Rattle.definition.specs.Bytes.{Bytes, stored}
use Rattle.definition.specs.Limits.{max_moment, max_channels}
use Rattle.definition.specs.Model.{Model, component_at, Tree, Forest, leaf, node, stop, more, tree}
use Rattle.definition.specs.Devs.{Devs, Totals, Since, devs_due, devs_step}
use Rattle.definition.specs.Atomic.{unspent, devs_of, parts_of}
use Rattle.definition.specs.SavedRun.{Entry, no_entry, atomic_count, run_length, run_of, run_bytes, entry_of, run_fits}
use Rattle.definition.specs.Step.{Simulator, decided_in_file_order}
use Rattle.definition.specs.Advance.{Progress, Ended}
use Rattle.definition.specs.AdvanceRelation.{Ends, EndsInTurn}
use Rattle.definition.specs.ChannelRelation.{EndsWithin}
use Rattle.definition.specs.Engine.{Numbers, number_alone, to_bag, bag_fits, with_rules, due_number}
use Rattle.definition.specs.Feed.{FeedBag, IsFeed, FeedMistimed, FeedTimed, feed_calls}
use Rattle.definition.specs.Channels.{part, no_place, bag_at, ChannelsCall, Channelled}
use Rattle.definition.specs.ChannelShares.{Miscounted, WellCounted, share_of, has_at, past_parts}
use Rattle.definition.specs.Calls.{AdvanceCall, FeedCall, Call, start_call, advance_call, feed_call, channels_call, reading_call, Answer, start_answer, advance_answer, feed_answer, channels_answer, reading_answer, Machine, called}

-- ---- the resultant

-- The root's resultant.
abbrev pub root_of : Model → Devs
root_of m = devs_of m (tree m)

-- It is carried from event to event: its state, and the moment of its last event.
abbrev pub carried : (m : Model) → Simulator (Since (root_of m))
carried m = record {
  next = devs_due (root_of m);
  step = λ now x q. let r = devs_step (root_of m) now x q in record { out = record { bag = r.0; decided = decided_in_file_order m r.1.decided }; state = r.1.state };
}

-- "Start writes 0, the initial phases and last moments 0": every atomic in its initial phase with nothing spent, all elapsed times 0.
unfoldable mutual
  pub initially : (m : Model) (t : Tree) → (devs_of m t).State
  initially m (leaf c) = unspent (component_at m.components c).initial
  initially m (node c f) = initially_all m f

  pub initially_all : (m : Model) (f : Forest) → Totals (parts_of m f)
  initially_all m stop = tt
  initially_all m (more t f) = ((initially m t, 0), initially_all m f)

-- ---- what it stands for

-- A state stands for entries at a moment: each atomic is in its phase, and its last moment plus what was spent and the elapsed times on
-- the way to it is that moment. How they are split over the levels is left open; e is what the levels above have.
module _ (m : Model) (at : ℕ → Entry) (now : ℕ) where
  abbrev mutual
    pub Stands : ℕ → (t : Tree) → (devs_of m t).State → Type 0
    Stands e (leaf c) s = (s.phase ≡ (at c).phase) × ((at c).last + (s.spent + e) ≡ now)
    Stands e (node c f) s = StandsAll e f s

    pub StandsAll : ℕ → (f : Forest) → Totals (parts_of m f) → Type 0
    StandsAll e stop s = Unit {0}
    StandsAll e (more t f) s = Stands (e + s.0.1) t s.0.0 × StandsAll e f s.1

-- It stands for the entries, one for each atomic, as they were after its last event, which was not after the open moment.
pub record StandsFor (m : Model) (opening : ℕ) (q : Since (root_of m)) (rs : List Entry) : Type 0 where
  pub stands : Stands m (entry_of m rs) q.event 0 (tree m) q.state
  pub in_time : q.event ≤ opening
  pub each : length rs ≡ atomic_count m

-- ---- through a list of calls

-- The resultant between two calls, and the earliest open moment.
pub record BetweenCalls (m : Model) : Type 0 where
  pub opening : ℕ
  pub since : Since (root_of m)

abbrev pub at_start : (m : Model) → BetweenCalls m
at_start m = record { opening = 0; since = record { state = initially m (tree m); event = 0 } }

-- Before the first instant of a call.
abbrev pub begins : {S : Type 0} → ℕ → S → Progress S
begins opening s = record { opening = opening; state = s; instants = 0; steps = 0; trace = []; rules = [] }

-- After a call's instants.
abbrev pub left_by : {m : Model} → Ended (Since (root_of m)) → BetweenCalls m
left_by e = record { opening = e.progress.opening; since = e.progress.state }

-- The moment of a call that the row "time" does not refuse.
pub record InTime (opening : ℕ) (c : AdvanceCall) : Type 0 where
  pub not_early : opening ≤ c.moment
  pub not_late : c.moment ≤ max_moment

-- What it tells as a channel that has so many steps, what the channel's part of the traces then holds, and what it is afterwards.
pub data AnswersTurn (m : Model) (q : BetweenCalls m) (t has : ℕ) (bag : Option Bytes) (trace : Bytes) : Numbers → Bytes → BetweenCalls m → Type 0 where
  channel_refuses_time : (t < q.opening) ⊎ (max_moment < t) → AnswersTurn m q t has bag trace (number_alone 11) trace q
  channel_refuses_place : q.opening ≤ t → t ≤ max_moment → bag ≡ none → AnswersTurn m q t has bag trace (number_alone 12) trace q
  channel_refuses_bag : (b : Bytes) → q.opening ≤ t → t ≤ max_moment → bag ≡ some b → bag_fits b ≡ false → AnswersTurn m q t has bag trace (number_alone 12) trace q
  answers_turn : (b : Bytes) (e : Ended (Since (root_of m))) → q.opening ≤ t → t ≤ max_moment → bag ≡ some b → bag_fits b ≡ true
      → EndsWithin (carried m) has (length trace) t (to_bag b) (begins q.opening q.since) e
      → AnswersTurn m q t has bag trace
      (record { number = e.number; instants = e.progress.instants; steps = e.progress.steps; used = length e.progress.trace })
      (stored e.progress.trace trace) (left_by e)

-- What it answers to a call on a run buffer of so many bytes, and what it is afterwards.
pub data Answers (m : Model) (size : ℕ) (q : BetweenCalls m) : Call → Answer → BetweenCalls m → Type 0 where
  answers_start : Answers m size q start_call (start_answer 0 (run_length (atomic_count m))) (at_start m)
  refuses_time : (c : AdvanceCall) → (c.moment < q.opening) ⊎ (max_moment < c.moment) → Answers m size q (advance_call c) (advance_answer 11 0 0 0 c.trace c.table) q
  refuses_bag : (c : AdvanceCall) → InTime q.opening c → bag_fits c.bag ≡ false → Answers m size q (advance_call c) (advance_answer 12 0 0 0 c.trace c.table) q
  answers_advance : (c : AdvanceCall) (e : Ended (Since (root_of m))) → InTime q.opening c → bag_fits c.bag ≡ true
      → Ends (carried m) (length c.trace) c.moment (to_bag c.bag) (begins q.opening q.since) e
      → Answers m size q (advance_call c) (advance_answer e.number e.progress.instants e.progress.steps (length e.progress.trace) (stored e.progress.trace c.trace)
      (with_rules (atomic_count m) e.progress c.table)) (left_by e)
  refuses_feed : (c : FeedCall) → ((bs : List FeedBag) → IsFeed c.feed bs → ⊥) → Answers m size q (feed_call c) (feed_answer 19 0 0 0 0 c.trace) q
  refuses_feed_time : (c : FeedCall) (bs : List FeedBag) → IsFeed c.feed bs → FeedMistimed q.opening c.end bs
      → Answers m size q (feed_call c) (feed_answer 11 0 0 0 0 c.trace) q
  answers_feed : (c : FeedCall) (bs : List FeedBag) (n : ℕ) (e : Ended (Since (root_of m))) → IsFeed c.feed bs → FeedTimed q.opening c.end bs
      → EndsInTurn (carried m) (length c.trace) (feed_calls bs c.end) (begins q.opening q.since) n e
      → Answers m size q (feed_call c) (feed_answer e.number (min n (length bs)) e.progress.instants e.progress.steps (length e.progress.trace)
      (stored e.progress.trace c.trace)) (left_by e)
  refuses_count : (b : ChannelsCall) → Miscounted b → Answers m size q (channels_call b) (channels_answer 21 (replicate max_channels (number_alone 0)) b.traces) q
  -- no part has room for a run
  refuses_parts : (b : ChannelsCall) → WellCounted b → size / b.count < run_length (atomic_count m)
      → Answers m size q (channels_call b) (channels_answer 0 (replicate b.count (number_alone 10) ++ replicate (max_channels - b.count) (number_alone 0)) b.traces) q
  -- The run at the front of the buffer is channel 0; what the others are told is theirs.
  answers_channels : (b : ChannelsCall) (told : List Numbers) (traces : Bytes) (q' : BetweenCalls m) → WellCounted b → run_length (atomic_count m) ≤ size / b.count
      → AnswersTurn m q b.moment (share_of b) (bag_at b.bags (get_or b.places 0 no_place)) (part b.count 0 b.traces)
      (get_or told 0 (number_alone 0)) (part b.count 0 traces) q'
      → Answers m size q (channels_call b) (channels_answer 0 told traces) q'
  refuses_position : (position : ℕ) → atomic_count m ≤ position → Answers m size q (reading_call position) (reading_answer 16 0 0 0) q
  answers_reading : (position : ℕ) (rs : List Entry) → position < atomic_count m → StandsFor m q.opening q.since rs
      → Answers m size q (reading_call position) (reading_answer 0 (get_or rs position no_entry).phase (get_or rs position no_entry).last (due_number (devs_due (root_of m) q.since))) q

-- The run buffer holds, at its front, the saved run for which it stands.
pub record Saved (m : Model) (q : BetweenCalls m) (run : Bytes) : Type 0 where
  pub run_fits_lem : run_fits m run ≡ true
  pub opening : (run_of m run).opening ≡ q.opening
  pub entries : StandsFor m q.opening q.since (run_of m run).entries
  pub bytes : take (run_length (atomic_count m)) run ≡ run_bytes (run_of m run)

-- From where on a call leaves every byte of a run buffer of so many bytes: beyond the saved run, and past the last part of a channel call.
abbrev pub stays_from : Model → ℕ → Call → ℕ
stays_from m size start_call = run_length (atomic_count m)
stays_from m size (advance_call c) = run_length (atomic_count m)
stays_from m size (feed_call c) = run_length (atomic_count m)
stays_from m size (channels_call b) = past_parts b.count size
stays_from m size (reading_call position) = run_length (atomic_count m)

-- Beside a machine's calls: before and after each call the buffer holds the saved run, each answer is the resultant's, and the bytes
-- beyond stay.
abbrev pub Through : (m : Model) → Machine → BetweenCalls m → Bytes → List Call → Type 0
Through m k q run [] = Saved m q run
Through m k q run (c ∷ cs) =
    Saved m q run × (q' : BetweenCalls m) × Answers m (length run) q c (called k run c).0 q'
    × (drop (stays_from m (length run) c) (called k run c).1 ≡ drop (stays_from m (length run) c) run) × Through m k q' (called k run c).1 cs

-- Beside the channel calls of a machine, each of n runs: the resultant as channel i. Before and after each call its part of the runs holds the
-- saved run and the same bytes beyond it, and what it is told and what its part of the traces holds is the resultant's with the steps that it has.
abbrev pub ThroughChannel : (m : Model) → (Bytes → ChannelsCall → Channelled) → (n i : ℕ) → BetweenCalls m → Bytes → List ChannelsCall → Type 0
ThroughChannel m f n i q runs [] = Saved m q (part n i runs)
ThroughChannel m f n i q runs (b ∷ bs) =
    let r = f runs b in
    Saved m q (part n i runs) × (q' : BetweenCalls m)
    × AnswersTurn m q b.moment (has_at b r.answers i) (bag_at b.bags (get_or b.places i no_place)) (part n i b.traces)
    (get_or r.answers i (number_alone 0)) (part n i r.traces) q'
    × (drop (run_length (atomic_count m)) (part n i r.runs) ≡ drop (run_length (atomic_count m)) (part n i runs)) × ThroughChannel m f n i q' r.runs bs
