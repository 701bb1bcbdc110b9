-- The three demands as statements about the definitions, and what the C header promises besides; crate `theory` proves them. Each part
-- has the sentence that it states. Elements of a list that stands for bytes are below 256 (`AllBytes`), and nothing else is assumed of a
-- buffer. Assumes nothing.
use Rattle.std.specs.Prelude.{◌≡◌, ◌⊎◌, ℕ, ◌+◌, ◌*◌, ◌≤◌, ◌<◌, min, List, ◌++◌, true, false, length, take, drop}
use Rattle.definition.specs.Lists.{Same}
use Rattle.definition.specs.Bytes.{Bytes, AllBytes, ok, stored}
use Rattle.definition.specs.Limits.{max_moment, position_size, longest_model, longest_run, longest_table, longest_record, longest_feed}
use Rattle.definition.specs.Model.{Bag, Model, Tree}
use Rattle.definition.specs.File.{model_bytes}
use Rattle.definition.specs.Pinned.Decoder.{accepted, check_model}
use Rattle.definition.specs.Sound.{Sound, Every}
use Rattle.definition.specs.Refusals.{Judged}
use Rattle.definition.specs.Devs.{Since}
use Rattle.definition.specs.Atomic.{rule_for, devs_of}
use Rattle.definition.specs.SavedRun.{Entry, run_length, atomic_count, run_of, run_bytes, next_due, run_fits}
use Rattle.definition.specs.Clauses.{RunFits, BagFits, Decides}
use Rattle.definition.specs.Step.{nested}
use Rattle.definition.specs.Instant.{TraceRecord, record_bytes}
use Rattle.definition.specs.Advance.{Ended}
use Rattle.definition.specs.AdvanceRelation.{Ends, EndsInTurn}
use Rattle.definition.specs.Engine.{Wrote, Advanced, WasRead, start_run, start, to_bag, bag_fits, with_rules, advanced, advance, read_at, reading}
use Rattle.definition.specs.Flatten.{flat, flatten}
use Rattle.definition.specs.Columns.{Recorded, Rearranges}
use Rattle.definition.specs.Pinned.TraceReader.{trace_to_columns, columns_to_trace}
use Rattle.definition.specs.Feed.{FeedBag, feed_bytes, IsFeed, FeedMistimed, FeedTimed, feed_calls}
use Rattle.definition.specs.FeedCall.{Fed, nothing_fed, advance_feed}
use Rattle.definition.specs.Calls.{Call, FeedOfBytes, run_calls, engine, flat_machine}
use Rattle.definition.specs.Carrying.{carried, root_of, StandsFor, BetweenCalls, at_start, begins, Saved, Through, ThroughChannel}
use Rattle.definition.specs.Channels.{part, Channel, turn, ChannelsCall, advance_channels}
use Rattle.definition.specs.ChannelShares.{WellCounted}
use Rattle.definition.specs.ChannelRows.{ChannelRows}

-- ---- Demand 1

-- "zeros in every other number of the outcome and no byte written"
abbrev pub refused_write : ℕ → Bytes → Wrote
refused_write n buffer = record { number = n; written = 0; buffer = buffer }

abbrev pub refused_advance : ℕ → Bytes → Bytes → Bytes → Advanced
refused_advance n run trace table = record { number = n; instants = 0; steps = 0; used = 0; run = run; trace = trace; table = table }

abbrev pub refused_reading : ℕ → WasRead
refused_reading n = record { number = n; phase = 0; last = 0; due = 0 }

-- The bytes that a writer wrote, and the trace that an advance wrote.
abbrev pub written : Wrote → Bytes
written w = take w.written w.buffer

abbrev pub traced_by : Advanced → Bytes
traced_by a = take a.used a.trace

-- The open moment of the run that the bytes hold.
abbrev pub opening_of : Model → Bytes → ℕ
opening_of m run = (run_of m run).opening

-- The arguments of an advance that no row of the table before "each instant" refuses.
pub record MayAdvance (m : Model) (run : Bytes) (t : ℕ) (bag : Bytes) : Type 0 where
  pub run_fits_lem : run_fits m run ≡ true
  pub not_early : opening_of m run ≤ t
  pub not_late : t ≤ max_moment
  pub bag_fits_lem : bag_fits bag ≡ true

-- The rows of the table for each call, the rows before having passed; those of a model are in `Judged`.

-- "start, flatten, any later writer": what it writes for a model has `long` bytes.
pub data WriterRefusal (long : Model → ℕ) (file buffer : Bytes) : ℕ → Type 0 where
  writer_refuses_model : (n : ℕ) → 0 < n → Judged file n → WriterRefusal long file buffer n
  -- "15 lent buffer too short"
  writer_refuses_buffer : (m : Model) → accepted file ≡ ok m → length buffer < long m → WriterRefusal long file buffer 15

abbrev pub StartRefusal : Bytes → Bytes → ℕ → Type 0
StartRefusal = WriterRefusal (λ m. run_length (atomic_count m))

abbrev pub FlattenRefusal : Bytes → Bytes → ℕ → Type 0
FlattenRefusal = WriterRefusal (λ m. length (model_bytes (flat m)))

-- Bytes rearranged: the request's number where nothing can be made of them, then "15 lent buffer too short". "Both come before 15."
pub data RearrangingRefusal (Makes : Bytes → Type 0) (nothing : ℕ) (buffer : Bytes) : ℕ → Type 0 where
  nothing_to_make : ((made : Bytes) → Makes made → ⊥) → RearrangingRefusal Makes nothing buffer nothing
  rearranging_refuses_buffer : (made : Bytes) → Makes made → length buffer < length made → RearrangingRefusal Makes nothing buffer 15

-- "17 when the bytes to rearrange are no trace"
abbrev pub ColumnsRefusal : Bytes → Bytes → ℕ → Type 0
ColumnsRefusal trace = RearrangingRefusal (λ columns. Rearranges trace columns) 17

-- "18 when the columns do not come from a trace"
abbrev pub TraceRefusal : Bytes → Bytes → ℕ → Type 0
TraceRefusal columns = RearrangingRefusal (λ trace. Rearranges trace columns) 18

pub data ReadingRefusal (file run : Bytes) (position : ℕ) : ℕ → Type 0 where
  reading_refuses_model : (n : ℕ) → 0 < n → Judged file n → ReadingRefusal file run position n
  -- "10 too short or does not fit"
  reading_refuses_run : (m : Model) → accepted file ≡ ok m → run_fits m run ≡ false → ReadingRefusal file run position 10
  -- "16 position at or above the number of atomics"
  reading_refuses_position : (m : Model) → accepted file ≡ ok m → run_fits m run ≡ true → atomic_count m ≤ position → ReadingRefusal file run position 16

-- Before any instant.
pub data AdvanceRefusal (file run : Bytes) (t : ℕ) (bag : Bytes) : ℕ → Type 0 where
  advance_refuses_model : (n : ℕ) → 0 < n → Judged file n → AdvanceRefusal file run t bag n
  advance_refuses_run : (m : Model) → accepted file ≡ ok m → run_fits m run ≡ false → AdvanceRefusal file run t bag 10
  -- "11 before the open moment, or above 1,000,000,000,000"
  advance_refuses_time : (m : Model) → accepted file ≡ ok m → run_fits m run ≡ true → (t < opening_of m run) ⊎ (max_moment < t) → AdvanceRefusal file run t bag 11
  -- "12 length not a multiple of 3, over 16 messages, or a port above 3"
  advance_refuses_bag : (m : Model) → accepted file ≡ ok m → run_fits m run ≡ true → opening_of m run ≤ t → t ≤ max_moment → bag_fits bag ≡ false
      → AdvanceRefusal file run t bag 12

-- The number of any advance: that of a row, or the one with which its instants end: 0, 13 or 15, each by its case of `Ends`.
pub data AdvanceNumber (file run : Bytes) (t : ℕ) (bag trace : Bytes) : ℕ → Type 0 where
  by_row : (n : ℕ) → AdvanceRefusal file run t bag n → AdvanceNumber file run t bag trace n
  by_instants : (m : Model) (e : Ended (List Entry)) → accepted file ≡ ok m → MayAdvance m run t bag
      → Ends (nested m) (length trace) t (to_bag bag) (begins (opening_of m run) (run_of m run).entries) e → AdvanceNumber file run t bag trace e.number

pub data FeedRefusal (file run : Bytes) (end : ℕ) (feed : Bytes) : ℕ → Type 0 where
  feed_refuses_model : (n : ℕ) → 0 < n → Judged file n → FeedRefusal file run end feed n
  feed_refuses_run : (m : Model) → accepted file ≡ ok m → run_fits m run ≡ false → FeedRefusal file run end feed 10
  -- "19 when the feed breaks its layout, has a port above 3 or has bytes left over, checked after the saved run and before the times"
  feed_refuses_feed : (m : Model) → accepted file ≡ ok m → run_fits m run ≡ true → ((bs : List FeedBag) → IsFeed feed bs → ⊥) → FeedRefusal file run end feed 19
  -- "An end moment before the last bag, or above the highest, is refused by 11"
  feed_refuses_time : (m : Model) (bs : List FeedBag) → accepted file ≡ ok m → run_fits m run ≡ true → IsFeed feed bs → FeedMistimed (opening_of m run) end bs
      → FeedRefusal file run end feed 11

-- The arguments of a feed that no row refuses.
pub record MayFeed (m : Model) (run : Bytes) (end : ℕ) (feed : Bytes) (bs : List FeedBag) : Type 0 where
  pub run_fits_lem : run_fits m run ≡ true
  pub is_feed : IsFeed feed bs
  pub timed : FeedTimed (opening_of m run) end bs

-- How its calls end from the saved run on, n of them having succeeded.
abbrev pub FeedEnds : Model → Bytes → ℕ → Bytes → List FeedBag → ℕ → Ended (List Entry) → Type 0
FeedEnds m run end trace bs n e = EndsInTurn (nested m) (length trace) (feed_calls bs end) (begins (opening_of m run) (run_of m run).entries) n e

-- What it then answers: "the number of bags whose own call succeeded", the counts, and the buffers with what was written at their fronts.
abbrev pub fed_as : Bytes → Bytes → List FeedBag → ℕ → Ended (List Entry) → Fed
fed_as run trace bs n e =
    let p = e.progress in
    record {
      number = e.number;
      bags = min n (length bs);
      instants = p.instants;
      steps = p.steps;
      used = length p.trace;
      run = stored (run_bytes (record { opening = p.opening; entries = p.state })) run;
      trace = stored p.trace trace;
    }

-- The number of any feed: that of a row, or the one with which its calls end: 0, 13 or 15, each by its case of `Ends`.
pub data FeedNumber (file run : Bytes) (end : ℕ) (feed trace : Bytes) : ℕ → Type 0 where
  feed_by_row : (n : ℕ) → FeedRefusal file run end feed n → FeedNumber file run end feed trace n
  feed_by_calls : (m : Model) (bs : List FeedBag) (n : ℕ) (e : Ended (List Entry)) → accepted file ≡ ok m → MayFeed m run end feed bs
      → FeedEnds m run end trace bs n e → FeedNumber file run end feed trace e.number

pub record Demand1 : Type 0 where
  -- A model outside the layouts is refused by its listed number: the number of a file is that of the table, and no other.
  pub model_judged : (file : Bytes) → AllBytes file → Judged file (check_model file)
  pub model_only : (file : Bytes) (n : ℕ) → Judged file n → check_model file ≡ n
  pub model_numbers : (file : Bytes) (n : ℕ) → Judged file n → (n ≤ 9) ⊎ (n ≡ 20)
  -- Everything else is accepted: each model within the layouts by its bytes, and nothing else; so a model has one file.
  pub sound_accepted : (m : Model) → Sound m → accepted (model_bytes m) ≡ ok m
  pub accepted_sound : (file : Bytes) (m : Model) → AllBytes file → accepted file ≡ ok m → Sound m × (file ≡ model_bytes m)
  -- The engine's tests of a run and of a bag are document 01's lines on them.
  pub fits_run : (m : Model) (run : Bytes) → run_fits m run ≡ true → RunFits m run
  pub run_fits_lem : (m : Model) (run : Bytes) → RunFits m run → run_fits m run ≡ true
  pub fits_bag : (bag : Bytes) → AllBytes bag → bag_fits bag ≡ true → BagFits bag (to_bag bag)
  pub bag_fits_lem : (bag : Bytes) (x : Bag) → BagFits bag x → (bag_fits bag ≡ true) × (to_bag bag ≡ x)
  -- A call is refused by its listed number and changes no lent byte; each number is given "on its condition and never otherwise".
  pub start_refused : (file buffer : Bytes) (n : ℕ) → StartRefusal file buffer n → start file buffer ≡ refused_write n buffer
  pub start_number : (file buffer : Bytes) → AllBytes file → 0 < (start file buffer).number → StartRefusal file buffer (start file buffer).number
  pub flatten_refused : (file buffer : Bytes) (n : ℕ) → FlattenRefusal file buffer n → flatten file buffer ≡ refused_write n buffer
  pub flatten_number : (file buffer : Bytes) → AllBytes file → 0 < (flatten file buffer).number → FlattenRefusal file buffer (flatten file buffer).number
  pub columns_refused : (trace buffer : Bytes) (n : ℕ) → AllBytes trace → ColumnsRefusal trace buffer n → trace_to_columns trace buffer ≡ refused_write n buffer
  pub columns_number : (trace buffer : Bytes) → AllBytes trace → 0 < (trace_to_columns trace buffer).number
      → ColumnsRefusal trace buffer (trace_to_columns trace buffer).number
  pub trace_refused : (columns buffer : Bytes) (n : ℕ) → AllBytes columns → TraceRefusal columns buffer n → columns_to_trace columns buffer ≡ refused_write n buffer
  pub trace_number : (columns buffer : Bytes) → AllBytes columns → 0 < (columns_to_trace columns buffer).number
      → TraceRefusal columns buffer (columns_to_trace columns buffer).number
  pub reading_refused : (file run : Bytes) (position n : ℕ) → ReadingRefusal file run position n
      → reading file run position ≡ refused_reading n
  pub reading_number : (file run : Bytes) (position : ℕ) → AllBytes file → 0 < (reading file run position).number
      → ReadingRefusal file run position (reading file run position).number
  pub advance_refused : (file run : Bytes) (t : ℕ) (bag trace table : Bytes) (n : ℕ) → AdvanceRefusal file run t bag n
      → advance file run t bag trace table ≡ refused_advance n run trace table
  pub advance_number : (file run : Bytes) (t : ℕ) (bag trace table : Bytes) → AllBytes file
      → AdvanceNumber file run t bag trace (advance file run t bag trace table).number
  pub feed_refused : (file run : Bytes) (end : ℕ) (feed trace : Bytes) (n : ℕ) → AllBytes feed → FeedRefusal file run end feed n
      → advance_feed file run end feed trace ≡ nothing_fed n run trace
  pub feed_number : (file run : Bytes) (end : ℕ) (feed trace : Bytes) → AllBytes file → AllBytes feed
      → FeedNumber file run end feed trace (advance_feed file run end feed trace).number
  -- Everything else is accepted.
  pub start_done : (file buffer : Bytes) (m : Model) → accepted file ≡ ok m → run_length (atomic_count m) ≤ length buffer
      → start file buffer ≡ record { number = 0; written = run_length (atomic_count m); buffer = stored (run_bytes (start_run m)) buffer }
  pub flatten_done : (file buffer : Bytes) (m : Model) → accepted file ≡ ok m → length (model_bytes (flat m)) ≤ length buffer
      → flatten file buffer ≡ record { number = 0; written = length (model_bytes (flat m)); buffer = stored (model_bytes (flat m)) buffer }
  pub columns_done : (trace columns buffer : Bytes) → Rearranges trace columns → length columns ≤ length buffer
      → trace_to_columns trace buffer ≡ record { number = 0; written = length columns; buffer = stored columns buffer }
  pub trace_done : (columns trace buffer : Bytes) → Rearranges trace columns → length trace ≤ length buffer
      → columns_to_trace columns buffer ≡ record { number = 0; written = length trace; buffer = stored trace buffer }
  pub reading_done : (file run : Bytes) (position : ℕ) (m : Model) → accepted file ≡ ok m → run_fits m run ≡ true → position < atomic_count m
      → reading file run position ≡ read_at (run_of m run).entries position (next_due m (run_of m run).entries)
  -- An instant that needs over 1,024 steps, or whose records overrun the lent trace, is left undone whole, and the instants before it
  -- stand: an advance that is not refused ends as `Ends` tells, and in no other way.
  pub advance_ends : (file run : Bytes) (t : ℕ) (bag trace table : Bytes) (m : Model) → AllBytes file → accepted file ≡ ok m → MayAdvance m run t bag
      → (e : Ended (List Entry)) × Ends (nested m) (length trace) t (to_bag bag) (begins (opening_of m run) (run_of m run).entries) e
      × (advance file run t bag trace table ≡ advanced run trace table (ok e))
  pub advance_only : (file run : Bytes) (t : ℕ) (bag trace table : Bytes) (m : Model) → AllBytes file → accepted file ≡ ok m → MayAdvance m run t bag
      → (e : Ended (List Entry)) → Ends (nested m) (length trace) t (to_bag bag) (begins (opening_of m run) (run_of m run).entries) e
      → advance file run t bag trace table ≡ advanced run trace table (ok e)
  -- A feed that is not refused ends as its calls do, one after the other, and in no other way: one run and one trace for all of them.
  pub feed_ends : (file run : Bytes) (end : ℕ) (feed trace : Bytes) (m : Model) (bs : List FeedBag) → AllBytes file → accepted file ≡ ok m
      → MayFeed m run end feed bs → (n : ℕ) × (e : Ended (List Entry)) × FeedEnds m run end trace bs n e × (advance_feed file run end feed trace ≡ fed_as run trace bs n e)
  pub feed_only : (file run : Bytes) (end : ℕ) (feed trace : Bytes) (m : Model) (bs : List FeedBag) → AllBytes file → accepted file ≡ ok m
      → MayFeed m run end feed bs → (n : ℕ) (e : Ended (List Entry)) → FeedEnds m run end trace bs n e → advance_feed file run end feed trace ≡ fed_as run trace bs n e
  -- The rows of the call that advances several channels.
  pub channel_rows : ChannelRows
  -- Where no instant stands and the call did not succeed, no lent byte has changed.
  pub nothing_done : (file run : Bytes) (t : ℕ) (bag trace table : Bytes) (m : Model) → AllBytes file → AllBytes run → accepted file ≡ ok m
      → 0 < (advance file run t bag trace table).number → (advance file run t bag trace table).instants ≡ 0
      → ((advance file run t bag trace table).run ≡ run) × ((advance file run t bag trace table).trace ≡ trace) × ((advance file run t bag trace table).table ≡ table)
  pub nothing_fed_lem : (file run : Bytes) (end : ℕ) (feed trace : Bytes) (m : Model) → AllBytes file → AllBytes run → accepted file ≡ ok m
      → 0 < (advance_feed file run end feed trace).number → (advance_feed file run end feed trace).bags ≡ 0 → (advance_feed file run end feed trace).instants ≡ 0
      → advance_feed file run end feed trace ≡ nothing_fed (advance_feed file run end feed trace).number run trace
  -- A start, an advance and a feed, whatever the number, leave a run that fits.
  pub start_fits : (file buffer : Bytes) (m : Model) → AllBytes file → accepted file ≡ ok m → run_length (atomic_count m) ≤ length buffer
      → run_fits m (start file buffer).buffer ≡ true
  pub advance_fits_lem : (file run : Bytes) (t : ℕ) (bag trace table : Bytes) (m : Model) → AllBytes file → accepted file ≡ ok m → run_fits m run ≡ true
      → run_fits m (advance file run t bag trace table).run ≡ true
  pub feed_fits : (file run : Bytes) (end : ℕ) (feed trace : Bytes) (m : Model) → AllBytes file → accepted file ≡ ok m → run_fits m run ≡ true
      → run_fits m (advance_feed file run end feed trace).run ≡ true

-- ---- Demand 2

-- The answer and the buffers of an advance are those of the carried resultant, where its instants end at e.
pub record Shows (m : Model) (run trace table : Bytes) (e : Ended (Since (root_of m))) (a : Advanced) : Type 0 where
  pub number : a.number ≡ e.number
  pub instants : a.instants ≡ e.progress.instants
  pub steps : a.steps ≡ e.progress.steps
  pub used : a.used ≡ length e.progress.trace
  pub whole_trace : a.trace ≡ stored e.progress.trace trace
  pub whole_table : a.table ≡ with_rules (atomic_count m) e.progress table
  pub opening : opening_of m a.run ≡ e.progress.opening
  pub entries : StandsFor m e.progress.opening e.progress.state (run_of m a.run).entries
  pub whole_run : a.run ≡ stored (run_bytes (run_of m a.run)) run

pub record Demand2 : Type 0 where
  -- Trace, step count, saved run and deciding rules are those of the Parallel DEVS definition: from any state that stands for the saved run, the
  -- root's resultant carried by its own elapsed times ends the call, and wherever it ends, that is what the advance shows.
  pub carried_ends : (file run : Bytes) (t : ℕ) (bag trace : Bytes) (m : Model) → AllBytes file → accepted file ≡ ok m → MayAdvance m run t bag
      → (q : Since (root_of m)) → StandsFor m (opening_of m run) q (run_of m run).entries
      → (e : Ended (Since (root_of m))) × Ends (carried m) (length trace) t (to_bag bag) (begins (opening_of m run) q) e
  pub as_defined : (file run : Bytes) (t : ℕ) (bag trace table : Bytes) (m : Model) → AllBytes file → accepted file ≡ ok m → MayAdvance m run t bag
      → (q : Since (root_of m)) → StandsFor m (opening_of m run) q (run_of m run).entries
      → (e : Ended (Since (root_of m))) → Ends (carried m) (length trace) t (to_bag bag) (begins (opening_of m run) q) e
      → Shows m run trace table e (advance file run t bag trace table)
  -- There is such a state: a start saves the initial phases, for which the resultant with all elapsed times 0 stands, and every run
  -- that fits has one.
  pub start_saves : (file buffer : Bytes) (m : Model) → AllBytes file → accepted file ≡ ok m → (start file buffer).number ≡ 0
      → run_of m (start file buffer).buffer ≡ start_run m
  pub at_start_lem : (file : Bytes) (m : Model) → AllBytes file → accepted file ≡ ok m → StandsFor m 0 (at_start m).since (start_run m).entries
  pub at_any : (file run : Bytes) (m : Model) → AllBytes file → AllBytes run → accepted file ≡ ok m → run_fits m run ≡ true
      → (q : BetweenCalls m) × Saved m q run
  -- It stands for one list of entries.
  pub stands_for_one : (file : Bytes) (m : Model) → AllBytes file → accepted file ≡ ok m → (opening : ℕ) (q : Since (root_of m)) (rs qs : List Entry)
      → StandsFor m opening q rs → StandsFor m opening q qs → rs ≡ qs
  -- From call to call: through every list of calls, from any saved run, and from any successful start on, the resultant stands for the
  -- saved run after each call and gives its answer, its trace and its deciding rules.
  pub through_calls : (file run : Bytes) (m : Model) → AllBytes file → accepted file ≡ ok m → (q : BetweenCalls m) → Saved m q run
      → (calls : List Call) → Every FeedOfBytes calls → Through m (engine file) q run calls
  pub from_start : (file run : Bytes) (m : Model) → AllBytes file → accepted file ≡ ok m → (before calls : List Call)
      → Every FeedOfBytes calls → (start file (run_calls (engine file) run before).1).number ≡ 0
      → Through m (engine file) (at_start m) (start file (run_calls (engine file) run before).1).buffer calls
  -- .. and so as each channel of a box, through every list of channel calls of one number of runs, with the steps that it has in each.
  pub through_channels : (file runs : Bytes) (m : Model) → AllBytes file → accepted file ≡ ok m → (n i : ℕ) → i < n → (q : BetweenCalls m) → Saved m q (part n i runs)
      → (calls : List ChannelsCall) → Every (λ b. WellCounted b × (b.count ≡ n)) calls → ThroughChannel m (advance_channels file) n i q runs calls
  -- The search by which an atomic's external part is decided finds the first rule whose conditions all hold.
  pub rule_decides : (m : Model) (c p e : ℕ) (x : Bag) → Decides m.ranges m.rules c p e x (rule_for m c p e x)
  -- The order of messages in a bag changes nothing: of a given bag, and of a bag that reaches any component of a nest.
  pub given_order : (file run : Bytes) (t : ℕ) (b c trace table : Bytes) → AllBytes file → length b ≡ length c → Same (to_bag b) (to_bag c)
      → advance file run t b trace table ≡ advance file run t c trace table
  pub external_order : (m : Model) (t : Tree) (s : (devs_of m t).State) (e : ℕ) (x y : Bag) → Same x y → (devs_of m t).ext s e x ≡ (devs_of m t).ext s e y
  pub confluent_order : (m : Model) (t : Tree) (s : (devs_of m t).State) (x y : Bag) → Same x y → (devs_of m t).con s x ≡ (devs_of m t).con s y

-- ---- Demand 3

-- "its flat form is what flattening writes into a long enough buffer"
unfoldable pub flat_form : Bytes → Bytes → Bytes
flat_form file buffer = written (flatten file buffer)

-- "a single claim about the whole list of calls": for every list of start, advance, feed, channel and reading calls, refused ones included, whatever
-- the times, bags, feeds, allowances, positions, lent traces, lent tables and first bytes of the run buffer, an accepted model and its flat form give the same answers and
-- refusals in the same order, the same bytes in each lent trace, each lent table and the whole run buffer, and these are those that demands 1 and 2
-- name and those of the flat machine. The flat form is itself accepted and flattens to itself.
pub record Alike (file flat_file : Bytes) : Type 0 where
  pub accepts : check_model flat_file ≡ 0
  pub itself : (buffer : Bytes) → (flatten flat_file buffer).number ≡ 0 → flat_form flat_file buffer ≡ flat_file
  pub calls_alike : (run : Bytes) (calls : List Call) → AllBytes run
      → (run_calls (engine file) run calls ≡ run_calls (engine flat_file) run calls)
      × (run_calls (engine flat_file) run calls ≡ run_calls (flat_machine flat_file) run calls)
  -- and what they give is what the resultant of the nested model gives, through the whole list
  pub calls_defined : (m : Model) → accepted file ≡ ok m → (q : BetweenCalls m) (run : Bytes) → AllBytes run → Saved m q run → (calls : List Call)
      → Every FeedOfBytes calls → Through m (engine flat_file) q run calls × Through m (flat_machine flat_file) q run calls

-- Flattening answers 0 exactly where the model is accepted and the buffer is long enough (demand 1).
unfoldable pub Demand3 : Type 0
Demand3 = (file buffer : Bytes) → AllBytes file → (flatten file buffer).number ≡ 0 → Alike file (flat_form file buffer)

-- ---- what the C header says besides

-- The answer of a call that goes on after another, lent the table that the first one left: both together are what one call answers whose
-- trace is the first call's records and then the second's trace.
pub record Together (a b one : Advanced) : Type 0 where
  pub number : one.number ≡ b.number
  pub instants : one.instants ≡ a.instants + b.instants
  pub steps : one.steps ≡ a.steps + b.steps
  pub used : one.used ≡ a.used + b.used
  pub run : one.run ≡ b.run
  pub trace : one.trace ≡ traced_by a ++ b.trace
  pub table : one.table ≡ b.table

-- .. and the answers of a feed and of one with the bags that it left.
pub record FedTogether (a b one : Fed) : Type 0 where
  pub number : one.number ≡ b.number
  pub bags : one.bags ≡ a.bags + b.bags
  pub instants : one.instants ≡ a.instants + b.instants
  pub steps : one.steps ≡ a.steps + b.steps
  pub used : one.used ≡ a.used + b.used
  pub run : one.run ≡ b.run
  pub trace : one.trace ≡ take a.used a.trace ++ b.trace

-- The records that the bytes hold have at most n bytes each.
abbrev pub RecordsWithin : ℕ → Bytes → Type 0
RecordsWithin n s = (rs : List TraceRecord) → Recorded s rs → Every (λ r. length (record_bytes r) ≤ n) rs

pub record Header : Type 0 where
  -- PDEVS_MAX_MODEL, PDEVS_MAX_RUN and PDEVS_MAX_RULES_TABLE suffice for every model, flat ones too.
  pub model_length : (file : Bytes) (m : Model) → AllBytes file → accepted file ≡ ok m
      → (length file ≤ longest_model) × (length (model_bytes (flat m)) ≤ longest_model)
  pub run_length_lem : (file : Bytes) (m : Model) → AllBytes file → accepted file ≡ ok m → run_length (atomic_count m) ≤ longest_run
  pub table_length : (file : Bytes) (m : Model) → AllBytes file → accepted file ≡ ok m → position_size * atomic_count m ≤ longest_table
  -- PDEVS_MAX_RECORD suffices for every record that an advance, a feed or a channel's turn writes, whatever it is given.
  pub record_length_lem : (file run : Bytes) (t : ℕ) (bag trace table : Bytes) → AllBytes file
      → RecordsWithin longest_record (traced_by (advance file run t bag trace table))
  pub feed_record_length : (file run : Bytes) (end : ℕ) (feed trace : Bytes) → AllBytes file
      → RecordsWithin longest_record (take (advance_feed file run end feed trace).used (advance_feed file run end feed trace).trace)
  pub turn_record_length : (file : Bytes) (m : Model) (t has : ℕ) (c : Channel) → AllBytes file → accepted file ≡ ok m
      → RecordsWithin longest_record (traced_by (turn m t has c))
  -- PDEVS_MAX_FEED suffices for every feed.
  pub feed_length : (feed : Bytes) (bs : List FeedBag) → IsFeed feed bs → length feed ≤ longest_feed
  -- PDEVS_COLUMNS_SIZE: columns are 4 bytes longer than their trace.
  pub columns_length : (trace columns : Bytes) → Rearranges trace columns → length columns ≡ length trace + 4
  -- After 15 the same call, with the trace anew, goes on where this one stopped.
  pub resumes : (file run : Bytes) (t : ℕ) (bag trace table anew : Bytes) (m : Model) → AllBytes file → accepted file ≡ ok m
      → (advance file run t bag trace table).number ≡ 15
      → (let a = advance file run t bag trace table in
      Together a (advance file a.run t bag anew a.table) (advance file run t bag (traced_by a ++ anew) table))
  -- Where it did no instant, the next one needs a longer trace.
  pub needs_longer : (file run : Bytes) (t : ℕ) (bag trace table anew lent : Bytes) (m : Model) → AllBytes file → AllBytes run → accepted file ≡ ok m
      → (advance file run t bag trace table).number ≡ 15 → (advance file run t bag trace table).instants ≡ 0 → length anew ≤ length trace
      → advance file run t bag anew lent ≡ refused_advance 15 run anew lent
  -- After 13 the same call is refused so again, whatever its trace and its table.
  pub refused_again : (file run : Bytes) (t : ℕ) (bag trace table anew lent : Bytes) (m : Model) → AllBytes file → accepted file ≡ ok m
      → (advance file run t bag trace table).number ≡ 13
      → advance file (advance file run t bag trace table).run t bag anew lent ≡ refused_advance 13 (advance file run t bag trace table).run anew lent
  -- After 15 the feed without the bags whose own calls succeeded, to the same end and with the trace anew, goes on where this one stopped.
  pub feed_resumes : (file run : Bytes) (end : ℕ) (feed trace anew : Bytes) (m : Model) (bs : List FeedBag) → AllBytes file → accepted file ≡ ok m
      → MayFeed m run end feed bs → (advance_feed file run end feed trace).number ≡ 15
      → (let a = advance_feed file run end feed trace in
      FedTogether a (advance_feed file a.run end (feed_bytes (drop a.bags bs)) anew) (advance_feed file run end feed (take a.used a.trace ++ anew)))
