-- Lists of start, advance, feed, channel and reading calls over one run buffer. Assumes nothing.
use Rattle.std.specs.Prelude.{ℕ, List, [], ◌∷◌}
use Rattle.definition.specs.Bytes.{Bytes, AllBytes}
use Rattle.definition.specs.Engine.{Wrote, Advanced, Numbers, WasRead, start, advance, reading}
use Rattle.definition.specs.FeedCall.{Fed, advance_feed}
use Rattle.definition.specs.Channels.{ChannelsCall, Channelled, advance_channels}
use Rattle.definition.specs.FlatMachine.{flat_start, flat_advance, flat_feed, flat_reading}
use Rattle.definition.specs.FlatChannels.{flat_channels}

-- "Each advance brings a trace buffer of any length and first bytes", and a table of deciding rules that "counts like a lent trace".
pub record AdvanceCall : Type 0 where
  pub moment : ℕ
  pub bag : Bytes
  pub trace : Bytes
  pub table : Bytes

-- A feed, its end moment, and the trace that it is lent.
pub record FeedCall : Type 0 where
  pub end : ℕ
  pub feed : Bytes
  pub trace : Bytes

pub data Call : Type 0 where
  start_call : Call
  advance_call : AdvanceCall → Call
  feed_call : FeedCall → Call
  channels_call : ChannelsCall → Call
  reading_call : ℕ → Call

-- The feed of a call is bytes; a bag is read as it is, whatever its elements are.
abbrev pub FeedOfBytes : Call → Type 0
FeedOfBytes start_call = Unit {0}
FeedOfBytes (advance_call c) = Unit {0}
FeedOfBytes (feed_call c) = AllBytes c.feed
FeedOfBytes (channels_call b) = Unit {0}
FeedOfBytes (reading_call position) = Unit {0}

-- What a call answers, the buffers that it alone was lent included.
pub data Answer : Type 0 where
  start_answer : (number written : ℕ) → Answer
  advance_answer : (number instants steps used : ℕ) (trace table : Bytes) → Answer
  feed_answer : (number bags instants steps used : ℕ) (trace : Bytes) → Answer
  channels_answer : (number : ℕ) (told : List Numbers) (traces : Bytes) → Answer
  reading_answer : (number phase last due : ℕ) → Answer

-- A machine: what each kind of call does with the run buffer. A channel call finds a run in each part of the buffer, the others one at its front.
pub record Machine : Type 0 where
  pub starts : Bytes → Wrote
  pub advances : Bytes → ℕ → Bytes → Bytes → Bytes → Advanced
  pub feeds : Bytes → ℕ → Bytes → Bytes → Fed
  pub advances_channels : Bytes → ChannelsCall → Channelled
  pub reads : Bytes → ℕ → WasRead

-- What an advance does with the run buffer.
abbrev pub answers : Machine → Bytes → AdvanceCall → Advanced
answers k run c = k.advances run c.moment c.bag c.trace c.table

-- The answer of one call, and the run buffer after it.
unfoldable pub called : Machine → Bytes → Call → Answer × Bytes
called k run start_call = let r = k.starts run in (start_answer r.number r.written, r.buffer)
called k run (advance_call c) =
    let r = answers k run c in
    (advance_answer r.number r.instants r.steps r.used r.trace r.table, r.run)
called k run (feed_call c) =
    let r = k.feeds run c.end c.feed c.trace in
    (feed_answer r.number r.bags r.instants r.steps r.used r.trace, r.run)
called k run (channels_call b) = let r = k.advances_channels run b in (channels_answer r.number r.answers r.traces, r.runs)
called k run (reading_call position) =
    let r = k.reads run position in
    (reading_answer r.number r.phase r.last r.due, run)

-- The answers of a list of calls in turn, and the run buffer at the end.
unfoldable pub run_calls : Machine → Bytes → List Call → List Answer × Bytes
run_calls k run [] = ([], run)
run_calls k run (c ∷ cs) =
    let r = called k run c in
    let rest = run_calls k r.1 cs in
    (r.0 ∷ rest.0, rest.1)

-- The engine and the flat machine on a model file.
unfoldable pub engine : Bytes → Machine
engine file = record {
  starts = start file;
  advances = advance file;
  feeds = advance_feed file;
  advances_channels = advance_channels file;
  reads = reading file;
}

unfoldable pub flat_machine : Bytes → Machine
flat_machine file = record {
  starts = flat_start file;
  advances = flat_advance file;
  feeds = flat_feed file;
  advances_channels = flat_channels file;
  reads = flat_reading file;
}
