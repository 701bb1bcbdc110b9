-- The structs that the calls answer, as the definitions' outcomes: the numbers and what the lent buffers hold afterwards. And the places of a
-- channel call.
use Rattle.std.specs.Prelude.{List, map, ℕ}
use Rattle.definition.specs.Bytes.{Bytes}
use Rattle.definition.specs.Engine.{Wrote, Numbers, WasRead}
use Rattle.definition.specs.Engine.{Advanced as DefAdvanced}
use Rattle.definition.specs.FeedCall.{Fed as DefFed}
use Rattle.definition.specs.Channels.{ChannelsCall, Channelled}
use Rattle.definition.specs.Channels.{Place as DefPlace}
use Rattle.call_answers.specs.declared.Written.{Written}
use Rattle.call_answers.specs.declared.Advanced.{Advanced}
use Rattle.call_answers.specs.declared.Fed.{Fed}
use Rattle.call_answers.specs.declared.Reading.{Reading}
use Rattle.call_answers.specs.declared.Place.{Place}
use Rattle.call_answers.specs.declared.Places.{Places}
use Rattle.call_answers.specs.declared.Channels.{Channels}

abbrev pub wrote_of : Bytes → Written → Wrote
wrote_of buffer r = record { number = r.number; written = r.bytes; buffer = buffer }

abbrev pub advanced_of : Bytes → Bytes → Bytes → Advanced → DefAdvanced
advanced_of run trace table r =
    record { number = r.number; instants = r.instants; steps = r.steps; used = r.trace_bytes; run = run; trace = trace; table = table }

abbrev pub fed_of : Bytes → Bytes → Fed → DefFed
fed_of run trace r =
    record { number = r.number; bags = r.bags; instants = r.instants; steps = r.steps; used = r.trace_bytes; run = run; trace = trace }

abbrev pub read_of : Reading → WasRead
read_of r = record { number = r.number; phase = r.phase; last = r.last; due = r.next_due }

abbrev pub place_of : Place → DefPlace
place_of p = record { start = p.start; size = p.size }

abbrev pub places_of : Places → List DefPlace
places_of p = map place_of p.channel

-- What a channel call is given beside the model file and the runs.
abbrev pub channels_call_of : (count t allowance : ℕ) → Bytes → Places → Bytes → ChannelsCall
channels_call_of count t allowance bags places traces =
    record { count = count; moment = t; allowance = allowance; bags = bags; places = places_of places; traces = traces }

abbrev pub numbers_in : Advanced → Numbers
numbers_in r = record { number = r.number; instants = r.instants; steps = r.steps; used = r.trace_bytes }

abbrev pub channelled_of : Bytes → Bytes → Channels → Channelled
channelled_of runs traces r = record { number = r.number; answers = map numbers_in r.channel; runs = runs; traces = traces }
