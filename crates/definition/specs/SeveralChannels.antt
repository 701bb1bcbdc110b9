-- Request (viii) of document 02, "Several channels in one box", as statements about the definitions; crate `theory` proves them. The rows of 21, 10
-- to 13, 15 and 22 stand in demand 1 (ChannelRows); that each channel is its resultant's stands in demand 2; that a nest, its flat form and the flat
-- machine are alike stands in demand 3, whose lists have channel calls among them. Assumes nothing.
use Rattle.std.specs.Prelude.{◌≡◌, ◌⊎◌, ℕ, suc, ◌+◌, ◌*◌, ◌/◌, ◌≤◌, ◌<◌, List, [], ◌∷◌, ◌++◌, true, cond, leb, eqb, length, take, drop, get_or}
use Rattle.std.proofs.Math.Option.{some}
use Rattle.definition.specs.Lists.{all}
use Rattle.definition.specs.Bytes.{Bytes, AllBytes, ok, stored}
use Rattle.definition.specs.Limits.{max_steps, max_channels}
use Rattle.definition.specs.Model.{Model}
use Rattle.definition.specs.Pinned.Decoder.{accepted}
use Rattle.definition.specs.Sound.{Every}
use Rattle.definition.specs.SavedRun.{run_of, next_due}
use Rattle.definition.specs.Engine.{Advanced, Numbers, numbers_of, number_alone, to_bag, advance}
use Rattle.definition.specs.Channels.{part, no_place, bag_at, Channel, turn, ChannelsCall, Channelled, channel_at, advance_channels}
use Rattle.definition.specs.ChannelShares.{WellCounted, share_of, steps_of, has_at, past_parts}
use Rattle.definition.specs.ChannelRelation.{due_by}
use Rattle.definition.specs.ChannelRows.{MayTurn}
use Rattle.definition.specs.Demands.{opening_of, traced_by}
use Rattle.definition.specs.TracesByColumn.{OneTrace}

-- ---- a channel's turn

-- Its own advance, on its parts and with its bag.
abbrev pub own_advance : Bytes → Channel → (t : ℕ) → Bytes → Advanced
own_advance file c t bag = advance file c.run t bag c.trace []

-- "a channel's next instant does not fit its steps and meets neither 13 nor 15": its own advance to that instant's moment, with the bag where that
-- is t, succeeds and does one instant more, and has more steps than the channel.
pub record NextTooLong (file : Bytes) (t has : ℕ) (c : Channel) (bag : Bytes) (a : Advanced) : Type 0 where
  pub now : ℕ
  pub given : Bytes
  pub which : ((now < t) × (given ≡ [])) ⊎ ((now ≡ t) × (given ≡ bag))
  pub stands : (own_advance file c now given).number ≡ 0
  pub one_more : (own_advance file c now given).instants ≡ suc a.instants
  pub too_long : has < (own_advance file c now given).steps

-- "Each channel is left as its own advance would leave it after those instants", with 22: untouched where none was done, and else as its own advance
-- to the moment of the last one, and to none before it, with an empty bag, leaves it; so the open moment is one past it, and the bag is still to be given.
pub record LeftBy22 (file : Bytes) (m : Model) (t has : ℕ) (c : Channel) (a : Advanced) : Type 0 where
  pub bag : Bytes
  pub may_turn : MayTurn m t c bag
  pub untouched : AllBytes c.run → a.instants ≡ 0 → (a.run ≡ c.run) × (a.trace ≡ c.trace)
  pub as_far : 0 < a.instants
      → (last : ℕ) × (last < t) × (opening_of m a.run ≡ suc last)
      × (own_advance file c last []
      ≡ record { number = 0; instants = a.instants; steps = a.steps; used = a.used; run = a.run; trace = a.trace; table = [] })
      × ((now : ℕ) → now < last → (own_advance file c now []).instants < a.instants)
  pub next_too_long : NextTooLong file t has c bag a

pub record OneTurn (file : Bytes) (m : Model) (t has : ℕ) (c : Channel) : Type 0 where
  -- It spends no more than it has.
  pub within_has : (turn m t has c).steps ≤ has
  -- "Each channel is left as its own advance would leave it": number, counts and bytes are those of its own advance unless the number is 22, and so
  -- wherever its own advance has no more steps than the channel.
  pub as_advance : (bag : Bytes) → c.bag ≡ some bag → ((turn m t has c).number ≡ 22 → ⊥) → turn m t has c ≡ own_advance file c t bag
  pub where_enough : (bag : Bytes) → c.bag ≡ some bag → (own_advance file c t bag).steps ≤ has → turn m t has c ≡ own_advance file c t bag
  pub left_by_22 : (turn m t has c).number ≡ 22 → LeftBy22 file m t has c (turn m t has c)
  -- Its buffers are as long as they were.
  pub same_lengths : (length (turn m t has c).run ≡ length c.run) × (length (turn m t has c).trace ≡ length c.trace)
  -- What it writes is one trace in the sense of request (iii).
  pub one_trace : OneTrace (traced_by (turn m t has c))

-- ---- the whole call

-- What is answered for channel i, and what its parts hold afterwards.
abbrev pub answer_of : Channelled → ℕ → Numbers
answer_of r i = get_or r.answers i (number_alone 0)

pub record Answered (b : ChannelsCall) (r : Channelled) (i : ℕ) (a : Advanced) : Type 0 where
  pub answer : answer_of r i ≡ numbers_of a
  pub run : part b.count i r.runs ≡ a.run
  pub trace : part b.count i r.traces ≡ a.trace

-- A buffer of the same length with the same bytes past the last of n parts.
abbrev pub SameRest : ℕ → Bytes → Bytes → Type 0
SameRest n s s' = (length s' ≡ length s) × (drop (past_parts n (length s)) s' ≡ drop (past_parts n (length s)) s)

pub record WholeCall (runs : Bytes) (b : ChannelsCall) (r : Channelled) : Type 0 where
  -- "The total never passes the allowance"
  pub total : steps_of r.answers ≤ b.allowance
  pub eight : length r.answers ≡ max_channels
  -- zeros for channels that are not there
  pub none_there : (i : ℕ) → b.count ≤ i → answer_of r i ≡ number_alone 0
  -- the bytes past the last part stay
  pub rest_stays : SameRest b.count runs r.runs × SameRest b.count b.traces r.traces

pub record EachChannel (m : Model) (runs : Bytes) (b : ChannelsCall) (r : Channelled) (i : ℕ) : Type 0 where
  -- "Each channel's share is the allowance divided by the number, rounded down, plus what the earlier channels left over" ..
  pub left_over : has_at b r.answers i + steps_of (take i r.answers) ≡ suc i * share_of b
  -- .. "and a busy neighbour cannot take a channel's own share", which is enough for an instant.
  pub own_share : (max_steps ≤ share_of b) × (share_of b ≤ has_at b r.answers i)
  -- "So a channel whose run, time and bag are accepted, with an instant due by that moment, does at least one in every call, unless that instant
  -- meets 13 or 15"
  pub does_one : (bag : Bytes) → MayTurn m b.moment (channel_at runs b i) bag
      → due_by (next_due m (run_of m (channel_at runs b i).run).entries) b.moment (to_bag bag) ≡ true
      → (0 < (answer_of r i).instants) ⊎ (((answer_of r i).number ≡ 13) ⊎ ((answer_of r i).number ≡ 15))
  -- So its steps never run out before the first instant that it does.
  pub some_done : (answer_of r i).number ≡ 22 → 0 < (answer_of r i).instants
  -- Its answer and bytes are its own turn's: they depend on no other channel's run, bag or trace but through what was left over.
  pub own_turn : Answered b r i (turn m b.moment (has_at b r.answers i) (channel_at runs b i))

-- ---- calling again after 22

-- What a channel is lent in one call of several: the steps that it has, and a trace.
pub record LentAgain : Type 0 where
  pub has : ℕ
  pub trace : Bytes

-- What several calls come to: the last number, the counts and records of all, the run at the end, and the length of a trace in which one call would
-- have had all of their room.
pub record Joined : Type 0 where
  pub number : ℕ
  pub instants : ℕ
  pub steps : ℕ
  pub records : Bytes
  pub run : Bytes
  pub room : ℕ

unfoldable pub alone : (room : ℕ) → Advanced → Joined
alone room a = record { number = a.number; instants = a.instants; steps = a.steps; records = traced_by a; run = a.run; room = room }

unfoldable pub followed_by : Advanced → Joined → Joined
followed_by a r = record {
  number = r.number;
  instants = a.instants + r.instants;
  steps = a.steps + r.steps;
  records = traced_by a ++ r.records;
  run = r.run;
  room = a.used + r.room;
}

-- Turns with one moment and one bag, each on the run as the one before left it, until one is not answered by 22.
module _ (m : Model) (t : ℕ) (bag : Bytes) where
  abbrev pub turn_on : Bytes → LentAgain → Advanced
  turn_on run l = turn m t l.has (record { run = run; trace = l.trace; bag = some bag })

  unfoldable pub again : Bytes → LentAgain → List LentAgain → Joined
  again run l [] = alone (length l.trace) (turn_on run l)
  again run l (k ∷ ks) =
      let a = turn_on run l in
      let rest = again a.run k ks in
      cond (eqb a.number 22) (followed_by a rest) (alone (length l.trace) a)

-- What one advance would have answered and left in a trace, with these records.
abbrev pub in_one : Joined → Bytes → Advanced
in_one r trace = record {
  number = r.number;
  instants = r.instants;
  steps = r.steps;
  used = length r.records;
  run = r.run;
  trace = stored r.records trace;
  table = [];
}

pub record GoesOn (file : Bytes) (m : Model) (t : ℕ) (bag run : Bytes) (l : LentAgain) (ls : List LentAgain) : Type 0 where
  -- Turns with the steps of an instant in each come to an end: one for every moment from the open one to t is enough ..
  pub comes_to_an_end : all (λ k. leb max_steps k.has) (l ∷ ls) ≡ true → t < opening_of m run + length (l ∷ ls) → (again m t bag run l ls).number ≡ 22 → ⊥
  -- .. with the run, the counts and the records that one advance would have left, in a trace as long as the turns had together ..
  pub as_one : ((again m t bag run l ls).number ≡ 22 → ⊥) → (trace : Bytes) → length trace ≡ (again m t bag run l ls).room
      → advance file run t bag trace [] ≡ in_one (again m t bag run l ls) trace
  -- .. or in any longer one, unless the last turn met 15.
  pub as_one_longer : ((again m t bag run l ls).number ≡ 22 → ⊥) → ((again m t bag run l ls).number ≡ 15 → ⊥) → (trace : Bytes)
      → (again m t bag run l ls).room ≤ length trace → advance file run t bag trace [] ≡ in_one (again m t bag run l ls) trace

-- The runs after a list of channel calls.
unfoldable pub runs_after : Bytes → Bytes → List ChannelsCall → Bytes
runs_after file runs [] = runs
runs_after file runs (b ∷ bs) = runs_after file (advance_channels file runs b).runs bs

-- Calls with one number of runs and one moment, in which channel i has the same bag, and trace parts at least so long; all else may differ.
pub record Repeated (n i t : ℕ) (bag : Bytes) (long : ℕ) (b : ChannelsCall) : Type 0 where
  pub counted : WellCounted b
  pub count : b.count ≡ n
  pub moment : b.moment ≡ t
  pub same_bag : bag_at b.bags (get_or b.places i no_place) ≡ some bag
  pub room : long ≤ length b.traces / n

pub record SeveralChannels : Type 0 where
  pub one_turn : (file : Bytes) (m : Model) (t has : ℕ) (c : Channel) → AllBytes file → accepted file ≡ ok m → OneTurn file m t has c
  pub whole_call : (file runs : Bytes) (b : ChannelsCall) → AllBytes file → WholeCall runs b (advance_channels file runs b)
  pub each_channel : (file runs : Bytes) (b : ChannelsCall) (m : Model) (i : ℕ) → AllBytes file → accepted file ≡ ok m → WellCounted b → i < b.count
      → EachChannel m runs b (advance_channels file runs b) i
  -- Calling again after 22 goes on.
  pub continues : (file : Bytes) (m : Model) (t : ℕ) (bag run : Bytes) (l : LentAgain) (ls : List LentAgain) → AllBytes file → accepted file ≡ ok m
      → GoesOn file m t bag run l ls
  -- Whole calls again and again leave in a channel's part the run that its one advance would have left, where that advance succeeds and the traces are
  -- long enough for its records, whatever the other channels do: a call for every moment from the open one to t is enough.
  pub ends_as_one : (file runs : Bytes) (m : Model) (n i t : ℕ) (bag trace : Bytes) (bs : List ChannelsCall)
      → AllBytes file → accepted file ≡ ok m → i < n → Every (Repeated n i t bag (length trace)) bs
      → t < opening_of m (part n i runs) + length bs → (advance file (part n i runs) t bag trace []).number ≡ 0
      → part n i (runs_after file runs bs) ≡ (advance file (part n i runs) t bag trace []).run
