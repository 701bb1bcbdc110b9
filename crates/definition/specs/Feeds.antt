-- Request (v) of document 02, "A whole day's cue list", as statements about the definitions; crate `theory` proves them. The rows of 19 and 11,
-- and how a feed ends, stand in demand 1; that a nest, its flat form and the flat machine are alike under feeds stands in demand 3, whose
-- lists have feeds among their calls. Assumes nothing.
use Rattle.std.specs.Prelude.{◌≡◌, ◌⊎◌, ℕ, suc, ◌<◌, min, List, [], ◌∷◌, map, true, cond, eqb, length, take, drop}
use Rattle.definition.specs.Lists.{sum, count}
use Rattle.definition.specs.Bytes.{Bytes, AllBytes, ok, stored}
use Rattle.definition.specs.Model.{Model}
use Rattle.definition.specs.Pinned.Decoder.{accepted}
use Rattle.definition.specs.Engine.{Numbers, number_alone}
use Rattle.definition.specs.Feed.{FeedBag, first_moment, feed_calls}
use Rattle.definition.specs.FeedCall.{Fed, nothing_fed, fed_in_turn, advance_feed}
use Rattle.definition.specs.SavedRun.{run_fits}
use Rattle.definition.specs.Calls.{AdvanceCall, advance_call, Answer, start_answer, advance_answer, feed_answer, channels_answer, reading_answer, Machine, answers, run_calls, engine}
use Rattle.definition.specs.Demands.{opening_of, MayFeed}
use Rattle.definition.specs.TracesByColumn.{joined_traces, OneTrace}

-- The advance calls of a feed as they are made: each with what is left of the lent trace and with no table, up to the first that is refused.
unfoldable pub made_calls : Machine → Bytes → Bytes → List FeedBag → List AdvanceCall
made_calls k run trace [] = []
made_calls k run trace (c ∷ cs) =
    let made : AdvanceCall = record { moment = c.moment; bag = c.bag; trace = trace; table = [] } in
    let a = answers k run made in
    let on = made_calls k a.run (drop a.used a.trace) cs in
    made ∷ cond (eqb a.number 0) on []

-- The numbers in an advance's answer.
abbrev pub Counted : Type 0
Counted = Numbers

unfoldable pub counted : Answer → Counted
counted (advance_answer n i s u trace table) = record { number = n; instants = i; steps = s; used = u }
counted (start_answer n w) = number_alone n
counted (feed_answer n b i s u trace) = number_alone n
counted (channels_answer n told traces) = number_alone n
counted (reading_answer n p l d) = number_alone n

unfoldable pub last_number : List Answer → ℕ
last_number [] = 0
last_number (a ∷ []) = (counted a).number
last_number (a ∷ b ∷ l) = last_number (b ∷ l)

-- What a feed of so many bags gives, by the answers of its calls, the run buffer that they left, and their traces joined in turn: the last
-- number, "the number of bags whose own call succeeded", the "counts added up", and all that was written at the front of the lent trace.
pub record AsCalls (bags : ℕ) (trace : Bytes) (told : List Answer) (left joined : Bytes) (f : Fed) : Type 0 where
  pub number : f.number ≡ last_number told
  pub bags_done : f.bags ≡ min (count (λ a. eqb (counted a).number 0) told) bags
  pub instants : f.instants ≡ sum (map (λ a. (counted a).instants) told)
  pub steps : f.steps ≡ sum (map (λ a. (counted a).steps) told)
  pub used : f.used ≡ sum (map (λ a. (counted a).used) told)
  pub run_left : f.run ≡ left
  pub written : take f.used f.trace ≡ joined
  pub trace_left : f.trace ≡ stored joined trace

pub record Feeds : Type 0 where
  -- "Running a feed to an end moment gives what its advance calls in turn give": as the calls of a list do, byte for byte.
  pub as_calls : (file run : Bytes) (end : ℕ) (feed trace : Bytes) (m : Model) (bs : List FeedBag) → AllBytes file → accepted file ≡ ok m → MayFeed m run end feed bs
      → (let calls = made_calls (engine file) run trace (feed_calls bs end) in
      let told = run_calls (engine file) run (map advance_call calls) in
      AsCalls (length bs) trace told.0 told.1 (joined_traces run (map (λ c. (engine file, c)) calls)) (advance_feed file run end feed trace))
  -- A first call before the open moment is refused by that call itself: 11 says of it what the calls would say.
  pub early_call : (file run : Bytes) (end : ℕ) (trace : Bytes) (m : Model) (bs : List FeedBag) → accepted file ≡ ok m → run_fits m run ≡ true
      → first_moment bs end < opening_of m run → fed_in_turn file run trace (feed_calls bs end) ≡ nothing_fed 11 run trace
  -- "The first refused call stops it": only 13 and 15 do.
  pub stopped_by_lem : (file run : Bytes) (end : ℕ) (feed trace : Bytes) (m : Model) (bs : List FeedBag) → AllBytes file → accepted file ≡ ok m
      → MayFeed m run end feed bs → (let n = (advance_feed file run end feed trace).number in (n ≡ 0) ⊎ ((n ≡ 13) ⊎ (n ≡ 15)))
  -- Where it succeeds, all bags' own calls have, and the open moment is one past the end.
  pub to_the_end : (file run : Bytes) (end : ℕ) (feed trace : Bytes) (m : Model) (bs : List FeedBag) → AllBytes file → accepted file ≡ ok m
      → MayFeed m run end feed bs → (advance_feed file run end feed trace).number ≡ 0
      → ((advance_feed file run end feed trace).bags ≡ length bs) × (opening_of m (advance_feed file run end feed trace).run ≡ suc end)
  -- Whatever it is given, what it writes is one trace in the sense of request (iii).
  pub one_trace : (file run : Bytes) (end : ℕ) (feed trace : Bytes) → AllBytes file
      → OneTrace (take (advance_feed file run end feed trace).used (advance_feed file run end feed trace).trace)
