-- The call that advances several runs of one model: request (viii) of document 02. For all bytes and numbers put in, the numbers answered and
-- the whole content of each lent buffer afterwards. Assumes nothing.
use Rattle.std.specs.Prelude.{ℕ, zero, suc, ◌+◌, ◌-◌, ◌*◌, ◌/◌, List, [], ◌∷◌, ◌++◌, map, Bool, ◌||◌, ◌&&◌, not, cond, leb, ltb, length, take, drop, get_or, replicate}
use Rattle.std.proofs.Math.Option.{Option, none, some}
use Rattle.definition.specs.Lists.{concat, up_from}
use Rattle.definition.specs.Bytes.{Bytes, Result, ok, refused, ◌>>=◌, refuse_if, stored}
use Rattle.definition.specs.Limits.{max_steps, max_moment, max_channels}
use Rattle.definition.specs.Model.{Bag, Model}
use Rattle.definition.specs.Pinned.Decoder.{accepted}
use Rattle.definition.specs.Devs.{ticks}
use Rattle.definition.specs.SavedRun.{run_of, run_fits}
use Rattle.definition.specs.Step.{Simulator, nested}
use Rattle.definition.specs.Instant.{Instant, instant}
use Rattle.definition.specs.Advance.{Progress, Ended, ended, tried, continued, succeeded, is_before}
use Rattle.definition.specs.Engine.{Advanced, Numbers, numbers_of, number_alone, advanced, to_bag, bag_fits}

-- ---- a channel's instants

-- The verdict on an instant of a channel that has so many steps in this call: 13 and 15 as in any advance, and last "22 when a channel's next
-- instant does not fit its steps and meets neither 13 nor 15".
unfoldable pub tried_within : {S : Type 0} → (has room now : ℕ) → Progress S → Instant S → Result (Progress S)
tried_within has room now p i = do
  q ← tried room now p i
  _ ← refuse_if (ltb has q.steps) 22
  ok q

-- "A channel does whole instants while the next one fits what it still has": those due before t, then t with the bag. An instant left undone
-- leaves what stood before it. Each instant opens a later moment, so that t + 1 rounds are enough (demand 1 says so).
module _ {S : Type 0} (k : Simulator S) (has room t : ℕ) (given : Bag) where
  unfoldable pub advancing_within : (rounds : ℕ) → Progress S → Ended S
  advancing_within zero p = ended 0 p
  advancing_within (suc rounds) p =
      let u = k.next p.state in
      let on = continued (λ q. advancing_within rounds q) p (tried_within has room (ticks u) p (instant k (ticks u) [] p.state)) in
      let last = continued (succeeded t) p (tried_within has room t p (instant k t given p.state)) in
      cond (is_before u t) on last

  -- The instants of a channel from an open moment and a state.
  unfoldable pub advance_within : (opening : ℕ) → S → Ended S
  advance_within opening s = advancing_within (suc t) (record { opening = opening; state = s; instants = 0; steps = 0; trace = []; rules = [] })

-- ---- a channel's part of the buffers

-- "equal parts of one buffer ..; a part's length is the buffer's length divided by the number, rounded down": part i of n.
unfoldable pub part : (n i : ℕ) → Bytes → Bytes
part n i s = take (length s / n) (drop (length s / n * i) s)

-- "its own bag (start and length in a third buffer ..)"
pub record Place : Type 0 where
  pub start : ℕ
  pub size : ℕ

unfoldable pub no_place : Place
no_place = record { start = 0; size = 0 }

-- The bytes at a place; none where it runs past the buffer's end, also where it is empty and starts past it.
unfoldable pub bag_at : Bytes → Place → Option Bytes
bag_at bags p = cond (ltb (length bags) (p.start + p.size)) none (some (take p.size (drop p.start bags)))

-- A channel: its parts of the buffers, and its own bag, none where its place runs past the end.
pub record Channel : Type 0 where
  pub run : Bytes
  pub trace : Bytes
  pub bag : Option Bytes

-- ---- a channel's turn

-- "12 past its end"
unfoldable pub or_past_end : Option Bytes → Result Bytes
or_past_end none = refused 12
or_past_end (some bag) = ok bag

-- 10, 11 and 12 as of an advance; else its bag.
unfoldable pub turn_checks : Model → ℕ → Channel → Result Bytes
turn_checks m t c = do
  _ ← refuse_if (not (run_fits m c.run)) 10
  _ ← refuse_if (ltb t (run_of m c.run).opening || ltb max_moment t) 11
  bag ← or_past_end c.bag
  _ ← refuse_if (not (bag_fits bag)) 12
  ok bag

-- What a channel answers, and what its parts hold afterwards, where it has so many steps. "Calls added later take no table."
unfoldable pub turn : Model → (t has : ℕ) → Channel → Advanced
turn m t has c = advanced c.run c.trace [] (do
  bag ← turn_checks m t c
  ok (advance_within (nested m) has (length c.trace) t (to_bag bag) (run_of m c.run).opening (run_of m c.run).entries))

-- "Each channel's share is the allowance divided by the number, rounded down, plus what the earlier channels left over. Only the steps of
-- instants done are spent."
module _ (m : Model) (t share : ℕ) where
  unfoldable pub turns : (left : ℕ) → List Channel → List Advanced
  turns left [] = []
  turns left (c ∷ cs) =
      let has = share + left in
      let a = turn m t has c in
      a ∷ turns (has - a.steps) cs

-- ---- the call

-- What it is given beside the model file and the runs: how many they are, "to one moment under an allowance of steps", the third buffer with
-- the places of the bags in it, and the traces.
pub record ChannelsCall : Type 0 where
  pub count : ℕ
  pub moment : ℕ
  pub allowance : ℕ
  pub bags : Bytes
  pub places : List Place
  pub traces : Bytes

-- What it answers, and what the buffers hold afterwards.
pub record Channelled : Type 0 where
  pub number : ℕ
  pub answers : List Numbers
  pub runs : Bytes
  pub traces : Bytes

-- Channel i, and all of them: their order is that of the buffer.
unfoldable pub channel_at : Bytes → ChannelsCall → ℕ → Channel
channel_at runs b i = record {
  run = part b.count i runs;
  trace = part b.count i b.traces;
  bag = bag_at b.bags (get_or b.places i no_place);
}

unfoldable pub channels_of : Bytes → ChannelsCall → List Channel
channels_of runs b = map (channel_at runs b) (up_from 0 b.count)

-- Eight answers: zeros for a channel that is not there, and for each where the whole call is refused.
unfoldable pub eight_answers : List Advanced → List Numbers
eight_answers xs = map numbers_of xs ++ replicate (max_channels - length xs) (number_alone 0)

-- The parts in turn at the front of their buffers; the bytes past the last part stay.
unfoldable pub channelled : Bytes → Bytes → Result (List Advanced) → Channelled
channelled runs traces (refused n) = record { number = n; answers = eight_answers []; runs = runs; traces = traces }
channelled runs traces (ok xs) = record {
  number = 0;
  answers = eight_answers xs;
  runs = stored (concat (map (λ a. a.run) xs)) runs;
  traces = stored (concat (map (λ a. a.trace) xs)) traces;
}

-- "21 when the number of runs is not 1 to 8 or the allowance is below 1,024 a run, before anything else"
unfoldable pub miscounted : (count allowance : ℕ) → Bool
miscounted n allowance = not (leb 1 n && leb n max_channels) || ltb allowance (max_steps * n)

unfoldable pub advance_channels : Bytes → Bytes → ChannelsCall → Channelled
advance_channels file runs b = channelled runs b.traces (do
  _ ← refuse_if (miscounted b.count b.allowance) 21
  m ← accepted file
  ok (turns m b.moment (b.allowance / b.count) 0 (channels_of runs b)))
