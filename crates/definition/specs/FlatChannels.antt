-- The flat machine's channels, in its own words: a loop of its own over a channel's instants, and the channels one by one on the lent buffers
-- themselves. It shares with the engine what the flat machine shares, the checks of a channel and of the call, and what is given and answered.
-- Assumes nothing.
use Rattle.std.specs.Prelude.{ℕ, zero, suc, ◌+◌, ◌-◌, ◌*◌, ◌/◌, List, [], ◌∷◌, ◌++◌, cond, ltb, length, take, drop, get_or, replicate}
use Rattle.definition.specs.Bytes.{Bytes, Result, ok, refused, ◌>>=◌, refuse_if}
use Rattle.definition.specs.Limits.{max_channels}
use Rattle.definition.specs.Model.{Bag, Model}
use Rattle.definition.specs.Pinned.Decoder.{accepted}
use Rattle.definition.specs.Devs.{ticks}
use Rattle.definition.specs.Engine.{Advanced, Numbers, numbers_of, number_alone, to_bag}
use Rattle.definition.specs.FlatMachine.{Stage, entries_in, flat_due, attempt, or_end, due_before, opened_past, answered}
use Rattle.definition.specs.Channels.{no_place, bag_at, Channel, turn_checks, ChannelsCall, Channelled, miscounted}

-- The instant at `now`: where it stands but its steps pass those that the channel has, its copy is dropped with its records too.
unfoldable pub attempt_within : Model → (has now : ℕ) → Bag → Stage → Result Stage
attempt_within m has now x g = do
  h ← attempt m now x g
  _ ← refuse_if (ltb has h.steps) 22
  ok h

-- The instants in turn: those due before t, then t with the bag.
module _ (m : Model) (has t : ℕ) (given : Bag) where
  unfoldable pub in_turn_within : (turns : ℕ) → Stage → ℕ × Stage
  in_turn_within zero g = (0, g)
  in_turn_within (suc turns) g =
      let u = flat_due m (entries_in m g) in
      let one = or_end (λ h. in_turn_within turns h) g (attempt_within m has (ticks u) [] g) in
      let last = or_end (λ h. (0, opened_past m t h)) g (attempt_within m has t given g) in
      cond (due_before u t) one last

-- A channel's turn.
unfoldable pub flat_turn : Model → (t has : ℕ) → Channel → Advanced
flat_turn m t has c = answered c.run c.trace [] (do
  bag ← turn_checks m t c
  ok (in_turn_within m has t (to_bag bag) (suc t) (record { state = c.run; trace = c.trace; table = []; instants = 0; steps = 0; used = 0 })))

-- The buffers, what is left over, and the answers so far.
pub record Box : Type 0 where
  pub runs : Bytes
  pub traces : Bytes
  pub left : ℕ
  pub answers : List Numbers

unfoldable pub taken_out : (from size : ℕ) → Bytes → Bytes
taken_out from size s = take size (drop from s)

unfoldable pub put_back : (from : ℕ) → Bytes → Bytes → Bytes
put_back from new s = take from s ++ (new ++ drop (from + length new) s)

-- Channel i on the buffers, whose parts have so many bytes: its parts are taken out, and put back after its turn, whatever a turn is.
module _ (f : ℕ → Channel → Advanced) (b : ChannelsCall) (of_run of_trace : ℕ) where
  unfoldable pub one_channel : ℕ → Box → Box
  one_channel i g =
      let has = b.allowance / b.count + g.left in
      let c : Channel = record {
        run = taken_out (of_run * i) of_run g.runs;
        trace = taken_out (of_trace * i) of_trace g.traces;
        bag = bag_at b.bags (get_or b.places i no_place);
      } in
      let a = f has c in
      record {
        runs = put_back (of_run * i) a.run g.runs;
        traces = put_back (of_trace * i) a.trace g.traces;
        left = has - a.steps;
        answers = g.answers ++ (numbers_of a ∷ []);
      }

  -- So many channels, from channel i on.
  unfoldable pub one_by_one : (n i : ℕ) → Box → Box
  one_by_one zero i g = g
  one_by_one (suc n) i g = one_by_one n (suc i) (one_channel i g)

unfoldable pub boxed : Bytes → Bytes → Result Box → Channelled
boxed runs traces (refused n) = record { number = n; answers = replicate max_channels (number_alone 0); runs = runs; traces = traces }
boxed runs traces (ok g) = record {
  number = 0;
  answers = g.answers ++ replicate (max_channels - length g.answers) (number_alone 0);
  runs = g.runs;
  traces = g.traces;
}

unfoldable pub flat_channels : Bytes → Bytes → ChannelsCall → Channelled
flat_channels file runs b = boxed runs b.traces (do
  _ ← refuse_if (miscounted b.count b.allowance) 21
  m ← accepted file
  ok (one_by_one (flat_turn m b.moment) b (length runs / b.count) (length b.traces / b.count) b.count 0
      (record { runs = runs; traces = b.traces; left = 0; answers = [] })))
