-- What the calls write into the run buffer is bytes, so that a run buffer of bytes stays one. Assumes nothing.
use Prim.Native.Nat.{ℕ, zero, suc, ◌+◌, ◌-◌, ◌*◌, ◌/◌}
use mathlib.Core.List.{List, [], ◌∷◌, map}
use mathlib.Core.Bool.{Bool, true, false, cond}
use lib.Dec.{ltb, eqb}
use lib.ListN.{length, drop}
use Rattle.definition.specs.Lists.{concat, up_from}
use Rattle.definition.specs.Bytes.{Bytes, AllBytes, none, Result, ok, refused, refuse_if, ◌>>=◌, stored}
use Rattle.definition.specs.Model.{Model}
use Rattle.definition.specs.Pinned.Decoder.{accepted}
use Rattle.definition.specs.SavedRun.{Entry, Run, entry_bytes, run_bytes}
use Rattle.definition.specs.Advance.{Ended}
use Rattle.definition.specs.Engine.{Wrote, start_run, start, wrote, Advanced, advanced, advance}
use Rattle.definition.specs.Feed.{FeedBag, feed_calls}
use Rattle.definition.specs.FeedCall.{Fed, nothing_fed, stopped_by, followed_by, fed_in_turn, own_bags, fed_or, feed_checks, advance_feed}
use Rattle.definition.specs.Channels.{part, channel_at, channels_of, turn, turns, channelled, miscounted, ChannelsCall, advance_channels}
use Rattle.definition.specs.ChannelShares.{share_of}
use Rattle.law_model.proofs.Codec.{append-bytes, take-bytes, drop-bytes, number-bytes}

stored_bytes : (a s : Bytes) → AllBytes a → AllBytes s → AllBytes (stored a s)
unfolding stored
stored_bytes a s h k = append-bytes h (drop-bytes (length a) k)

entries-bytes : (es : List Entry) → AllBytes (concat (map entry_bytes es))
unfolding concat entry_bytes
entries-bytes [] = none
entries-bytes (e ∷ es) = append-bytes (append-bytes (number-bytes 1 e.phase) (number-bytes 8 e.last)) (entries-bytes es)

pub run-bytes : (r : Run) → AllBytes (run_bytes r)
unfolding run_bytes
run-bytes r = append-bytes (append-bytes (number-bytes 8 r.opening) (number-bytes 2 (length r.entries))) (entries-bytes r.entries)

pub start-bytes : (file run : Bytes) → AllBytes run → AllBytes (start file run).buffer
unfolding start wrote
start-bytes file run h = go (accepted file)
  where
    go : (r : Result Model) → AllBytes (wrote run (r >>= λ m. ok (run_bytes (start_run m)))).buffer
    go (refused n) = h
    go (ok m) = pick (ltb (length run) (length (run_bytes (start_run m))))
      where
        pick : (b : Bool) → AllBytes (cond {A = Wrote} b (record { number = 15; written = 0; buffer = run }) (record { number = 0; written = length (run_bytes (start_run m)); buffer = stored (run_bytes (start_run m)) run })).buffer
        pick true = h
        pick false = stored_bytes (run_bytes (start_run m)) run (run-bytes (start_run m)) h

advanced-bytes : (run trace table : Bytes) (r : Result (Ended (List Entry))) → AllBytes run → AllBytes (advanced run trace table r).run
unfolding advanced
advanced-bytes run trace table (refused n) h = h
advanced-bytes run trace table (ok a) h = stored_bytes _ run (run-bytes _) h

pub advance-bytes : (file run : Bytes) (t : ℕ) (bag trace table : Bytes) → AllBytes run → AllBytes (advance file run t bag trace table).run
unfolding advance
advance-bytes file run t bag trace table h = advanced-bytes run trace table _ h

fed-bytes : (file : Bytes) (cs : List FeedBag) (run trace : Bytes) → AllBytes run → AllBytes (fed_in_turn file run trace cs).run
unfolding fed_in_turn nothing_fed followed_by stopped_by
fed-bytes file [] run trace h = h
fed-bytes file (c ∷ cs) run trace h = go (eqb a.number 0) (fed-bytes file cs a.run (drop a.used a.trace) left)
  where
    a : Advanced
    a = advance file run c.moment c.bag trace []

    left : AllBytes a.run
    left = advance-bytes file run c.moment c.bag trace [] h

    on : Fed
    on = fed_in_turn file a.run (drop a.used a.trace) cs

    go : (z : Bool) → AllBytes on.run → AllBytes (cond z (followed_by a on) (stopped_by a)).run
    go true k = k
    go false k = left

pub feed-bytes : (file run : Bytes) (end : ℕ) (feed trace : Bytes) → AllBytes run → AllBytes (advance_feed file run end feed trace).run
unfolding advance_feed fed_or nothing_fed own_bags
feed-bytes file run end feed trace h = go (accepted file)
  where
    checks : (r : Result (List FeedBag)) → AllBytes (fed_or run trace (r >>= λ bs. ok (own_bags (length bs) (fed_in_turn file run trace (feed_calls bs end))))).run
    checks (refused n) = h
    checks (ok bs) = fed-bytes file (feed_calls bs end) run trace h

    go : (r : Result Model) → AllBytes (fed_or run trace (r >>= λ m. feed_checks m run end feed >>= λ bs. ok (own_bags (length bs) (fed_in_turn file run trace (feed_calls bs end))))).run
    go (refused n) = h
    go (ok m) = checks (feed_checks m run end feed)

-- ---- channels

module _ (m : Model) (runs : Bytes) (b : ChannelsCall) (h : AllBytes runs) where
  turns-bytes : (left i n : ℕ) → AllBytes (concat (map (λ a. a.run) (turns m b.moment (share_of b) left (map (channel_at runs b) (up_from i n)))))
  unfolding turns up_from concat turn channel_at part
  turns-bytes left i zero = none
  turns-bytes left i (suc n) =
      append-bytes (advanced-bytes _ _ _ _ (take-bytes (length runs / b.count) (drop-bytes (length runs / b.count * i) h)))
      (turns-bytes (share_of b + left - (turn m b.moment (share_of b + left) (channel_at runs b i)).steps) (suc i) n)

pub channels-bytes : (file runs : Bytes) (b : ChannelsCall) → AllBytes runs → AllBytes (advance_channels file runs b).runs
unfolding advance_channels channelled channels_of
channels-bytes file runs b h = go (miscounted b.count b.allowance) (accepted file)
  where
    go : (c : Bool) (r : Result Model)
        → AllBytes (channelled runs b.traces (refuse_if c 21 >>= λ _. r >>= λ m. ok (turns m b.moment (share_of b) 0 (map (channel_at runs b) (up_from 0 b.count))))).runs
    go true r = h
    go false (refused n) = h
    go false (ok m) = stored_bytes _ runs (turns-bytes m runs b h 0 0 b.count) h
