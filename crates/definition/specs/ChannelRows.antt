-- Demand 1 for the call that advances several channels: its rows, and those of each channel's turn, the rows before having passed. Assumes nothing.
use Rattle.std.specs.Prelude.{◌≡◌, ◌⊎◌, ℕ, ◌+◌, ◌≤◌, ◌<◌, List, [], ◌++◌, true, false, length, replicate}
use Rattle.std.proofs.Math.Option.{none, some}
use Rattle.definition.specs.Bytes.{Bytes, AllBytes, ok}
use Rattle.definition.specs.Limits.{max_moment, max_channels}
use Rattle.definition.specs.Model.{Model}
use Rattle.definition.specs.Pinned.Decoder.{accepted}
use Rattle.definition.specs.Refusals.{Judged}
use Rattle.definition.specs.SavedRun.{Entry, run_of, run_fits}
use Rattle.definition.specs.Step.{nested}
use Rattle.definition.specs.Advance.{Ended}
use Rattle.definition.specs.Engine.{Advanced, number_alone, to_bag, bag_fits, advanced}
use Rattle.definition.specs.Channels.{Place, bag_at, Channel, turn, ChannelsCall, Channelled, advance_channels}
use Rattle.definition.specs.ChannelShares.{Miscounted, WellCounted}
use Rattle.definition.specs.ChannelRelation.{EndsWithin}
use Rattle.definition.specs.Carrying.{begins}

-- ---- the call

pub data ChannelsRefusal (file : Bytes) (b : ChannelsCall) : ℕ → Type 0 where
  -- "21 when the number of runs is not 1 to 8 or the allowance is below 1,024 a run, before anything else"
  channels_refuse_count : Miscounted b → ChannelsRefusal file b 21
  channels_refuse_model : (n : ℕ) → WellCounted b → 0 < n → Judged file n → ChannelsRefusal file b n

-- "zeros in every other number of the outcome and no byte written"
abbrev pub refused_channels : ℕ → Bytes → ChannelsCall → Channelled
refused_channels n runs b = record { number = n; answers = replicate max_channels (number_alone 0); runs = runs; traces = b.traces }

-- ---- a channel

-- "10 too short or does not fit"; "11 before the open moment, or above 1,000,000,000,000"; 12 by its place or by its bag.
pub data TurnRefusal (m : Model) (t : ℕ) (c : Channel) : ℕ → Type 0 where
  turn_refuses_run : run_fits m c.run ≡ false → TurnRefusal m t c 10
  turn_refuses_time : run_fits m c.run ≡ true → (t < (run_of m c.run).opening) ⊎ (max_moment < t) → TurnRefusal m t c 11
  -- "start and length in a third buffer, 12 past its end"
  turn_refuses_place : run_fits m c.run ≡ true → (run_of m c.run).opening ≤ t → t ≤ max_moment → c.bag ≡ none → TurnRefusal m t c 12
  turn_refuses_bag : run_fits m c.run ≡ true → (run_of m c.run).opening ≤ t → t ≤ max_moment → (bag : Bytes) → c.bag ≡ some bag → bag_fits bag ≡ false
      → TurnRefusal m t c 12

-- "a channel whose run, time and bag are accepted"
pub record MayTurn (m : Model) (t : ℕ) (c : Channel) (bag : Bytes) : Type 0 where
  pub run_fits_lem : run_fits m c.run ≡ true
  pub not_early : (run_of m c.run).opening ≤ t
  pub not_late : t ≤ max_moment
  pub inside : c.bag ≡ some bag
  pub bag_fits_lem : bag_fits bag ≡ true

-- How its instants end from its saved run on.
abbrev pub TurnEnds : Model → (t has : ℕ) → Channel → Bytes → Ended (List Entry) → Type 0
TurnEnds m t has c bag e =
    EndsWithin (nested m) has (length c.trace) t (to_bag bag) (begins (run_of m c.run).opening (run_of m c.run).entries) e

abbrev pub refused_turn : ℕ → Channel → Advanced
refused_turn n c = record { number = n; instants = 0; steps = 0; used = 0; run = c.run; trace = c.trace; table = [] }

-- The number of any turn: that of a row, or the one with which its instants end: 0, 13, 15 or 22, each by its case of `EndsWithin`.
pub data TurnNumber (m : Model) (t has : ℕ) (c : Channel) : ℕ → Type 0 where
  turn_by_row : (n : ℕ) → TurnRefusal m t c n → TurnNumber m t has c n
  turn_by_instants : (bag : Bytes) (e : Ended (List Entry)) → MayTurn m t c bag → TurnEnds m t has c bag e → TurnNumber m t has c e.number

pub record ChannelRows : Type 0 where
  -- The whole call is refused by 21 or by the model's number, on that condition and never otherwise; else its own number is 0.
  pub channels_refused : (file runs : Bytes) (b : ChannelsCall) (n : ℕ) → ChannelsRefusal file b n → advance_channels file runs b ≡ refused_channels n runs b
  pub channels_number : (file runs : Bytes) (b : ChannelsCall) → AllBytes file → 0 < (advance_channels file runs b).number
      → ChannelsRefusal file b (advance_channels file runs b).number
  -- "start and length in a third buffer, 12 past its end": no bag where the place ends past the buffer, be it empty or not; else the bytes there.
  pub place_past : (bags : Bytes) (p : Place) → length bags < p.start + p.size → bag_at bags p ≡ none
  pub place_inside : (front bag rest : Bytes) → bag_at (front ++ (bag ++ rest)) (record { start = length front; size = length bag }) ≡ some bag
  -- 10 to 12, "for that channel alone": its bytes stay and it spends nothing.
  pub turn_refused : (m : Model) (t has : ℕ) (c : Channel) (n : ℕ) → TurnRefusal m t c n → turn m t has c ≡ refused_turn n c
  pub turn_number : (file : Bytes) (m : Model) (t has : ℕ) (c : Channel) → AllBytes file → accepted file ≡ ok m → TurnNumber m t has c (turn m t has c).number
  -- Else its instants end as `EndsWithin` tells, and in no other way.
  pub turn_ends : (file : Bytes) (m : Model) (t has : ℕ) (c : Channel) (bag : Bytes) → AllBytes file → accepted file ≡ ok m → MayTurn m t c bag
      → (e : Ended (List Entry)) × TurnEnds m t has c bag e × (turn m t has c ≡ advanced c.run c.trace [] (ok e))
  pub turn_only : (file : Bytes) (m : Model) (t has : ℕ) (c : Channel) (bag : Bytes) → AllBytes file → accepted file ≡ ok m → MayTurn m t c bag
      → (e : Ended (List Entry)) → TurnEnds m t has c bag e → turn m t has c ≡ advanced c.run c.trace [] (ok e)
  -- It leaves a run that fits.
  pub turn_fits : (file : Bytes) (m : Model) (t has : ℕ) (c : Channel) → AllBytes file → accepted file ≡ ok m → run_fits m c.run ≡ true
      → run_fits m (turn m t has c).run ≡ true
