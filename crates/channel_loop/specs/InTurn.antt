-- The channels of a call one by one on the lent buffers, and what they ask. Nothing here has to be believed. Assumes nothing.
use Rattle.std.specs.Prelude.{List, [], ℕ, ◌/◌, ◌≤◌, length}
use Rattle.definition.specs.Bytes.{Bytes}
use Rattle.definition.specs.Limits.{max_channels}
use Rattle.definition.specs.Model.{Model}
use Rattle.definition.specs.Channels.{turn, ChannelsCall}
use Rattle.definition.specs.FlatChannels.{Box, one_by_one}
use Rattle.model_file.specs.declared.Counts.{Counts}
use Rattle.channel_turn.specs.Turns.{ModelLent}

-- All channels of a call, before the first of which nothing is answered or left over.
abbrev pub all_in_turn : Model → Bytes → ChannelsCall → Box
all_in_turn m runs b =
    one_by_one (turn m b.moment) b (length runs / b.count) (length b.traces / b.count) b.count 0
    (record { runs = runs; traces = b.traces; left = 0; answers = [] })

pub record CanTurn (file : Bytes) (n : Counts) (tables : List ℕ) (count work : ℕ) : Type 0 where
  pub lent : ModelLent file n tables work
  pub some : 1 ≤ count
  pub few : count ≤ max_channels
