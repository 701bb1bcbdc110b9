-- What is counted in a channel call: whether it is refused by 21, a channel's share and all that it has, and where the parts end. Assumes nothing.
use Rattle.std.specs.Prelude.{◌≡◌, ◌⊎◌, ℕ, suc, ◌-◌, ◌*◌, ◌/◌, ◌≤◌, ◌<◌, List, map, take}
use Rattle.definition.specs.Lists.{sum}
use Rattle.definition.specs.Limits.{max_steps, max_channels}
use Rattle.definition.specs.Engine.{Numbers}
use Rattle.definition.specs.Channels.{ChannelsCall}

-- "the number of runs is not 1 to 8 or the allowance is below 1,024 a run"
abbrev pub Miscounted : ChannelsCall → Type 0
Miscounted b = (b.count ≡ 0) ⊎ ((max_channels < b.count) ⊎ (b.allowance < max_steps * b.count))

pub record WellCounted (b : ChannelsCall) : Type 0 where
  pub some : 1 ≤ b.count
  pub few : b.count ≤ max_channels
  pub enough : max_steps * b.count ≤ b.allowance

-- "the allowance divided by the number, rounded down"
abbrev pub share_of : ChannelsCall → ℕ
share_of b = b.allowance / b.count

-- The steps of all answers.
abbrev pub steps_of : List Numbers → ℕ
steps_of told = sum (map (λ a. a.steps) told)

-- All that channel i has: the shares up to its own, less what the earlier channels spent.
abbrev pub has_at : ChannelsCall → List Numbers → ℕ → ℕ
has_at b told i = suc i * share_of b - steps_of (take i told)

-- Where the last of n parts of a buffer of so many bytes ends.
abbrev pub past_parts : (n size : ℕ) → ℕ
past_parts n size = size / n * n
