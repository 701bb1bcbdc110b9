-- What the functions of a channel call have of its file and its counts. Nothing here has to be believed. Assumes nothing.
use Rattle.std.specs.Prelude.{◌≡◌, List, false, ℕ, ◌≤◌}
use Rattle.definition.specs.Bytes.{Bytes, ok}
use Rattle.definition.specs.Limits.{max_channels}
use Rattle.definition.specs.Pinned.Decoder.{accepted}
use Rattle.definition.specs.Channels.{miscounted}
use Rattle.model_file.specs.Checked.{model_of}
use Rattle.model_file.specs.declared.Counts.{Counts}
use Rattle.spec_step.specs.TablesOf.{TablesOf}
use Rattle.call_advance.specs.LetIn.{ModelOpened}

-- The file's model is accepted, with its tables, and there are one to eight channels.
pub record ChannelsLetIn (file : Bytes) (n : Counts) (tables : List ℕ) (count : ℕ) : Type 0 where
  pub model : ok (model_of file n) ≡ accepted file
  pub tabled : TablesOf (model_of file n) tables
  pub some : 1 ≤ count
  pub few : count ≤ max_channels

-- .. with so many routes, and the counts are not refused.
pub record ChannelsOpened (file : Bytes) (n : Counts) (tables : List ℕ) (route_count count allowance : ℕ) : Type 0 where
  pub opened : ModelOpened file n tables route_count
  pub counted : miscounted count allowance ≡ false
