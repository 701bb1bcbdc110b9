-- What the functions of a feed's call have of its file and its feed, once the checks have passed. Nothing here has to be believed. Assumes nothing.
use Rattle.std.specs.Prelude.{◌≡◌, List, Result, ℕ, length}
use Rattle.definition.specs.Bytes.{Bytes, ok}
use Rattle.definition.specs.Bytes as Definition
use Rattle.definition.specs.Pinned.Decoder.{accepted}
use Rattle.definition.specs.Pinned.FeedReader.{feed_of}
use Rattle.definition.specs.FeedCall.{feed_checks}
use Rattle.model_file.specs.Checked.{model_of}
use Rattle.model_file.specs.declared.Counts.{Counts}
use Rattle.spec_step.specs.TablesOf.{TablesOf}
use Rattle.feed_bags.specs.declared.Bags.{Bags}
use Rattle.feed_bags.specs.Bags.{bags_of}
use Rattle.feed_loop.specs.Onwards.{bags_in}
use Rattle.refusals.specs.Refusals.{result_as}
use Rattle.refusals.specs.declared.Refusal.{Refusal}

-- The bytes are a feed of so many bags.
pub record Counted (feed : Bytes) (count : ℕ) : Type 0 where
  pub is_feed : feed_of feed ≡ ok (bags_in feed)
  pub counted : count ≡ length (bags_in feed)

-- What the checks' answer says.
abbrev pub checked_by : Result Bags Refusal → Definition.Result Bags
checked_by read = result_as (λ b. b) read

-- The checks of run, feed and times let the feed in, with the bags that were found.
pub record FeedLetIn (file : Bytes) (n : Counts) (tables : List ℕ) (run : Bytes) (end : ℕ) (feed : Bytes) (found : Bags) : Type 0 where
  pub model : ok (model_of file n) ≡ accepted file
  pub tabled : TablesOf (model_of file n) tables
  pub checks : feed_checks (model_of file n) run end feed ≡ ok (bags_in feed)
  pub is_feed : feed_of feed ≡ ok (bags_in feed)
  pub found_so : found ≡ bags_of (bags_in feed)
