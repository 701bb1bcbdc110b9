-- Going over a feed, as its checks take it: some bags are those that the reader tells, and none is refused as a broken feed. Assumes nothing.
use Rattle.std.specs.Prelude.{◌≡◌, Option, Some, None, Result, Ok, Err}
use Rattle.std.specs.Option.{ok_or}
use mathlib.Core.Path.{refl, ap}
use Rattle.definition.specs.Bytes.{ok, refused}
use Rattle.refusals.specs.declared.Refusal.{Refusal}
use Rattle.refusals.specs.declared.Refusal.TheVariants as R
use Rattle.feed_bags.specs.declared.Bags.{Bags}
use Rattle.feed_bags.specs.Bags.{bags_found}

pub found-some : (o : Option Bags) (b : Bags) → ◌≡◌ {A = Result Bags Refusal} (Ok b) (ok_or o R.BadFeed) → ok b ≡ bags_found o
found-some None b e = absurd cc
found-some (Some a) b e = let same : b ≡ a = cc in ap ok same

pub found-none : (o : Option Bags) (r : Refusal) → ◌≡◌ {A = Result Bags Refusal} (Err r) (ok_or o R.BadFeed) → (refused 19 ≡ bags_found o) × (r ≡ R.BadFeed)
found-none None r e = (refl, cc)
found-none (Some a) r e = absurd cc
