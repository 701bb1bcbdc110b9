use mathlib.Core.Path.{◌≡◌}
use Prim.Native.Nat.{◌≤◌, ◌-◌}
use lib.ListN.{length, drop}
use Rattle.definition.specs.Limits.{count_size}
use Rattle.definition.specs.Pinned.FeedReader.{bags_from}
use Rattle.feed_bags.proofs.Laws.{last_after}
use Rattle.feed_bags.proofs.find_bags.Given as goal

abbrev pub invariant-loop : goal.invariant-loop
invariant-loop l = (l.at ≤ length l.feed) × (last_after l.last (bags_from (l.count - l.counter) l.least (drop l.at l.feed)) ≡ last_after 0 (bags_from l.count 0 (drop count_size l.feed)))
