-- The longest model file, the longest saved run, the longest table of deciding rules and the longest feed: each section's count is within its
-- limit and its records have one size, a fifth section has one length, the root is no atomic, and a feed has few bags, none of them long.
-- Assumes nothing.
use mathlib.Core.Path.{ap}
use mathlib.Core.Bool.{◌&&◌}
use Prim.Native.Nat.{◌+◌, ◌*◌, ◌/◌, ◌%◌, ◌≤◌}
use mathlib.Core.List.{List, [], ◌∷◌, ◌++◌, map}
use native.Mathlib.Omega.{arith}
use lib.Dec.{leb, eqb}
use lib.ListN.{length, length-append}
use borrow.Author.Tests.{leb-true}
use Rattle.definition.specs.Limits.{component_size, phase_size, rule_size, coupling_size, fifth_size, position_size, count_size, message_size, max_given, bag_head, longest_model, longest_run, longest_table, longest_feed}
use Rattle.definition.specs.Lists.{concat}
use Rattle.definition.specs.Bytes.{Bytes, bytes_of}
use Rattle.definition.specs.Sound.{Every}
use Rattle.definition.specs.Engine.{bag_fits}
use Rattle.definition.specs.Feed.{FeedBag, feed_bag_bytes, feed_bytes, IsFeed}
use Rattle.definition.specs.Model.{RangeReading, inclusive, half_open, Model}
use Rattle.definition.specs.Records.{component_bytes, phase_bytes, rule_bytes, coupling_bytes}
use Rattle.definition.specs.File.{section_bytes, ranges_bytes, model_bytes}
use Rattle.definition.specs.SavedRun.{run_length, atomic_count}
use Rattle.law_model.proofs.Writing.{component-size, phase-size, rule-size, coupling-size, section-length}
use Rattle.law_model.proofs.WellFormed.{WellFormed}
use Rattle.law_flat.proofs.FlatComponents.{few-atomics}
use Rattle.law_base.proofs.Tests.{and_left, and_right}
use Rattle.law_model.proofs.Codec.{length-bytes}
use Rattle.law_feed.proofs.Timed.{Proper}

ranges-long : (r : RangeReading) → length (ranges_bytes r) ≤ fifth_size
unfolding ranges_bytes section_bytes bytes_of concat
ranges-long inclusive = omega arith
ranges-long half_open = omega arith

module _ (m : Model) (w : WellFormed m) where
  pub model-long : length (model_bytes m) ≤ longest_model
  unfolding model_bytes
  model-long =
      let a = section_bytes component_bytes m.components in
      let b = section_bytes phase_bytes m.phases in
      let c = section_bytes rule_bytes m.rules in
      let d = section_bytes coupling_bytes m.couplings in
      omega (
        arith,
        length-append (a ++ b ++ c ++ d) (ranges_bytes m.ranges),
        length-append (a ++ b ++ c) d,
        length-append (a ++ b) c,
        length-append a b,
        section-length component_size component_bytes component-size m.components,
        section-length phase_size phase_bytes phase-size m.phases,
        section-length rule_size rule_bytes rule-size m.rules,
        section-length coupling_size coupling_bytes coupling-size m.couplings,
        w.components.few,
        w.phases.few,
        w.rules.few,
        w.couplings.few,
        ranges-long m.ranges,
      )

  pub run_long : run_length (atomic_count m) ≤ longest_run
  unfolding run_length atomic_count
  run_long = omega (arith, few-atomics m w, w.components.few)

  pub table-long : position_size * atomic_count m ≤ longest_table
  unfolding atomic_count
  table-long = omega (arith, few-atomics m w, w.components.few)

-- ---- feeds

-- a bag of a feed has at most 16 messages
bag-long : (b : FeedBag) → Proper b → length (feed_bag_bytes b) ≤ bag_head + message_size * max_given
unfolding feed_bag_bytes bag_fits
bag-long b h =
    let rows = eqb (length b.bag % message_size) 0 in
    let few = leb (length b.bag) (message_size * max_given) in
    let n = length b.bag / message_size in
    omega (
      arith,
      leb-true (length b.bag) (message_size * max_given) (and_right rows few (and_left (rows && few) _ h.1)),
      length-append (bytes_of 8 b.moment ++ bytes_of 1 n) b.bag,
      length-append (bytes_of 8 b.moment) (bytes_of 1 n),
      length-bytes 8 b.moment,
      length-bytes 1 n,
    )

bags-long : (bs : List FeedBag) → Every Proper bs → length (concat (map feed_bag_bytes bs)) ≤ (bag_head + message_size * max_given) * length bs
unfolding concat
bags-long [] h = omega arith
bags-long (b ∷ bs) h = omega (arith, bag-long b h.0, bags-long bs h.1, length-append (feed_bag_bytes b) (concat (map feed_bag_bytes bs)))

pub feed-long : (feed : Bytes) (bs : List FeedBag) → IsFeed feed bs → length feed ≤ longest_feed
unfolding feed_bytes
feed-long feed bs f =
    omega (
      arith,
      ap length f.whole,
      length-append (bytes_of count_size (length bs)) (concat (map feed_bag_bytes bs)),
      length-bytes count_size (length bs),
      bags-long bs f.bags,
      f.few,
    )
