-- The bags that are left, with the last moment so far, tell the whole (`rest_more`); one that does not stand, and bytes left over, tell 19.
use native.Mathlib.Omega.{arith}
use mathlib.Core.Path.{◌≡◌, sym, ap, ◌∙◌}
use mathlib.Core.Bool.{true}
use Prim.Native.Nat.{ℕ, suc, ◌≤◌, ◌<◌, ◌-◌, ◌+◌}
use lib.ListN.{length, drop, length-drop}
use lib.Seq.{drop-drop}
use Rattle.definition.specs.Bytes.{Bytes, Result, ok, refused, ◌>>=◌}
use Rattle.definition.specs.Pinned.FeedReader.{bag_length, to_feed_bag, bags_from, feed_of}
use Rattle.feed_bags.specs.Bags.{bags_told}
use Rattle.feed_bags.proofs.Laws.{Standing, last_after, after-no, standing-long, standing-low, rest_more, rest-no, rest_over, rest_end, feed-short, feed-told}
use Rattle.feed_bags.proofs.find_bags.Goals as goal
use Rattle.feed_bags.proofs.find_bags.Goals.{At-loop, In-loop, After-loop, Else-not-stands, After-moment_of-last, After-length_of-at}

pub returns-then-feed-count : goal.returns-then-feed-count
returns-then-feed-count c = sym (feed-short c.args.feed.now c.u16_at-count.result c.u16_at-count.ensures c.if-feed-count.true)

-- ---- a bag

-- The feed from it on.
abbrev from_here : At-loop → Bytes
from_here c = drop c.loop.at c.args.feed.now

-- How many are left to read.
abbrev left : At-loop → ℕ
left c = c.u16_at-count.result - c.loop.counter

-- There is one more.
one_more : (c : In-loop) → c.u16_at-count.result - c.loop.counter ≡ suc (c.u16_at-count.result - (c.loop.counter + 1))
one_more c = omega (arith, c.loop-test.true)

-- What the reader tells of all bags, where it tells r of those that are left.
whole : (c : At-loop) → (r : Result ℕ) → last_after c.loop.last (bags_from (left c) c.loop.least (from_here c)) ≡ r
    → bags_told (feed_of c.args.feed.now) ≡ (r >>= λ l. ok (record { count = c.u16_at-count.result; last = l }))
whole c r e = feed-told c.args.feed.now c.u16_at-count.result c.u16_at-count.ensures c.if-feed-count.false r (sym c.loop.invariant.1 ∙ e)

pub returns-then-not-stands : goal.returns-then-not-stands
returns-then-not-stands c =
    let at = goal.at.returns-then-not-stands c in
    let l = c.loop in
    let here : Bytes = drop l.at c.args.feed.now in
    let no = sym (c.stands.ensures ∙ ap (λ (s : Bytes). Standing s l.least) c.rest-here.ensures) ∙ c.if-not-stands.true in
    sym (whole at.At-loop (refused 19) (ap (λ n. last_after l.last (bags_from n l.least here)) (one_more at.In-loop)
    ∙ after-no l.last (rest-no (c.u16_at-count.result - (l.counter + 1)) l.least l.last here no)))

-- It stands.
stood : (c : Else-not-stands) → Standing (drop c.loop.at c.args.feed.now) c.loop.least ≡ true
stood c = sym (c.stands.ensures ∙ ap (λ (s : Bytes). Standing s c.loop.least) c.rest-here.ensures) ∙ c.if-not-stands.false

-- Its moment, and its length.
moment-is : (c : After-moment_of-last) → c.moment_of-last.result ≡ (to_feed_bag (drop c.loop.at c.args.feed.now)).moment
moment-is c = c.moment_of-last.ensures ∙ ap (λ (s : Bytes). (to_feed_bag s).moment) c.rest-here.ensures

length_is : (c : After-length_of-at) → c.length_of-at.result ≡ bag_length (drop c.loop.at c.args.feed.now)
length_is c = c.length_of-at.ensures ∙ ap bag_length c.rest-here.ensures

pub overflow_add-least : goal.overflow_add-least
overflow_add-least c =
    let at = goal.at.overflow_add-least c in
    omega (arith, moment-is at.After-moment_of-last, standing-low (drop c.loop.at c.args.feed.now) _ (stood at.Else-not-stands))

reaches : (c : After-length_of-at) → Standing (drop c.loop.at c.args.feed.now) c.loop.least ≡ true
    → c.loop.at + c.length_of-at.result ≤ length c.args.feed.now
reaches c stands =
    let l = c.loop in
    let s = c.args.feed.now in
    omega (arith, length_is c, standing-long (drop l.at s) _ stands, length-drop l.at s, l.invariant.0)

pub loop-preserved : goal.loop-preserved
loop-preserved c =
    let at = goal.at.loop-preserved c in
    let l = c.loop in
    let s : Bytes = c.args.feed.now in
    let here : Bytes = drop l.at s in
    let moment = moment-is at.After-moment_of-last in
    let long = length_is at.After-length_of-at in
    let next : c.moment_of-last.result + 1 ≡ suc (to_feed_bag here).moment = omega (arith, moment) in
    let behind : drop (l.at + c.length_of-at.result) s ≡ drop (bag_length here) here = ap (λ n. drop (l.at + n) s) long ∙ sym (drop-drop (bag_length here) l.at s) in (
      reaches at.After-length_of-at (stood at.Else-not-stands),
      rw (next, behind, moment) (sym (rest_more (c.u16_at-count.result - (l.counter + 1)) l.least l.last here (stood at.Else-not-stands))
          ∙ ap (λ n. last_after l.last (bags_from n l.least here)) (sym (one_more at.In-loop)) ∙ l.invariant.1),
    )

-- ---- none is left

told-left : (c : After-loop) → let l = c.loop in let here = drop l.at c.args.feed.now in
    last_after l.last (bags_from (c.u16_at-count.result - l.counter) l.least here) ≡ last_after l.last (bags_from 0 l.least here)
told-left c =
    let l = c.loop in
    let none : c.u16_at-count.result - l.counter ≡ 0 = omega (arith, c.loop-test.false) in
    ap (λ n. last_after l.last (bags_from n l.least (drop l.at c.args.feed.now))) none

pub returns-then-at-feed : goal.returns-then-at-feed
returns-then-at-feed c =
    let at = goal.at.returns-then-at-feed c in
    let l = c.loop in
    let here : Bytes = drop l.at c.args.feed.now in
    let over : 0 < length here = omega (arith, length-drop l.at c.args.feed.now, l.invariant.0, c.if-at-feed.true) in
    sym (whole at.At-loop (refused 19) (told-left at.After-loop ∙ after-no l.last (rest_over l.least here over)))

pub returns : goal.returns
returns c =
    let at = goal.at.returns c in
    let l = c.loop in
    let here : Bytes = drop l.at c.args.feed.now in
    let none : length here ≡ 0 = omega (arith, length-drop l.at c.args.feed.now, c.if-at-feed.false) in
    sym (whole at.At-loop (ok l.last) (told-left at.After-loop ∙ rest_end l.least l.last here none))
