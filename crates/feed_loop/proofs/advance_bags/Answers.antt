-- The calls of the bags that are left give from here what all of them give from the start (`Going`): a call keeps that (`onward-goes`), or it
-- stops the feed (`onward_stops`).
use native.Mathlib.Omega.{arith}
use mathlib.Core.Path.{◌≡◌, ◌∙◌, refl, sym, ap, subst}
use mathlib.Core.List.{List, ◌∷◌}
use Prim.Native.Nat.{ℕ, suc, ◌≤◌, ◌<◌, ◌+◌, ◌-◌, ◌*◌}
use lib.ListN.{length, drop, length-drop}
use lib.Seq.{drop-drop}
use Rattle.definition.specs.Bytes.{Bytes, ok}
use Rattle.definition.specs.Limits.{max_moment, count_size, message_size, max_given, max_bags, bag_head}
use Rattle.definition.specs.Step.{Simulator}
use Rattle.definition.specs.Engine.{to_bag}
use Rattle.definition.specs.Feed.{FeedBag}
use Rattle.definition.specs.Advance.{advancing}
use Rattle.definition.specs.Advance as Definition
use Rattle.definition.specs.Pinned.FeedReader.{bag_length, to_feed_bag, bags_from, feed_of}
use Rattle.law_feed.specs.Onward.{bags_onward}
use Rattle.law_feed.proofs.Reading.{OneRead, read_one, read_none, short, read-feed}
use Rattle.law_feed.proofs.FeedBytes.{fits-proper}
use Rattle.run_state.specs.declared.State.{State}
use Rattle.instant_steps.specs.Sim.{sim_of}
use Rattle.instant_attempt.specs.Progress.{progress_of}
use Rattle.instant_loop.specs.Ends.{AdvancedTo}
use Rattle.feed_loop.specs.Onwards.{bags_in, Few}
use Rattle.feed_loop.proofs.Laws.{refused-some, refused-none, few-more, CalledOn, called_on, onward-none, call-stops, call-goes}
use Rattle.feed_loop.proofs.advance_bags.Goals as goal
use Rattle.feed_loop.proofs.advance_bags.Goals.{After-advance_on-ended, After-length_of-at}

pub loop-init : goal.loop-init
loop-init c =
    let a = c.args in
    let q = c.requires in
    let all : a.count - 0 ≡ a.count = omega arith in
    let r = read-feed a.feed.now (bags_in a.feed.now) q.is_feed in record {
      done = refl;
      within = r.long;
      near = omega arith;
      least = 0;
      others = bags_in a.feed.now;
      read = ap (λ n. bags_from n 0 (drop count_size a.feed.now)) (all ∙ q.counted) ∙ r.behind;
      few = q.few;
      beyond = record { within = q.used; size = refl; same = refl };
      ready = q.ready;
      from_here = refl;
    }

-- ---- a bag

-- One more is left to read: it stands at the front.
one-read : (count turns least : ℕ) (s : Bytes) (others : List FeedBag) → turns < count → bags_from (count - turns) least s ≡ ok others
    → OneRead (count - (turns + 1)) least s others
one-read count turns least s others some read =
    let more : suc (count - (turns + 1)) ≡ count - turns = omega (arith, some) in
    read_one (count - (turns + 1)) least s others (ap (λ n. bags_from n least s) more ∙ read)

in_time : (n least : ℕ) (s : Bytes) (others : List FeedBag) → OneRead n least s others → (to_feed_bag s).moment ≤ max_moment
in_time n least s others r = (fits-proper least (to_feed_bag s) r.fits).1.0

pub advance_on-ended-requires : goal.advance_on-ended-requires
advance_on-ended-requires c =
    let q = c.requires in
    let l = c.loop in
    let v = l.invariant in
    let here : Bytes = drop l.at c.args.feed.now in
    let few = (read-feed c.args.feed.now (bags_in c.args.feed.now) q.is_feed).few in
    let late = in_time _ _ _ _ (one-read c.args.count l.counter v.least here v.others c.loop-test.true v.read) in
    let moment-is : c.moment_of.result ≡ (to_feed_bag here).moment = c.moment_of.ensures ∙ ap (λ (s : Bytes). (to_feed_bag s).moment) c.rest-here.ensures in
    record {
      lent = rw l.auto.work q.lent;
      moment = omega (arith, moment-is, late);
      used = omega (arith, v.beyond.within, v.beyond.size);
      instants = omega (arith, moment-is, late, v.few.instants, v.done, q.counted, few, c.loop-test.true);
      steps = omega (arith, moment-is, late, v.few.steps, v.done, q.counted, few, c.loop-test.true);
      fit = q.fit;
      ready = v.ready;
    }

-- ---- the call

abbrev bag-here : After-advance_on-ended → FeedBag
bag-here c = to_feed_bag (drop c.loop.at c.args.feed.now)

read-here : (c : After-advance_on-ended) → let l = c.loop in OneRead (c.args.count - (l.counter + 1)) l.invariant.least (drop l.at c.args.feed.now) l.invariant.others
read-here c = let l = c.loop in one-read c.args.count l.counter l.invariant.least (drop l.at c.args.feed.now) l.invariant.others c.loop-test.true l.invariant.read

abbrev sim : After-advance_on-ended → Simulator State
sim c = let a = c.args in sim_of a.phases.now a.rules.now a.tables.now (length a.work.now)

-- The progress before it.
abbrev before : After-advance_on-ended → Definition.Progress State
before c = let l = c.loop in progress_of l.trace c.args.tables.now l.state l.p

-- It was made with the bag that stands here.
abbrev DidHere : After-advance_on-ended → ℕ → ℕ → Bytes → Type 0
DidHere c words t bag =
    let a = c.args in
    AdvancedTo a.phases.now a.tables.now c.loop.trace c.advance_on-ended.new.trace c.advance_on-ended.new.state c.advance_on-ended.result
    (advancing (sim_of a.phases.now a.rules.now a.tables.now words) (length c.loop.trace) t (to_bag bag) (suc t) (before c))

did : (c : After-advance_on-ended) → DidHere c (length c.args.work.now) (bag-here c).moment (bag-here c).bag
did c =
    let l = c.loop in
    let moment-is : c.moment_of.result ≡ (bag-here c).moment = c.moment_of.ensures ∙ ap (λ (s : Bytes). (to_feed_bag s).moment) c.rest-here.ensures in
    let bag-is : c.bag_of.result.now ≡ (bag-here c).bag = c.bag_of.ensures ∙ ap (λ (s : Bytes). (to_feed_bag s).bag) c.rest-here.ensures in
    subst (λ (words : ℕ). DidHere c words (bag-here c).moment (bag-here c).bag) l.auto.work
    (subst (λ (t : ℕ). DidHere c (length l.work) t (bag-here c).bag) moment-is
    (subst (λ (b : Bytes). DidHere c (length l.work) c.moment_of.result b) bag-is c.advance_on-ended.ensures))

-- The call in the trace of the whole feed.
this-call : (c : After-advance_on-ended) → let a = c.args in let l = c.loop in
    CalledOn a.tables.now (sim c) a.trace.now c.advance_on-ended.new.trace c.advance_on-ended.new.state (before c) l.p.used l.bags (bag-here c).moment
    (to_bag (bag-here c).bag) c.advance_on-ended.result
this-call c =
    let a = c.args in
    let l = c.loop in
    called_on a.phases.now a.tables.now (sim c) a.trace.now l.trace c.advance_on-ended.new.trace l.state c.advance_on-ended.new.state l.p c.advance_on-ended.result
    (bag-here c).moment (to_bag (bag-here c).bag) (in_time _ _ _ _ (read-here c)) l.bags l.invariant.few l.invariant.beyond (did c)

-- It and the calls behind it give what all of them give.
all-here : (c : After-advance_on-ended) → let a = c.args in let l = c.loop in
    bags_onward (sim c) (length a.trace.now) (bag-here c ∷ (read-here c).others) l.bags (before c)
    ≡ bags_onward (sim c) (length a.trace.now) (bags_in a.feed.now) 0 (progress_of a.trace.now a.tables.now a.state.now a.from)
all-here c =
    let l = c.loop in
    ap (λ bs. bags_onward (sim c) (length c.args.trace.now) bs l.bags (before c)) (read-here c).same ∙ l.invariant.from_here

pub returns-then-is_some : goal.returns-then-is_some
returns-then-is_some c =
    let at = (goal.at.returns-then-is_some c).After-advance_on-ended in
    let a = c.args in
    let l = c.loop in
    let e = c.advance_on-ended in
    let call = this-call at in
    record {
      went = record {
        same = call-stops (sim at) (length a.trace.now) e.new.trace a.tables.now e.new.state e.result (bag-here at) (read-here at).others l.bags
            (before at) _ call.same (all-here at) (refused-some e.result.refusal (sym c.is_some.ensures ∙ c.if-is_some.true));
        beyond = call.beyond;
      };
      ready = (did at).ready;
      few = few-more (suc l.bags) a.count e.result.progress (omega (arith, l.invariant.done, c.loop-test.true)) call.few;
    }

-- The next bag.
length_is : (c : After-length_of-at) → c.length_of-at.result ≡ bag_length (drop c.loop.at c.args.feed.now)
length_is c = c.length_of-at.ensures ∙ ap bag_length c.rest-here.ensures

-- It is near: a bag is short.
near : (c : After-length_of-at) → let l = c.loop in OneRead (c.args.count - (l.counter + 1)) l.invariant.least (drop l.at c.args.feed.now) l.invariant.others
    → l.at + c.length_of-at.result ≤ count_size + (bag_head + message_size * max_given) * suc l.bags
near c r =
    let l = c.loop in
    omega (arith, length_is c, short l.invariant.least (drop l.at c.args.feed.now) r.whole r.fits, l.invariant.near)

-- There are few bags.
few-bags : (feed : Bytes) (count bags turns : ℕ) → feed_of feed ≡ ok (bags_in feed) → count ≡ length (bags_in feed) → bags ≡ turns → turns < count → bags < max_bags
few-bags feed count bags turns is_feed counted done more = omega (arith, done, counted, more, (read-feed feed (bags_in feed) is_feed).few)

pub overflow_add-at : goal.overflow_add-at
overflow_add-at c =
    let at = goal.at.overflow_add-at c in
    let l = c.loop in
    omega (
      arith,
      near at.After-length_of-at (read-here at.After-advance_on-ended),
      few-bags c.args.feed.now c.args.count l.bags l.counter c.requires.is_feed c.requires.counted l.invariant.done c.loop-test.true,
    )

pub loop-preserved : goal.loop-preserved
loop-preserved c =
    let at = (goal.at.loop-preserved c).After-advance_on-ended in
    let after = (goal.at.loop-preserved c).After-length_of-at in
    let a = c.args in
    let l = c.loop in
    let e = c.advance_on-ended in
    let r = read-here at in
    let call = this-call at in
    let here : Bytes = drop l.at a.feed.now in
    let long = length_is after in
    let next : suc l.bags ≡ l.bags + 1 = omega arith in
    let behind : drop (bag_length here) here ≡ drop (l.at + c.length_of-at.result) a.feed.now
    = drop-drop (bag_length here) l.at a.feed.now ∙ ap (λ n. drop (l.at + n) a.feed.now) (sym long) in
    record {
      done = omega (arith, l.invariant.done);
      within = omega (arith, long, r.whole, length-drop l.at a.feed.now, l.invariant.within);
      near = omega (arith, near after r);
      least = suc (bag-here at).moment;
      others = r.others;
      read = ap (bags_from (a.count - (l.counter + 1)) (suc (bag-here at).moment)) (sym behind) ∙ r.behind;
      few = subst (λ n. Few n e.result.progress) next call.few;
      beyond = call.beyond;
      ready = (did at).ready;
      from_here = rw (← next) (call-goes (sim at) (length a.trace.now) e.new.trace a.tables.now e.new.state e.result (bag-here at) r.others l.bags (before at) _
          call.same (all-here at) (refused-none e.result.refusal (sym c.is_some.ensures ∙ c.if-is_some.false)));
    }

-- ---- none is left

pub returns : goal.returns
returns c =
    let a = c.args in
    let l = c.loop in
    let v = l.invariant in
    let here : Bytes = drop l.at a.feed.now in
    let k : Simulator State = sim_of a.phases.now a.rules.now a.tables.now (length a.work.now) in
    let from = progress_of l.trace a.tables.now l.state l.p in
    let none : a.count - l.counter ≡ 0 = omega (arith, c.loop-test.false) in
    let last = (read_none v.least here v.others (ap (λ n. bags_from n v.least here) (sym none) ∙ v.read)).0 in
    record {
      went = record {
        same = sym (onward-none k (length a.trace.now) l.bags from) ∙ ap (λ bs. bags_onward k (length a.trace.now) bs l.bags from) last ∙ v.from_here;
        beyond = v.beyond;
      };
      ready = v.ready;
      few = few-more l.bags a.count l.p (omega (arith, v.done, l.auto.counter-end)) v.few;
    }
