-- The calls of a feed as one progress that goes on from call to call, with one load of the run and one trace: the shape of the code. That the
-- feed of the definitions is this is a law (OneLoad); nothing here has to be believed. Assumes nothing.
use Rattle.std.specs.Prelude.{ℕ, suc, List, [], ◌∷◌, ◌&&◌, ◌||◌, cond, ltb, eqb, length}
use Rattle.definition.specs.Lists.{is_empty}
use Rattle.definition.specs.Bytes.{Bytes, stored}
use Rattle.definition.specs.SavedRun.{Entry, run_bytes}
use Rattle.definition.specs.Step.{Simulator}
use Rattle.definition.specs.Advance.{Progress, Ended, ended, advancing}
use Rattle.definition.specs.Engine.{to_bag}
use Rattle.definition.specs.Feed.{FeedBag, last_moment}
use Rattle.definition.specs.FeedCall.{Fed}

-- Where the calls end, and how many of them succeeded.
pub record Onward (S : Type 0) : Type 0 where
  pub bags : ℕ
  pub end : Ended S

module _ {S : Type 0} (k : Simulator S) (room : ℕ) where
  -- The calls from a progress on, n having succeeded before; the lent trace has `room` bytes in all.
  unfoldable pub bags_onward : List FeedBag → ℕ → Progress S → Onward S
  bags_onward [] n p = record { bags = n; end = ended 0 p }
  bags_onward (c ∷ cs) n p =
      let e = advancing k room c.moment (to_bag c.bag) (suc c.moment) p in
      let on = bags_onward cs (suc n) e.progress in
      cond (eqb e.number 0) on (record { bags = n; end = e })

  -- The call to the end, where there is one.
  unfoldable pub end_onward : List FeedBag → ℕ → Onward S → Onward S
  end_onward bs end o =
      let e = advancing k room end [] (suc end) o.end.progress in
      cond (eqb o.end.number 0 && (is_empty bs || ltb (last_moment bs) end)) (record { bags = o.bags; end = e }) o

  -- The bags' own calls, and the one to the end.
  unfoldable pub feed_onward : List FeedBag → ℕ → Progress S → Onward S
  feed_onward bs end p = end_onward bs end (bags_onward bs 0 p)

-- The buffers with what was written at their fronts.
unfoldable pub fed_from : Bytes → Bytes → Onward (List Entry) → Fed
fed_from run trace o =
    let p = o.end.progress in
    record {
      number = o.end.number;
      bags = o.bags;
      instants = p.instants;
      steps = p.steps;
      used = length p.trace;
      run = stored (run_bytes (record { opening = p.opening; entries = p.state })) run;
      trace = stored p.trace trace;
    }
