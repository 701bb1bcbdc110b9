-- Where the calls of a feed end in the code, as the law of one load has it, and the whole outcome. Nothing here has to be believed.
-- Assumes nothing.
use Rattle.std.specs.Prelude.{◌≡◌, List, [], Bool, ◌&&◌, cond, ℕ, suc, ◌*◌, ◌≤◌, eqb, length}
use Rattle.definition.specs.Bytes.{Bytes, Result, ok, refused, number_at}
use Rattle.definition.specs.Limits.{max_moment, max_steps, max_bags}
use Rattle.definition.specs.SavedRun.{run_length}
use Rattle.definition.specs.Advance.{advancing}
use Rattle.definition.specs.Feed.{FeedBag}
use Rattle.definition.specs.FeedCall.{Fed}
use Rattle.definition.specs.Pinned.FeedReader.{feed_of}
use Rattle.definition.specs.Carrying.{begins}
use Rattle.law_feed.specs.Onward.{bags_onward, feed_onward, fed_from}
use Rattle.law_feed.specs.Onward as Law
use Rattle.run_state.specs.declared.State.{State}
use Rattle.run_state.specs.Held.{held_end}
use Rattle.spec_step.specs.Tables.{atomics_in}
use Rattle.instant_steps.specs.Sim.{sim_of, Lent, Fit, Ready}
use Rattle.instant_attempt.specs.Progress.{progress_of, Beyond}
use Rattle.instant_attempt.specs.declared.Progress.{Progress}
use Rattle.instant_loop.specs.Ends.{ended_of, answer_of}
use Rattle.refusals.specs.Refusals.{number_in}
use Rattle.call_answers.specs.declared.Fed.{Fed as FedAnswer}
use Rattle.feed_bags.specs.declared.Bags.{Bags}
use Rattle.feed_bags.specs.Bags as Told
use Rattle.feed_loop.specs.declared.Onward.{Onward}

-- The bags that the reader finds in a feed; none where it is no feed.
abbrev pub bags_found : Result (List FeedBag) → List FeedBag
bags_found (ok bs) = bs
bags_found (refused n) = []

abbrev pub bags_in : Bytes → List FeedBag
bags_in feed = bags_found (feed_of feed)

-- ---- what is asked

-- The numbers of so many calls: each adds at most one instant for each moment up to the latest, and 1,024 steps an instant.
pub record Few (calls : ℕ) (p : Progress) : Type 0 where
  pub instants : p.instants ≤ calls * suc max_moment
  pub steps : p.steps ≤ max_steps * (calls * suc max_moment)

-- What the bags' calls ask, with nothing done: a feed of so many bags, words for the bags of a step, tables in range, the state's due moments.
pub record CanFeed (phases tables : List ℕ) (feed : Bytes) (count : ℕ) (p : Progress) (w : List ℕ) (work trace : ℕ) : Type 0 where
  pub lent : Lent work
  pub is_feed : feed_of feed ≡ ok (bags_in feed)
  pub counted : count ≡ length (bags_in feed)
  pub few : Few 0 p
  pub used : p.used ≤ trace
  pub fit : Fit tables
  pub ready : Ready phases tables w

-- What the call to the end asks, after up to 1,000 calls.
pub record CanEnd (phases tables : List ℕ) (end : ℕ) (own : Onward) (w : List ℕ) (work trace : ℕ) : Type 0 where
  pub lent : Lent work
  pub moment : end ≤ max_moment
  pub few : Few max_bags own.ended.progress
  pub used : own.ended.progress.used ≤ trace
  pub fit : Fit tables
  pub ready : Ready phases tables w

-- What a feed asks whose calls begin with nothing done, with a run buffer of so many bytes.
pub record Startable (tables : List ℕ) (end : ℕ) (feed : Bytes) (found : Bags) (work run : ℕ) : Type 0 where
  pub lent : Lent work
  pub moment : end ≤ max_moment
  pub is_feed : feed_of feed ≡ ok (bags_in feed)
  pub found_so : found ≡ Told.bags_of (bags_in feed)
  pub fit : Fit tables
  pub run_fits_lem : run_length (atomics_in tables) ≤ run

-- ---- what is answered

abbrev pub onward_of : Bytes → List ℕ → List ℕ → Onward → Law.Onward State
onward_of trace tables w r = record { bags = r.bags; end = ended_of trace tables w r.ended }

-- The bags' own calls, from a progress.
abbrev pub bags_of : List ℕ → List ℕ → List ℕ → ℕ → Bytes → Bytes → List ℕ → Progress → Law.Onward State
bags_of phases rules tables words feed trace w p = bags_onward (sim_of phases rules tables words) (length trace) (bags_in feed) 0 (progress_of trace tables w p)

-- The call to the end, if it lies past the bags.
abbrev pub end_of : List ℕ → List ℕ → List ℕ → ℕ → ℕ → Bool → Bytes → List ℕ → Onward → Law.Onward State
end_of phases rules tables words end past trace w own =
    cond (eqb (number_in own.ended.refusal) 0 && past)
    (record { bags = own.bags; end = advancing (sim_of phases rules tables words) (length trace) end [] (suc end) (progress_of trace tables w own.ended.progress) })
    (onward_of trace tables w own)

-- The calls end so, and the trace beyond the records is as lent.
pub record WentOn (tables : List ℕ) (trace₀ trace : Bytes) (w : List ℕ) (r : Onward) (o : Law.Onward State) : Type 0 where
  pub same : onward_of trace tables w r ≡ o
  pub beyond : Beyond trace₀ trace r.ended.progress.used

-- .. behind those of the bags' own calls.
pub record EndedOn (tables : List ℕ) (trace₀ trace : Bytes) (w : List ℕ) (own r : Onward) (o : Law.Onward State) : Type 0 where
  pub went : WentOn tables trace₀ trace w r o
  pub more : own.ended.progress.used ≤ r.ended.progress.used

-- After at most so many calls another may go on from there.
pub record MayGoOn (phases tables : List ℕ) (calls : ℕ) (trace₀ trace : Bytes) (w : List ℕ) (r : Onward) (o : Law.Onward State) : Type 0 where
  pub went : WentOn tables trace₀ trace w r o
  pub ready : Ready phases tables w
  pub few : Few calls r.ended.progress

-- What a feed answers whose calls went so far.
abbrev pub feed_answer_of : Onward → FedAnswer
feed_answer_of o =
    let a = answer_of o.ended in
    record { number = a.number; bags = o.bags; instants = a.instants; steps = a.steps; trace_bytes = a.trace_bytes }

-- The whole feed on a run buffer whose state is st.
abbrev pub fed_by : List ℕ → List ℕ → List ℕ → ℕ → ℕ → Bytes → Bytes → State → Bytes → Fed
fed_by phases rules tables words end feed run st trace =
    let o = feed_onward (sim_of phases rules tables words) (length trace) (bags_in feed) end (begins (number_at 8 0 run) st) in
    fed_from run trace (record { bags = o.bags; end = held_end (atomics_in tables) o.end })
