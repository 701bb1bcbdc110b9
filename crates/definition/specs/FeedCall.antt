-- The call that runs a feed to an end moment: request (v) of document 02. For all bytes and numbers put in, the numbers answered and the
-- whole content of each lent buffer afterwards. Assumes nothing.
use Rattle.std.specs.Prelude.{ℕ, suc, ◌+◌, min, List, [], ◌∷◌, ◌++◌, ◌||◌, not, cond, ltb, eqb, length, take, drop}
use Rattle.definition.specs.Bytes.{Bytes, Result, ok, refused, ◌>>=◌, refuse_if}
use Rattle.definition.specs.Limits.{max_moment}
use Rattle.definition.specs.Pinned.Decoder.{accepted}
use Rattle.definition.specs.Model.{Model}
use Rattle.definition.specs.SavedRun.{run_of, run_fits}
use Rattle.definition.specs.Engine.{Advanced, advance}
use Rattle.definition.specs.Feed.{FeedBag, last_moment, first_moment, feed_calls}
use Rattle.definition.specs.Pinned.FeedReader.{feed_of}

-- The number, "the number of bags whose own call succeeded", the "counts added up", and the lent buffers.
pub record Fed : Type 0 where
  pub number : ℕ
  pub bags : ℕ
  pub instants : ℕ
  pub steps : ℕ
  pub used : ℕ
  pub run : Bytes
  pub trace : Bytes

unfoldable pub nothing_fed : ℕ → Bytes → Bytes → Fed
nothing_fed n run trace = record { number = n; bags = 0; instants = 0; steps = 0; used = 0; run = run; trace = trace }

-- "The first refused call stops it": with what that call did.
unfoldable pub stopped_by : Advanced → Fed
stopped_by a = record { number = a.number; bags = 0; instants = a.instants; steps = a.steps; used = a.used; run = a.run; trace = a.trace }

-- "counts added up": a call that succeeded, and what the calls after it gave on what it left of the lent trace.
unfoldable pub followed_by : Advanced → Fed → Fed
followed_by a on = record {
  number = on.number;
  bags = suc on.bags;
  instants = a.instants + on.instants;
  steps = a.steps + on.steps;
  used = a.used + on.used;
  run = on.run;
  trace = take a.used a.trace ++ on.trace;
}

-- "its advance calls in turn": "Each call writes on in what is left of the lent trace." "Calls added later take no table."
unfoldable pub fed_in_turn : Bytes → Bytes → Bytes → List FeedBag → Fed
fed_in_turn file run trace [] = nothing_fed 0 run trace
fed_in_turn file run trace (c ∷ cs) =
    let a = advance file run c.moment c.bag trace [] in
    let on = fed_in_turn file a.run (drop a.used a.trace) cs in
    cond (eqb a.number 0) (followed_by a on) (stopped_by a)

-- The call to the end is no bag's.
unfoldable pub own_bags : ℕ → Fed → Fed
own_bags n f =
    record { number = f.number; bags = min f.bags n; instants = f.instants; steps = f.steps; used = f.used; run = f.run; trace = f.trace }

unfoldable pub fed_or : Bytes → Bytes → Result Fed → Fed
fed_or run trace (ok f) = f
fed_or run trace (refused n) = nothing_fed n run trace

-- The bags of a feed that runs: 10; 19 "checked after the saved run and before the times"; 11.
unfoldable pub feed_checks : Model → Bytes → ℕ → Bytes → Result (List FeedBag)
feed_checks m run end feed = do
  _ ← refuse_if (not (run_fits m run)) 10
  bs ← feed_of feed
  _ ← refuse_if (ltb end (last_moment bs) || ltb max_moment end || ltb (first_moment bs end) (run_of m run).opening) 11
  ok bs

unfoldable pub advance_feed : Bytes → Bytes → ℕ → Bytes → Bytes → Fed
advance_feed file run end feed trace = fed_or run trace (do
  m ← accepted file
  bs ← feed_checks m run end feed
  ok (own_bags (length bs) (fed_in_turn file run trace (feed_calls bs end))))
