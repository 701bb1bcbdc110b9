-- The whole outcome of a feed from where its calls end: the numbers, the run stored, and the records at the front of the trace. Assumes nothing.
use mathlib.Core.Path.{◌≡◌, ◌∙◌, refl, sym, ap}
use mathlib.Core.List.{List, [], ◌∷◌}
use mathlib.Core.Bool.{Bool, ◌||◌}
use Prim.Native.Nat.{ℕ, suc}
use native.Mathlib.Omega.{arith}
use lib.Dec.{ltb, eqb}
use lib.ListN.{length, take}
use borrow.Author.Tests.{ne_eqb}
use lib.Seq.{length-take-le}
use Rattle.definition.specs.Lists.{is_empty}
use Rattle.definition.specs.Bytes.{Bytes, stored}
use Rattle.definition.specs.SavedRun.{run_bytes}
use Rattle.definition.specs.Advance.{ended}
use Rattle.definition.specs.Advance as Definition
use Rattle.definition.specs.Feed.{FeedBag, last_moment}
use Rattle.definition.specs.Carrying.{begins}
use Rattle.law_feed.specs.Onward.{bags_onward, end_onward, feed_onward, fed_from}
use Rattle.law_feed.specs.Onward as Law
use Rattle.run_state.specs.declared.State.{State}
use Rattle.run_state.specs.Held.{held_in, entries_of, held_end}
use Rattle.run_saved.specs.Runs.{run_in}
use Rattle.spec_step.specs.Tables.{atomics_in}
use Rattle.instant_steps.specs.Sim.{sim_of}
use Rattle.instant_attempt.specs.Progress.{rules_by, progress_of, Beyond}
use Rattle.instant_attempt.specs.declared.Progress.{Progress}
use Rattle.instant_loop.proofs.Outcome.{trace-stored}
use Rattle.refusals.specs.Refusals.{number_in}
use Rattle.call_answers.specs.declared.Fed.{Fed}
use Rattle.call_answers.specs.Answers.{fed_of}
use Rattle.feed_loop.specs.declared.Onward.{Onward}
use Rattle.feed_loop.specs.Onwards.{onward_of, end_of, feed_answer_of}

-- ---- the two parts

-- There is none, by the count and by the list.
pub none-counted : (bs : List FeedBag) → eqb (length bs) 0 ≡ is_empty bs
unfolding is_empty
none-counted [] = refl
none-counted (b ∷ bs) = ne_eqb (suc (length bs)) 0 (λ z. omega arith)

module _ (phases rules tables : List ℕ) (words end : ℕ) (bs : List FeedBag) where
  -- The call to the end goes on from the bags' own, with what the last bag says.
  end-onward : (past : Bool) → past ≡ (is_empty bs || ltb (last_moment bs) end) → (trace : Bytes) (w : List ℕ) (own : Onward)
      → end_of phases rules tables words end past trace w own ≡ end_onward (sim_of phases rules tables words) (length trace) bs end (onward_of trace tables w own)
  unfolding end_onward ended
  end-onward past e trace w own = rw e

  -- A feed begins with nothing done.
  pub feed-begins : (trace : Bytes) (w : List ℕ) (opening : ℕ) → progress_of trace tables w (record { opening = record { 0 = opening }; instants = 0; steps = 0; used = 0 }) ≡ begins opening (held_in w)
  unfolding progress_of rules_by
  feed-begins trace w opening = refl

  -- Both are the whole feed.
  pub both-parts : (past : Bool) → past ≡ (is_empty bs || ltb (last_moment bs) end) → (trace₀ trace : Bytes) (w : List ℕ) (own : Onward) (from : Definition.Progress State)
      → onward_of trace tables w own ≡ bags_onward (sim_of phases rules tables words) (length trace₀) bs 0 from → length trace ≡ length trace₀
      → end_of phases rules tables words end past trace w own ≡ feed_onward (sim_of phases rules tables words) (length trace₀) bs end from
  unfolding feed_onward
  both-parts past e trace₀ trace w own from same size =
      end-onward past e trace w own
      ∙ ap (λ n. end_onward (sim_of phases rules tables words) n bs end (onward_of trace tables w own)) size
      ∙ ap (end_onward (sim_of phases rules tables words) (length trace₀) bs end) same

-- ---- the buffers

-- The outcome of a feed that goes so and answers d.
pub outcome : (tables : List ℕ) (run₀ run trace₀ trace : Bytes) (w : List ℕ) (r : Onward) (d : Fed) (o : Law.Onward State) → d ≡ feed_answer_of r → onward_of trace tables w r ≡ o
    → Beyond trace₀ trace r.ended.progress.used → run ≡ stored (run_bytes (run_in r.ended.progress.opening.0 (atomics_in tables) (held_in w))) run₀
    → fed_of run trace d ≡ fed_from run₀ trace₀ (record { bags = o.bags; end = held_end (atomics_in tables) o.end })
outcome tables run₀ run trace₀ trace w r d o said same b put =
    rw (said, put) (fields ∙ ap (λ (z : Law.Onward State). fed_from run₀ trace₀ (record { bags = z.bags; end = held_end (atomics_in tables) z.end })) same)
  where
    p : Progress
    p = r.ended.progress

    fields : fed_of (stored (run_bytes (run_in p.opening.0 (atomics_in tables) (held_in w))) run₀) trace (feed_answer_of r)
        ≡ (let z = onward_of trace tables w r in fed_from run₀ trace₀ (record { bags = z.bags; end = held_end (atomics_in tables) z.end }))
    fields = unfold fed_from held_end ended progress_of run_in in (
        let l : length (take p.used trace) ≡ p.used = length-take-le p.used trace (omega (arith, b.within, b.size)) in
        let s = trace-stored p.used trace₀ trace b in
        λ i. record {
          number = number_in r.ended.refusal;
          bags = r.bags;
          instants = p.instants;
          steps = p.steps;
          used = sym l i;
          run = stored (run_bytes (record { opening = p.opening.0; entries = entries_of (atomics_in tables) (held_in w) })) run₀;
          trace = sym s i;
        })
