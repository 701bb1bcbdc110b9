-- A feed that is let in, from the buffers lent to the outcome: its calls are one progress from one load (`one-load`), and that is the one on the
-- model's tables (`feed-on-tables`). Assumes nothing.
use mathlib.Core.Path.{◌≡◌, sym, ap, ◌∙◌, subst}
use mathlib.Core.List.{List}
use mathlib.Core.Bool.{not, ◌||◌}
use Prim.Native.Nat.{ℕ, ◌*◌, ◌≤◌, ◌<◌}
use native.Mathlib.Omega.{arith}
use lib.Dec.{ltb}
use lib.ListN.{length, get_or}
use borrow.Author.Tests.{ltb-false, not-false}
use Rattle.definition.specs.Bytes.{Bytes, AllBytes, ok}
use Rattle.definition.specs.Limits.{max_given, max_moment}
use Rattle.definition.specs.Model.{Model}
use Rattle.definition.specs.Routes.{routes}
use Rattle.definition.specs.Pinned.Decoder.{accepted}
use Rattle.definition.specs.Pinned.FeedReader.{feed_of}
use Rattle.definition.specs.SavedRun.{atomic_count, run_of, to_run, run_fits}
use Rattle.definition.specs.Feed.{FeedBag, last_moment, first_moment}
use Rattle.definition.specs.FeedCall.{feed_checks, advance_feed}
use Rattle.definition.specs.Demands.{MayFeed}
use Rattle.law_base.proofs.Tests.{or-none}
use Rattle.law_base.proofs.Results.{ok_same, bind_ok, refuse-ok}
use Rattle.law_model.proofs.Reading.{accepted_sound}
use Rattle.law_bytes.proofs.Slices.{all-bytes}
use Rattle.law_feed.specs.Onward.{fed_from}
use Rattle.law_feed.proofs.FeedBytes.{feed-read}
use Rattle.law_feed.proofs.OneLoad.{one-load}
use Rattle.law_tables.proofs.Feeds.{feed-on-tables}
use Rattle.model_records.specs.Values.{model_in}
use Rattle.model_file.specs.Checked.{model_of, phases_part, rules_part}
use Rattle.model_file.specs.declared.Counts.{Counts}
use Rattle.run_state.specs.declared.State.{State}
use Rattle.run_state.specs.Held.{entries_of, held_end}
use Rattle.spec_step.specs.Ranges.{Seated}
use Rattle.spec_step.specs.TablesOf.{TablesOf}
use Rattle.spec_step.specs.Tables.{atomics_in}
use Rattle.run_saved.specs.Runs.{Loaded}
use Rattle.instant_steps.specs.Sim.{Lent}
use Rattle.feed_bags.specs.declared.Bags.{Bags}
use Rattle.feed_bags.specs.Bags.{bags_of}
use Rattle.feed_loop.specs.Onwards.{Startable, bags_in, fed_by}
use Rattle.call_advance.proofs.Whole.{fits-long}
use Rattle.call_feed.proofs.Checks.{feed-is}

-- What the checks let through.
pub feed-ok : (m : Model) (run : Bytes) (end : ℕ) (feed : Bytes) (bs : List FeedBag) → AllBytes feed → feed_checks m run end feed ≡ ok bs → MayFeed m run end feed bs
unfolding feed_checks
feed-ok m run end feed bs bytes h =
    let x = refuse-ok (not (run_fits m run)) 10 _ bs h in
    let y = bind_ok (feed_of feed) _ bs x.1 in
    let cs = y.0 in
    let late = ltb end (last_moment cs) || ltb max_moment end in
    let early = ltb (first_moment cs end) (run_of m run).opening in
    let z = refuse-ok (late || early) 11 _ bs y.2 in
    let o = or-none late early z.0 in
    let p = or-none (ltb end (last_moment cs)) (ltb max_moment end) o.0 in
    subst (MayFeed m run end feed) (ok_same cs bs z.1)
    (record {
      run_fits_lem = not-false (run_fits m run) x.0;
      is_feed = feed-read feed cs bytes y.1;
      timed = record {
        not_before_lem = ltb-false end (last_moment cs) p.0;
        not_late = ltb-false max_moment end p.1;
        not_early = ltb-false (first_moment cs end) (run_of m run).opening o.1;
      };
    })

module _ (file : Bytes) (n : Counts) (bytes : (i : ℕ) → get_or file i 0 < 256) (told : ok (model_of file n) ≡ accepted file) (run : Bytes) (end : ℕ) (feed : Bytes)
    (given : (i : ℕ) → get_or feed i 0 < 256) (c : feed_checks (model_of file n) run end feed ≡ ok (bags_in feed)) (tables : List ℕ) (h : TablesOf (model_of file n) tables) where
  may : MayFeed (model_of file n) run end feed (bags_in feed)
  may = feed-ok (model_of file n) run end feed (bags_in feed) (all-bytes feed given) c

  -- What the calls ask: words for the bags, an end that may be asked for, a feed, tables that fit, and a run buffer that is long enough.
  pub startable : (found : Bags) → feed_of feed ≡ ok (bags_in feed) → found ≡ bags_of (bags_in feed) → (work : ℕ) → Lent work → Startable tables end feed found work (length run)
  unfolding atomic_count
  startable found is_feed so work lent =
      let e = h.tabled.atomic_count_lem in record {
        lent = lent;
        moment = may.timed.not_late;
        is_feed = is_feed;
        found_so = so;
        fit = record { in_range = h.in_range; seated = subst (λ k. Seated k tables) (sym e) h.seated };
        run_fits_lem = rw e (fits-long (model_of file n) run may.run_fits_lem);
      }

  -- The feed by what the code has: the parts, the model's tables and the state.
  pub feed-parts : (trace : Bytes) (st : State) → Loaded run (atomics_in tables) st → (room : ℕ) → max_given * length (routes (model_of file n)) ≤ room
      → (ps rs : Bytes) → ps ≡ phases_part file n → rs ≡ rules_part file n → fed_by ps rs tables room end feed run st trace ≡ advance_feed file run end feed trace
  unfolding model_of model_in run_of to_run atomic_count held_end
  feed-parts trace st loaded room enough ps rs p q =
      let e = h.tabled.atomic_count_lem in
      let m = model_of file n in
      let sound = (accepted_sound file m (all-bytes file bytes) (sym told)).sound in
      rw (p, q, e)
      (ap (fed_from run trace) (sym (feed-on-tables m sound tables h.tabled run st
      (ap (λ k. entries_of k st) (sym e) ∙ loaded.entries ∙ ap (λ k. (to_run k run).entries) e) (omega (arith, h.few, loaded.phases)) (omega (arith, h.few, loaded.lasts))
      room enough may.run_fits_lem (length trace) end feed (bags_in feed) (all-bytes feed given) may.is_feed may.timed))
      ∙ sym (one-load file m (all-bytes file bytes) (sym told) run trace end feed (bags_in feed) may)
      ∙ feed-is file run end feed trace m told (bags_in feed) c)
