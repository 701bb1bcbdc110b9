-- A feed, from the definition to the tables: where the bytes are a feed and the run fits, its calls as one progress are those on tables, with the code's
-- state read as entries. This is what the code of the call cites. Assumes nothing.
use mathlib.Core.Path.{◌≡◌}
use Prim.Native.Nat.{ℕ, suc, ◌*◌, ◌≤◌}
use mathlib.Core.List.{List, [], ◌∷◌}
use mathlib.Core.Bool.{true}
use lib.ListN.{length}
use Rattle.definition.specs.Bytes.{Bytes, AllBytes, none}
use Rattle.definition.specs.Limits.{max_given}
use Rattle.definition.specs.Model.{Model, atomics}
use Rattle.definition.specs.Routes.{routes}
use Rattle.definition.specs.Sound.{Every}
use Rattle.definition.specs.SavedRun.{Entry, run_of, run_fits}
use Rattle.definition.specs.Step.{nested}
use Rattle.definition.specs.Carrying.{begins}
use Rattle.definition.specs.Feed.{FeedBag, IsFeed, FeedTimed}
use Rattle.law_model.proofs.WellFormed.{WellFormed}
use Rattle.law_feed.specs.Onward.{Onward, feed_onward}
use Rattle.law_feed.proofs.Timed.{Proper, end-proper, calls-in-time}
use Rattle.law_feed.proofs.FeedBytes.{bags-bytes}
use Rattle.law_feed.proofs.Alike.{OnwardAlike, feed-alike}
use Rattle.run_state.specs.declared.State.{State}
use Rattle.run_state.specs.Held.{entries_of, held_end}
use Rattle.spec_step.specs.TableStep.{table_sim}
use Rattle.spec_step.specs.Tabled.{Tabled}
use Rattle.law_tables.proofs.Tables.{BetweenTables}
use Rattle.law_tables.proofs.Calls.{ends_held, bag-on-tables, run-alike}

-- The end of a feed with the entries that its state holds for n atomics.
abbrev pub held_onward : ℕ → Onward State → Onward (List Entry)
held_onward n o = record { bags = o.bags; end = held_end n o.end }

-- a bag of a feed, of bytes
abbrev pub ProperBytes : FeedBag → Type 0
ProperBytes b = Proper b × AllBytes b.bag

both : (bs : List FeedBag) → Every Proper bs → Every (λ b. AllBytes b.bag) bs → Every ProperBytes bs
both [] p h = tt
both (b ∷ bs) p h = ((p.0, h.0), both bs p.1 h.1)

module _ (m : Model) (w : WellFormed m) (tables : List ℕ) (h : Tabled m tables) (run : Bytes) (st : State)
    (same : entries_of (length (atomics m.components)) st ≡ (run_of m run).entries)
    (phases : length (atomics m.components) ≤ length st.phase) (lasts : length (atomics m.components) ≤ length st.last)
    (room : ℕ) (enough : max_given * length (routes m) ≤ room) where
  onward-held : (a : Onward (List Entry)) (b : Onward State) → OnwardAlike (BetweenTables m w tables h room enough) a b → a ≡ held_onward (length (atomics m.components)) b
  onward-held a b e = let last = ends_held m w tables h room enough a.end b.end e.1 e.2 in λ i. record { bags = e.0 i; end = last i }

  pub feed-on-tables : run_fits m run ≡ true → (trace end : ℕ) (feed : Bytes) (bs : List FeedBag) → AllBytes feed → IsFeed feed bs → FeedTimed (run_of m run).opening end bs
      → feed_onward (nested m) trace bs end (begins (run_of m run).opening (run_of m run).entries)
      ≡ held_onward (length (atomics m.components))
      (feed_onward (table_sim m.phases tables m.rules (length (atomics m.components)) room) trace bs end (begins (run_of m run).opening st))
  feed-on-tables fits trace end feed bs bytes is_feed timed =
      onward-held _ _ (feed-alike (nested m) (table_sim m.phases tables m.rules (length (atomics m.components)) room) (BetweenTables m w tables h room enough) ProperBytes trace
      (λ c g p q a l. bag-on-tables m w tables h room enough trace c.moment c.bag (suc c.moment) p q g.1 g.0.1 a l g.0.0)
      bs (both bs is_feed.bags (bags-bytes feed bs bytes is_feed)) end (end-proper end timed.not_late, none) _ _
      (run-alike m w tables h run st same phases lasts room enough fits) (calls-in-time feed (run_of m run).opening end bs is_feed timed).0)
