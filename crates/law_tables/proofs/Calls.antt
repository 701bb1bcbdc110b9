-- The call advance and a channel's turn, from the definition to the tables: where the checks let it through, its outcome is that of the instants on
-- tables, with the code's state read as entries. This is what the code of the call cites. Assumes nothing.
use mathlib.Core.Path.{◌≡◌, refl, sym, ap, ◌∙◌, subst}
use Prim.Native.Nat.{ℕ, zero, suc, ◌*◌, ◌/◌, ◌≤◌, ◌<◌}
use mathlib.Core.List.{List, map}
use mathlib.Core.Bool.{true}
use native.Mathlib.Omega.{arith}
use lib.ListN.{length, take}
use borrow.Author.Tests.{lt-ltb, ltb-true}
use Rattle.definition.specs.Lists.{all}
use Rattle.definition.specs.Bytes.{Bytes, AllBytes, none, more, little_endian, number_at, chunks, ok}
use Rattle.definition.specs.Limits.{message_size, max_given, max_moment}
use Rattle.definition.specs.Model.{Model, atomics}
use Rattle.definition.specs.Records.{message_at}
use Rattle.definition.specs.Routes.{routes}
use Rattle.definition.specs.SavedRun.{Entry, run_of, run_fits, next_due}
use Rattle.definition.specs.Step.{nested}
use Rattle.definition.specs.Advance.{Progress, Ended, advancing, advance_from}
use Rattle.definition.specs.Engine.{to_bag, bag_fits, advance_checks}
use Rattle.definition.specs.Channels.{advance_within}
use Rattle.definition.specs.Carrying.{begins}
use Rattle.law_base.proofs.Tests.{and-true}
use Rattle.law_model.proofs.WellFormed.{WellFormed}
use Rattle.law_model.proofs.Codec.{take-bytes, drop-bytes}
use Rattle.law_nest.proofs.Stepping.{Good}
use Rattle.law_flat.proofs.Checks.{fits-good, advance-ok, bag-fine, bag-few}
use Rattle.law_calls.proofs.Lift.{Alike, EndsAlike}
use Rattle.law_calls.proofs.Fitting.{fits_run}
use Rattle.run_state.specs.declared.State.{State}
use Rattle.run_state.specs.Held.{entries_of, held_end}
use Rattle.law_base.specs.Keys.{value_range}
use Rattle.spec_step.specs.TableStep.{table_next, table_sim}
use Rattle.spec_step.specs.Tabled.{Tabled}
use Rattle.law_model.proofs.PhaseValues.{is_value, has_value}
use Rattle.law_step.proofs.StepLaw.{soon-at}
use Rattle.law_step.proofs.NextLaw.{table-next}
use Rattle.law_tables.proofs.Tables.{BetweenTables, fit-tables, advancing-tables, within-tables}

-- ---- the outcome

module _ (m : Model) (w : WellFormed m) (t : List ℕ) (h : Tabled m t) (room : ℕ) (enough : max_given * length (routes m) ≤ room) where
  -- two ends that are alike, as one with the state's entries
  pub ends_held : (a : Ended (List Entry)) (b : Ended State) → a.number ≡ b.number → Alike (BetweenTables m w t h room enough) a.progress b.progress → a ≡ held_end (length (atomics m.components)) b
  unfolding held_end
  ends_held a b e p = λ i. record {
    number = e i;
    progress = record { opening = p.opening i; state = p.state.0.entries i; instants = p.instants i; steps = p.steps i; trace = p.trace i; rules = p.rules i };
  }

-- ---- the given bag

le-two : {s : Bytes} → AllBytes s → little_endian (take 2 s) < value_range
unfolding little_endian
le-two none = omega arith
le-two (more {b = b} h none) = omega (arith, ltb-true b 256 h)
le-two (more {b = b} h (more {b = c} g t)) = omega (arith, ltb-true b 256 h, ltb-true c 256 g)

rows-values : (n : ℕ) {s : Bytes} → AllBytes s → all has_value (map (message_at 0) (chunks n message_size s)) ≡ true
unfolding chunks all message_at number_at has_value is_value
rows-values zero a = refl
rows-values (suc n) {s} a =
    and-true (has_value (message_at 0 (take message_size s))) _ (lt-ltb _ value_range (le-two (drop-bytes 1 (take-bytes message_size a)))) (rows-values n (drop-bytes message_size a))

pub bag-values : {b : Bytes} → AllBytes b → all has_value (to_bag b) ≡ true
unfolding to_bag
bag-values {b} a = rows-values (length b / message_size) a

-- as far as a call has come, with a bag of bytes that fits
module _ (m : Model) (w : WellFormed m) (t : List ℕ) (h : Tabled m t) (room : ℕ) (enough : max_given * length (routes m) ≤ room) where
  pub bag-on-tables : (trace u : ℕ) (bag : Bytes) (n : ℕ) (p : Progress (List Entry)) (q : Progress State) → AllBytes bag → bag_fits bag ≡ true
      → Alike (BetweenTables m w t h room enough) p q → p.opening ≤ u → u ≤ max_moment
      → EndsAlike (BetweenTables m w t h room enough) u (advancing (nested m) trace u (to_bag bag) n p)
      (advancing (table_sim m.phases t m.rules (length (atomics m.components)) room) trace u (to_bag bag) n q)
  bag-on-tables trace u bag n p q bytes fits a l b = advancing-tables m w t h room enough trace u (to_bag bag) n p q (bag-few bag fits) (bag-fine bag fits) (bag-values bytes) a l b

-- ---- a call

module _ (m : Model) (w : WellFormed m) (tables : List ℕ) (h : Tabled m tables) (run : Bytes) (st : State)
    (same : entries_of (length (atomics m.components)) st ≡ (run_of m run).entries)
    (phases : length (atomics m.components) ≤ length st.phase) (lasts : length (atomics m.components) ≤ length st.last) where
  -- the next due moment of a run that fits
  pub next-on-tables : run_fits m run ≡ true → table_next m.phases tables st ≡ next_due m (run_of m run).entries
  next-on-tables f =
      let good = subst (Good m (run_of m run).opening) (sym same) (fits-good m run f) in
      table-next m w tables h st (run_of m run).opening
      (record { good = good; phases = phases; lasts = lasts; soon = soon-at m w st (run_of m run).opening good (omega (arith, (fits_run m run f).0.1)) })
      ∙ ap (next_due m) same

  module _ (room : ℕ) (enough : max_given * length (routes m) ≤ room) where
    -- a run that fits and the state that holds it are alike before the first instant
    pub run-alike : run_fits m run ≡ true
        → Alike (BetweenTables m w tables h room enough) (begins (run_of m run).opening (run_of m run).entries) (begins (run_of m run).opening st)
    run-alike f =
        let fit = (fits_run m run f).0 in
        record {
          opening = refl;
          state = fit-tables m w tables h room enough (run_of m run).opening (run_of m run).entries st (sym same) fit.0 phases lasts (omega (arith, fit.1));
          instants = refl;
          steps = refl;
          trace = refl;
          rules = refl;
        }

    -- the instants of a call that the checks let through
    pub advance-on-tables : (t : ℕ) (bag : Bytes) (trace : ℕ) → AllBytes bag → advance_checks m run t bag ≡ ok tt
        → advance_from (nested m) trace t (to_bag bag) (run_of m run).opening (run_of m run).entries
        ≡ held_end (length (atomics m.components)) (advance_from (table_sim m.phases tables m.rules (length (atomics m.components)) room) trace t (to_bag bag) (run_of m run).opening st)
    unfolding advance_from
    advance-on-tables t bag trace bytes ok-call =
        let k = advance-ok m run t bag ok-call in
        let e = bag-on-tables m w tables h room enough trace t bag (suc t) _ _ bytes k.bag_fits_lem (run-alike k.run_fits_lem) k.not_early k.not_late in
        ends_held m w tables h room enough _ _ e.0 e.1

    -- .. and those of a channel's turn
    pub turn-on-tables : (has t : ℕ) (bag : Bytes) (trace : ℕ) → AllBytes bag → advance_checks m run t bag ≡ ok tt
        → advance_within (nested m) has trace t (to_bag bag) (run_of m run).opening (run_of m run).entries
        ≡ held_end (length (atomics m.components))
        (advance_within (table_sim m.phases tables m.rules (length (atomics m.components)) room) has trace t (to_bag bag) (run_of m run).opening st)
    unfolding advance_within
    turn-on-tables has t bag trace bytes ok-call =
        let k = advance-ok m run t bag ok-call in
        let e = within-tables m w tables h room enough has trace t (to_bag bag) (suc t) _ _ (bag-few bag k.bag_fits_lem) (bag-fine bag k.bag_fits_lem) (bag-values bytes)
        (run-alike k.run_fits_lem) k.not_early k.not_late in
        ends_held m w tables h room enough _ _ e.0 e.1
