-- An advance on a model's tables is the definition's advance: the same number, open moment, instants, steps and trace, and the state that the code
-- holds stands for the definition's entries. The step's law, lifted through instants and calls. Assumes nothing.
use mathlib.Core.Path.{◌≡◌, refl, sym, ap, ◌∙◌, subst}
use Prim.Native.Nat.{ℕ, ◌+◌, ◌*◌, ◌≤◌, ◌<◌}
use mathlib.Core.List.{List}
use mathlib.Core.Bool.{Bool, true, false, cond}
use native.Mathlib.Omega.{arith}
use lib.Dec.{leb}
use lib.ListN.{length, get_or}
use borrow.Author.Tests.{leb-true}
use Rattle.definition.specs.Lists.{all, count, is_empty}
use Rattle.definition.specs.Limits.{max_given, max_advance, max_moment}
use Rattle.definition.specs.Model.{Bag, Model, atomics}
use Rattle.definition.specs.Records.{port_fits}
use Rattle.definition.specs.Routes.{routes}
use Rattle.definition.specs.SavedRun.{Entry, next_due}
use Rattle.definition.specs.Step.{Stepped, Simulator, step, nested}
use Rattle.definition.specs.Instant.{is_due}
use Rattle.definition.specs.Advance.{Progress, advancing}
use Rattle.definition.specs.Channels.{advancing_within}
use Rattle.law_model.proofs.WellFormed.{WellFormed}
use Rattle.law_nest.proofs.Pairs.{pairs-if}
use Rattle.law_nest.proofs.Nest.{Fresh}
use Rattle.law_nest.proofs.Stepping.{Good}
use Rattle.law_flat.proofs.Checks.{entry-fresh}
use Rattle.law_calls.proofs.SameBags.{SameOutput}
use Rattle.law_calls.proofs.Lift.{Agree, Alike, EndsAlike, advancing-alike}
use Rattle.law_calls.proofs.Kept.{Kept, Fit, kept_step, fit-early, fit-opens, kept-closes}
use Rattle.law_channels.proofs.LiftWithin.{advancing-within-alike}
use Rattle.clock.specs.Times.{latest}
use Rattle.run_state.specs.declared.State.{State}
use Rattle.run_state.specs.Held.{entries_of}
use Rattle.spec_step.specs.TableStep.{table_next, table_step, table_sim}
use Rattle.spec_step.specs.Tabled.{Tabled}
use Rattle.law_model.proofs.PhaseValues.{has_value}
use Rattle.law_step.proofs.StepLaw.{Holds, soon-at, table-state, table-decided, table-out, table-room}
use Rattle.law_step.proofs.NextLaw.{table-next}
use Rattle.law_tables.proofs.Until.{nothing, until, advancing-until, within-until}

-- A given bag as the checks let it through.
pub record Given (x y : Bag) : Type 0 where
  pub same : x ≡ y
  pub few : length x ≤ max_given
  pub ports : all port_fits x ≡ true
  pub values : all has_value x ≡ true

module _ (m : Model) (w : WellFormed m) (t : List ℕ) (h : Tabled m t) (room : ℕ) (enough : max_given * length (routes m) ≤ room) where
  abbrev held : State → List Entry
  held st = entries_of (length (atomics m.components)) st

  -- The state that the code holds: its entries, room for them, and last moments that are not too late.
  pub record Stood (rs : List Entry) (st : State) : Type 0 where
    pub entries : rs ≡ held st
    pub phases : length (atomics m.components) ≤ length st.phase
    pub lasts : length (atomics m.components) ≤ length st.last
    pub soon : (i : ℕ) → i < length (atomics m.components) → get_or st.last i 0 + max_advance ≤ latest

  abbrev pub AtTables : ℕ → List Entry → State → Type 0
  AtTables now rs st = Stood rs st × Kept m now rs

  abbrev pub BetweenTables : ℕ → List Entry → State → Type 0
  BetweenTables o rs st = Stood rs st × Fit m o rs

  abbrev sim : Simulator State
  sim = table_sim m.phases t m.rules (length (atomics m.components)) room

  holds : (now : ℕ) (rs : List Entry) (st : State) → AtTables now rs st → Holds m now st
  holds now rs st a = record { good = subst (Good m now) a.0.entries a.1.0; phases = a.0.phases; lasts = a.0.lasts; soon = a.0.soon }

  same_next : (now : ℕ) (rs : List Entry) (st : State) → AtTables now rs st → next_due m rs ≡ table_next m.phases t st
  same_next now rs st a = ap (next_due m) a.0.entries ∙ sym (table-next m w t h st now (holds now rs st a))

  -- ---- one step

  module _ (now : ℕ) (x : Bag) (rs : List Entry) (st : State) (a : AtTables now rs st) (g : Given x x) where
    abbrev next : Stepped State
    next = table_step m.phases t m.rules (length (atomics m.components)) room now x st

    step-out : SameOutput (step m now x rs).out next.out
    step-out = (
      λ p. ap (λ rs. count p (step m now x rs).out.bag) a.0.entries
          ∙ sym (table-out m w t h st now (holds now rs st a) x g.few g.ports g.values room enough p),
      ap (λ rs. (step m now x rs).out.decided) a.0.entries
          ∙ sym (table-decided m w t h st now (holds now rs st a) x g.few g.ports g.values room enough),
    )

    step-entries : (step m now x rs).state ≡ held next.state
    step-entries =
        ap (λ rs. (step m now x rs).state) a.0.entries
        ∙ sym (table-state m w t h st now (holds now rs st a) x g.few g.ports g.values room enough)

    step-stood : now + max_advance ≤ latest → AtTables now (step m now x rs).state next.state
    step-stood early =
        let kept = kept_step m w now x rs a.1 in
        let r = table-room m w t h st now (holds now rs st a) x g.few g.ports g.values room enough in (
          record {
            entries = step-entries;
            phases = omega (arith, r.0, a.0.phases);
            lasts = omega (arith, r.1, a.0.lasts);
            soon = soon-at m w next.state now (subst (Good m now) step-entries kept.0) early;
          },
          kept,
        )

  -- ---- up to a limit

  module _ (limit : ℕ) (early : limit + max_advance ≤ latest) where
    agree-tables : Agree AtTables BetweenTables Given (until limit (nested m)) (until limit sim)
    unfolding is_empty all is_due
    agree-tables = record {
      same_next = same_next;
      fine_none = record { same = refl; few = omega arith; ports = refl; values = refl };
      fine_empty = λ x y g. ap is_empty g.same;
      same_out = λ now x y rs st a g. subst
          (λ y. SameOutput (cond (leb now limit) (step m now x rs) (record { out = nothing; state = rs })).out (cond (leb now limit) (sim.step now y st) (record { out = nothing; state = st })).out)
          g.same (out-by (leb now limit) now x rs st a (own g));
      steps = λ now x y rs st a g. subst
          (λ y. AtTables now (cond (leb now limit) (step m now x rs) (record { out = nothing; state = rs })).state (cond (leb now limit) (sim.step now y st) (record { out = nothing; state = st })).state)
          g.same (stood-by now (leb now limit) refl x rs st a (own g));
      early = λ o rs st b. fit-early m w o rs b.1;
      opens = λ o u rs st b l e. (b.0, fit-opens m w o u rs b.1 l e);
      closes = λ now rs st a e. (a.0, kept-closes m w now rs a.1 e);
    }
      where
        own : {x y : Bag} → Given x y → Given x x
        own g = record { same = refl; few = g.few; ports = g.ports; values = g.values }

        out-by : (b : Bool) (now : ℕ) (x : Bag) (rs : List Entry) (st : State) → AtTables now rs st → Given x x
            → SameOutput (cond b (step m now x rs) (record { out = nothing; state = rs })).out (cond b (sim.step now x st) (record { out = nothing; state = st })).out
        out-by true now x rs st a g = step-out now x rs st a g
        out-by false now x rs st a g = (λ p. refl, refl)

        stood-by : (now : ℕ) (b : Bool) → leb now limit ≡ b → (x : Bag) (rs : List Entry) (st : State) → AtTables now rs st → Given x x
            → AtTables now (cond b (step m now x rs) (record { out = nothing; state = rs })).state (cond b (sim.step now x st) (record { out = nothing; state = st })).state
        stood-by now true e x rs st a g = step-stood now x rs st a g (omega (arith, leb-true now limit e))
        stood-by now false e x rs st a g = a

  -- ---- an advance

  -- from a state that holds entries which fit at the open moment
  pub fit-tables : (o : ℕ) (rs : List Entry) (st : State) → rs ≡ held st → Fit m o rs
      → length (atomics m.components) ≤ length st.phase → length (atomics m.components) ≤ length st.last → o + max_advance ≤ latest → BetweenTables o rs st
  fit-tables o rs st e fit phases lasts early =
      let good = subst (Good m o) e (pairs-if _ (Fresh m o) (atomics m.components) rs (entry-fresh m o) fit) in
      (record { entries = e; phases = phases; lasts = lasts; soon = soon-at m w st o good early }, fit)

  -- and as far as a call has come, to a moment that may be asked for
  pub advancing-tables : (trace u : ℕ) (x : Bag) (n : ℕ) (p : Progress (List Entry)) (q : Progress State) → length x ≤ max_given → all port_fits x ≡ true → all has_value x ≡ true
      → Alike BetweenTables p q → p.opening ≤ u → u ≤ max_moment → EndsAlike BetweenTables u (advancing (nested m) trace u x n p) (advancing sim trace u x n q)
  advancing-tables trace u x n p q few ports values a l b =
      subst (λ e. EndsAlike BetweenTables u e (advancing sim trace u x n q)) (advancing-until max_moment (nested m) trace u x b n p)
      (subst (λ e. EndsAlike BetweenTables u (advancing (until max_moment (nested m)) trace u x n p) e) (advancing-until max_moment sim trace u x b n q)
      (advancing-alike (agree-tables max_moment (omega arith)) trace u x x (record { same = refl; few = few; ports = ports; values = values }) n p q a l))

  -- .. and a channel's turn
  pub within-tables : (has trace u : ℕ) (x : Bag) (n : ℕ) (p : Progress (List Entry)) (q : Progress State) → length x ≤ max_given → all port_fits x ≡ true → all has_value x ≡ true
      → Alike BetweenTables p q → p.opening ≤ u → u ≤ max_moment → EndsAlike BetweenTables u (advancing_within (nested m) has trace u x n p) (advancing_within sim has trace u x n q)
  within-tables has trace u x n p q few ports values a l b =
      subst (λ e. EndsAlike BetweenTables u e (advancing_within sim has trace u x n q)) (within-until max_moment (nested m) trace u x b has n p)
      (subst (λ e. EndsAlike BetweenTables u (advancing_within (until max_moment (nested m)) has trace u x n p) e) (within-until max_moment sim trace u x b has n q)
      (advancing-within-alike (agree-tables max_moment (omega arith)) has trace u x x (record { same = refl; few = few; ports = ports; values = values }) n p q a l))
