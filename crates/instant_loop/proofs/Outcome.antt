-- The whole outcome of a call from where its instants end: the numbers, the run stored, and the records at the front of the trace.
-- Assumes nothing.
use mathlib.Core.Path.{◌≡◌, ◌∙◌, refl, sym, ap}
use mathlib.Core.List.{List, [], ◌++◌}
use mathlib.Core.Bool.{Bool, true, false, ◌||◌, cond}
use Prim.Native.Nat.{ℕ, zero, suc, ◌*◌}
use native.Mathlib.Omega.{arith}
use lib.ListN.{length, take, length-map, take-append-drop}
use lib.Dec.{eqb, ltb}
use lib.Seq.{length-take-le}
use Rattle.definition.specs.Lists.{up_from}
use Rattle.definition.specs.Limits.{position_size}
use Rattle.definition.specs.Bytes.{Bytes, ok, stored}
use Rattle.definition.specs.SavedRun.{Entry, run_bytes}
use Rattle.definition.specs.Model.{Bag}
use Rattle.definition.specs.Step.{Simulator}
use Rattle.definition.specs.Advance.{ended, advancing, advance_from}
use Rattle.definition.specs.Advance as Definition
use Rattle.definition.specs.Channels.{advancing_within, advance_within}
use Rattle.definition.specs.Engine.{table_bytes, with_rules, advanced}
use Rattle.run_state.specs.declared.State.{State}
use Rattle.run_state.specs.Held.{held_in, entries_of, held_end}
use Rattle.spec_step.specs.Tables.{atomics_in}
use Rattle.instant_steps.specs.Sim.{rules_shown}
use Rattle.run_saved.specs.Runs.{run_in}
use Rattle.instant_attempt.specs.Progress.{rules_by, progress_of, Beyond}
use Rattle.instant_attempt.specs.declared.Progress.{Progress}
use Rattle.refusals.specs.Refusals.{number_in}
use Rattle.call_answers.specs.declared.Advanced.{Advanced}
use Rattle.call_answers.specs.Answers.{advanced_of}
use Rattle.instant_loop.specs.declared.Ended.{Ended}
use Rattle.instant_loop.specs.Ends.{ended_of, table_left, answer_of}

-- The trace with its records in front.
pub trace-stored : (used : ℕ) (trace₀ trace : Bytes) → Beyond trace₀ trace used → stored (take used trace) trace₀ ≡ trace
unfolding stored
trace-stored used trace₀ trace b =
    let l : length (take used trace) ≡ used = length-take-le used trace (omega (arith, b.within, b.size)) in
    rw l (ap (λ r. take used trace ++ r) (sym b.same) ∙ take-append-drop used trace)

-- As many entries as atomics.
up-length : (k n : ℕ) → length (up_from k n) ≡ n
unfolding up_from
up-length k zero = refl
up-length k (suc n) = ap suc (up-length (suc k) n)

entries-length : (n : ℕ) (st : State) → length (entries_of n st) ≡ n
unfolding entries_of
entries-length n st = length-map (up_from 0 n) _ ∙ up-length 0 n

module _ (tables : List ℕ) (run₀ trace₀ trace : Bytes) (w : List ℕ) (e : Ended) (b : Beyond trace₀ trace e.progress.used) where
  abbrev n : ℕ
  n = atomics_in tables

  abbrev end : Definition.Ended (List Entry)
  end = held_end n (ended_of trace tables w e)

  -- The table with the rules that the words show.
  table-left : (table : Bytes) → with_rules (length end.progress.state) end.progress table ≡ table_left tables w e.progress.instants table
  unfolding held_end ended progress_of rules_by with_rules table_left
  table-left table = rw (entries-length n (held_in w)) (go (eqb e.progress.instants 0))
    where
      go : (b : Bool) → cond (b || ltb (length table) (position_size * n)) table (stored (table_bytes (cond b [] (rules_shown n w))) table)
          ≡ cond (b || ltb (length table) (position_size * n)) table (stored (table_bytes (rules_shown n w)) table)
      go true = refl
      go false = refl

  fields : (table : Bytes) → advanced run₀ trace₀ table (ok end)
      ≡ advanced_of (stored (run_bytes (run_in e.progress.opening.0 n (held_in w))) run₀) trace (table_left tables w e.progress.instants table) (answer_of e)
  unfolding advanced held_end ended progress_of run_in
  fields table =
      let l : length (take e.progress.used trace) ≡ e.progress.used = length-take-le e.progress.used trace (omega (arith, b.within, b.size)) in
      let s = trace-stored e.progress.used trace₀ trace b in
      λ i. record {
        number = number_in e.refusal;
        instants = e.progress.instants;
        steps = e.progress.steps;
        used = l i;
        run = stored (run_bytes (record { opening = e.progress.opening.0; entries = entries_of n (held_in w) })) run₀;
        trace = s i;
        table = table-left table i;
      }

-- The outcome of a call that ends at a and answers r.
pub outcome : (tables : List ℕ) (run₀ run trace₀ trace : Bytes) (w : List ℕ) (e : Ended) (r : Advanced) (a : Definition.Ended State) → r ≡ answer_of e → ended_of trace tables w e ≡ a
    → Beyond trace₀ trace e.progress.used → run ≡ stored (run_bytes (run_in e.progress.opening.0 (atomics_in tables) (held_in w))) run₀
    → (table : Bytes) → advanced_of run trace (table_left tables w r.instants table) r ≡ advanced run₀ trace₀ table (ok (held_end (atomics_in tables) a))
outcome tables run₀ run trace₀ trace w e r a said q b put table =
    rw (said, put) (sym (ap (λ z. advanced run₀ trace₀ table (ok (held_end (atomics_in tables) z))) (sym q) ∙ fields tables run₀ trace₀ trace w e b table))

-- A call begins with nothing done, with so many steps and without a limit.
pub begins-within : (k : Simulator State) (has room t : ℕ) (x : Bag) (trace : Bytes) (tables w : List ℕ) (g : Progress) → g.instants ≡ 0 → g.steps ≡ 0 → g.used ≡ 0
    → advancing_within k has room t x (suc t) (progress_of trace tables w g) ≡ advance_within k has room t x g.opening.0 (held_in w)
unfolding advance_within progress_of rules_by
begins-within k has room t x trace tables w g i s u = rw (i, s, u)

pub begins : (k : Simulator State) (room t : ℕ) (x : Bag) (trace : Bytes) (tables w : List ℕ) (g : Progress) → g.instants ≡ 0 → g.steps ≡ 0 → g.used ≡ 0
    → advancing k room t x (suc t) (progress_of trace tables w g) ≡ advance_from k room t x g.opening.0 (held_in w)
unfolding advance_from progress_of rules_by
begins k room t x trace tables w g i s u = rw (i, s, u)
