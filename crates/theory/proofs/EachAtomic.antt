-- An advance leaves an entry for each atomic, and a rule for each if it did an instant: every step does so, whatever its state. So nothing is asked
-- of the model or the run. Assumes nothing.
use mathlib.Core.Path.{◌≡◌, refl, sym, ap, ◌∙◌, subst}
use mathlib.Core.Logic.{inl, inr}
use Prim.Native.Nat.{ℕ, zero, suc}
use mathlib.Core.List.{List, [], ◌∷◌, ◌++◌}
use mathlib.Core.Bool.{Bool, true, false, cond}
use lib.Dec.{ltb}
use lib.ListN.{length, length-map}
use Rattle.definition.specs.Bytes.{Bytes, Result, ok, refused, ◌>>=◌, refuse_if}
use Rattle.definition.specs.Model.{Bag, Model, atomics}
use Rattle.definition.specs.SavedRun.{Entry, atomic_count}
use Rattle.definition.specs.Step.{Output, Simulator, unload, decided_in_file_order, step_on, step, nested}
use Rattle.definition.specs.Instant.{Instant, done, jammed, instant, instant_trace}
use Rattle.definition.specs.Advance.{Progress, Ended, ended, tried, continued, succeeded, is_before, advancing, advance_from}
use Rattle.definition.specs.AdvanceRelation.{Steps, with_instant}
use Rattle.definition.specs.Engine.{to_bag}
use Rattle.law_model.proofs.Answers.{end_of}
use Rattle.law_model.proofs.RunBack.{entry-count}
use Rattle.law_calls.proofs.Instants.{Settled, settled}
use Rattle.theory.proofs.RuleTables.{Long, long-instant}

module _ (m : Model) where
  abbrev k : Simulator (List Entry)
  k = nested m

  abbrev Reached : Type 0
  Reached = Progress (List Entry)

  abbrev ForEach : Reached → Type 0
  ForEach p = (length p.state ≡ atomic_count m) × Long (atomic_count m) p

  abbrev ForEachIf : Result Reached → Type 0
  ForEachIf (ok p) = ForEach p
  ForEachIf (refused j) = Unit {0}

  -- ---- a step, and steps in turn

  decided-each : (now : ℕ) (x : Bag) (rs : List Entry) → length (step m now x rs).out.decided ≡ atomic_count m
  unfolding step step_on decided_in_file_order atomic_count
  decided-each now x rs = length-map (atomics m.components) _

  steps-each : (now : ℕ) (x : Bag) (s : List Entry) (xs : List Output) (s' : List Entry) → Steps k now x s xs s' → length s ≡ atomic_count m → length s' ≡ atomic_count m
  unfolding step step_on unload atomic_count
  steps-each now x s [] s' e h = ap length (sym e) ∙ h
  steps-each now x s (y ∷ ys) s' e h = steps-each now [] _ ys s' e.2 (length-map (atomics m.components) _)

  -- ---- the instants of a call

  module _ (room t : ℕ) (given : Bag) where
    tried-each : (now : ℕ) (x : Bag) (p : Reached) → ForEach p → (i : Instant (List Entry)) → instant k now x p.state ≡ i → ForEachIf (tried room now p i)
    unfolding tried
    tried-each now x p h jammed e = tt
    tried-each now x p h (done [] s) e = h
    tried-each now x p h (done (y ∷ ys) s) e = go (ltb room (length (p.trace ++ instant_trace now (y ∷ ys))))
      where
        stands : ForEach (with_instant k room t given p now (y ∷ ys) s)
        stands = (
          steps-each now x p.state (y ∷ ys) s (subst (Settled k now x p.state) e (settled k now x p.state)).steps h.0,
          inr (long-instant k (atomic_count m) decided-each now x p.state y ys s e),
        )

        go : (d : Bool) → ForEachIf (refuse_if d 15 >>= λ _. ok (with_instant k room t given p now (y ∷ ys) s))
        go true = tt
        go false = stands

    continued-each : (on : Reached → Ended (List Entry)) → ((q : Reached) → ForEach q → ForEach (on q).progress) → (p : Reached) → ForEach p
        → (r : Result Reached) → ForEachIf r → ForEach (continued on p r).progress
    unfolding continued ended
    continued-each on f p h (ok q) g = f q g
    continued-each on f p h (refused j) g = h

    advancing-each : (turns : ℕ) (p : Reached) → ForEach p → ForEach (advancing k room t given turns p).progress
    unfolding advancing ended succeeded
    advancing-each zero p h = h
    advancing-each (suc turns) p h =
        go (is_before (k.next p.state) t) _ _ (continued-each _ (λ q g. advancing-each turns q g) p h _ (tried-each _ [] p h _ refl))
        (continued-each (succeeded t) (λ q g. g) p h _ (tried-each t given p h _ refl))
      where
        go : (b : Bool) (y z : Ended (List Entry)) → ForEach y.progress → ForEach z.progress → ForEach (cond b y z).progress
        go true y z f g = f
        go false y z f g = g

  pub end-each : (run : Bytes) (t : ℕ) (bag trace : Bytes) → ForEach (end_of m run t bag trace).progress
  unfolding advance_from
  end-each run t bag trace = advancing-each (length trace) t (to_bag bag) (suc t) _ (entry-count m run, inl refl)
