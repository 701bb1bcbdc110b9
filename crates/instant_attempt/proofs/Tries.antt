-- An instant that stands is what the definition's `tried_within` says, with its records in the trace (`stands-tried`). Assumes nothing.
use mathlib.Core.Path.{◌≡◌, refl, ◌∙◌, sym, ap, subst}
use mathlib.Core.List.{List, [], ◌∷◌, ◌++◌}
use mathlib.Core.Bool.{Bool, true, false, cond}
use Prim.Native.Nat.{ℕ, suc, ◌+◌, ◌≤◌}
use native.Mathlib.Omega.{arith}
use lib.Dec.{eqb}
use lib.ListN.{length, length-append, take}
use lib.Seq.{sets, length-sets, length-take-le}
use borrow.Author.Tests.{eqb-true, eqb-false, ne_eqb}
use Rattle.definition.specs.Bytes.{Bytes, ok}
use Rattle.definition.specs.Limits.{max_steps}
use Rattle.definition.specs.Step.{Output}
use Rattle.definition.specs.Instant.{Instant, done, instant_trace, instant_rules}
use Rattle.definition.specs.Advance.{tried}
use Rattle.definition.specs.Channels.{tried_within}
use Rattle.law_base.proofs.Turns.{tried-none, tried-stands, within-ok}
use Rattle.run_state.specs.declared.State.{State}
use Rattle.run_state.specs.Held.{held_in}
use Rattle.law_stores.proofs.Stores.{take-sets, drop-sets}
use Rattle.spec_step.specs.Tables.{atomics_in}
use Rattle.instant_steps.specs.Sim.{Ready, rules_shown}
use Rattle.instant_steps.specs.Verdicts.{ran_of, Recorded, Left, RulesLeft}
use Rattle.instant_steps.specs.declared.Ran.{Ran}
use Rattle.std.proofs.Common.{Option, None, Ok}
use Rattle.instant_attempt.specs.Progress.{rules_by, progress_of, tried_of, TriedWithin}
use Rattle.instant_attempt.specs.Pass.{after_of, Stands}
use Rattle.instant_attempt.specs.declared.Progress.{Progress}
use Rattle.instant_attempt.specs.declared.TurnWithin.{TurnWithin}
use Rattle.instant_attempt.proofs.Passes.{no-records}

-- ---- it stands

module _ (now : ℕ) (p : Progress) (steps size : ℕ) where
  after_none : steps ≡ 0 → after_of now p steps size ≡ p
  unfolding after_of
  after_none e = rw e

  after-some : (steps ≡ 0 → ⊥)
      → after_of now p steps size ≡ record { opening = record { 0 = now + 1 }; instants = p.instants + 1; steps = p.steps + steps; used = p.used + size }
  unfolding after_of
  after-some z = rw (ne_eqb steps 0 z)

  pub after-used : (steps ≡ 0 → size ≡ 0) → (after_of now p steps size).used ≡ p.used + size
  after-used z = go (eqb steps 0) refl
    where
      go : (b : Bool) → eqb steps 0 ≡ b → (after_of now p steps size).used ≡ p.used + size
      go true e = rw (after_none (eqb-true steps 0 e)) (omega (arith, z (eqb-true steps 0 e)))
      go false e = rw (after-some (eqb-false steps 0 e))

module _ {turn : TurnWithin} {room : ℕ} {i : Instant State} {q : Progress} (s : Stands turn room i q) where
  abbrev now : ℕ
  now = turn.at.0

  abbrev p : Progress
  p = turn.progress

  abbrev pub recs : Bytes
  recs = instant_trace now s.outputs

  pub used-of : q.used ≡ p.used + length recs
  used-of = rw s.progress (after-used now p (length s.outputs) (length recs) (λ z. ap length (no-records now s.outputs z)))

  -- The state that it leaves.
  pub end_of : (st : State) → Left i st → st ≡ s.end
  end_of st l = subst (λ (j : Instant State). Left j st) s.same l

  -- The records in the scratch, where they fit there.
  pub from-scratch : (scratch₀ scratch : Bytes) → length scratch ≡ length scratch₀ → length recs ≤ length scratch → Recorded now 0 scratch₀ scratch i
      → take (length recs) scratch ≡ recs
  from-scratch scratch₀ scratch e l w =
      let k : length recs ≡ 0 + length recs = omega arith in
      let f : 0 + length recs ≤ length scratch₀ = omega arith in
      rw (subst (Recorded now 0 scratch₀ scratch) s.same w f, k) (take-sets scratch₀ recs 0 f)

  -- The same instant again, into the trace.
  pub again : (trace trace' : Bytes) → length trace ≡ room → Recorded now p.used trace trace' i → trace' ≡ sets trace p.used recs
  again trace trace' e w = subst (Recorded now p.used trace trace') s.same w (omega (arith, s.within))

  pub verdict-again : (from : ℕ) (ran : Option Ran) → ran ≡ ran_of now from i → ran ≡ None → ⊥
  unfolding ran_of
  verdict-again from ran e none =
      let some = ap (λ (j : Instant State). ran_of now from j) s.same in cc

-- ---- the rules after it

rules-none : (n : ℕ) (w₀ w : List ℕ) (xs : List Output) (st : State) → RulesLeft n w₀ w (done xs st) → length xs ≡ 0 → rules_shown n w ≡ rules_shown n w₀
rules-none n w₀ w [] st h e = h
rules-none n w₀ w (x ∷ xs) st h e = absurd (omega arith)

rules-some : (n : ℕ) (w₀ w : List ℕ) (xs : List Output) (st : State) → RulesLeft n w₀ w (done xs st) → (length xs ≡ 0 → ⊥) → rules_shown n w ≡ instant_rules xs
rules-some n w₀ w [] st h e = absurd (e refl)
rules-some n w₀ w (x ∷ xs) st h e = h

-- ---- its records are in the trace

module _ {turn : TurnWithin} (tables w₀ w : List ℕ) (trace trace' : Bytes) {i : Instant State} (q : Progress) (s : Stands turn (length trace) i q)
    (idle : length s.outputs ≡ 0 → s.end ≡ held_in w₀) (left : held_in w ≡ s.end) (rules : RulesLeft (atomics_in tables) w₀ w i)
    (put : trace' ≡ sets trace turn.progress.used (recs s)) where
  abbrev at : ℕ
  at = turn.at.0

  abbrev g : Progress
  g = turn.progress

  abbrev ys : Bytes
  ys = instant_trace at s.outputs

  -- the instant's rules, by whether it has a step
  left-rules : RulesLeft (atomics_in tables) w₀ w (done s.outputs s.end)
  left-rules = subst (RulesLeft (atomics_in tables) w₀ w) s.same rules

  none : length s.outputs ≡ 0 → tried_of trace' tables w (Ok q) ≡ tried (length trace) at (progress_of trace tables w₀ g) i
  none z =
      ap ok (as_before q (s.progress ∙ after_none at g (length s.outputs) (length ys) z))
      ∙ rw s.same (sym (tried-none (length trace) at (progress_of trace tables w₀ g) s.outputs s.end z))
    where
      bytes : trace' ≡ trace
      bytes = put ∙ ap (sets trace g.used) (no-records at s.outputs z)

      shown : rules_shown (atomics_in tables) w ≡ rules_shown (atomics_in tables) w₀
      shown = rules-none (atomics_in tables) w₀ w s.outputs s.end left-rules z

      as_before : (b : Progress) → b ≡ g → progress_of trace' tables w b ≡ progress_of trace tables w₀ g
      as_before b e = unfold progress_of rules_by in (rw (e, bytes) (λ j. record {
        opening = g.opening.0;
        state = (left ∙ idle z) j;
        instants = g.instants;
        steps = g.steps;
        trace = take g.used trace;
        rules = cond (eqb g.instants 0) [] (shown j);
      }))

  front : length (take g.used trace ++ ys) ≡ g.used + length ys
  front = omega (arith, length-append (take g.used trace) ys, length-take-le g.used trace (omega (arith, s.within)))

  some : (length s.outputs ≡ 0 → ⊥) → tried_of trace' tables w (Ok q) ≡ tried (length trace) at (progress_of trace tables w₀ g) i
  unfolding progress_of rules_by
  some z =
      let o : at + 1 ≡ suc at = omega arith in
      let j : g.instants + 1 ≡ suc g.instants = omega arith in
      let on = s.progress ∙ after-some at g (length s.outputs) (length ys) z in
      let one : eqb (suc g.instants) 0 ≡ false = ne_eqb (suc g.instants) 0 (λ e. omega arith) in
      let told = rules-some (atomics_in tables) w₀ w s.outputs s.end left-rules z in
      rw (on, left, o, j, one, told, put, take-sets trace ys g.used s.within, s.same)
      (sym (tried-stands (length trace) at (progress_of trace tables w₀ g) s.outputs s.end z (omega (arith, front, s.within))))

  same-tried : tried_of trace' tables w (Ok q) ≡ tried (length trace) at (progress_of trace tables w₀ g) i
  same-tried = go (eqb (length s.outputs) 0) refl
    where
      go : (b : Bool) → eqb (length s.outputs) 0 ≡ b → tried_of trace' tables w (Ok q) ≡ tried (length trace) at (progress_of trace tables w₀ g) i
      go true e = none (eqb-true (length s.outputs) 0 e)
      go false e = some (eqb-false (length s.outputs) 0 e)

  counts : (q.instants ≤ g.instants + 1) × (q.steps ≤ g.steps + max_steps) × (q.steps ≤ turn.has)
  unfolding after_of
  counts = rw s.progress (go (eqb (length s.outputs) 0))
    where
      on : Progress
      on = record { opening = record { 0 = at + 1 }; instants = g.instants + 1; steps = g.steps + length s.outputs; used = g.used + length ys }

      go : (b : Bool) → ((cond b g on).instants ≤ g.instants + 1) × ((cond b g on).steps ≤ g.steps + max_steps) × ((cond b g on).steps ≤ turn.has)
      go true = (omega arith, omega arith, omega (arith, s.enough))
      go false = (omega arith, omega (arith, s.few), s.enough)

  same : tried_of trace' tables w (Ok q) ≡ tried_within turn.has (length trace) at (progress_of trace tables w₀ g) i
  same =
      let steps : (progress_of trace' tables w q).steps ≡ q.steps = unfold progress_of in refl in
      sym (within-ok turn.has (length trace) at (progress_of trace tables w₀ g) i _ (sym same-tried) (omega (arith, steps, counts.2)))

  pub stands-tried : (phases : List ℕ) → Ready phases tables w → TriedWithin phases tables turn w₀ w trace trace' i (Ok q)
  stands-tried phases ready =
      let u = used-of s in record {
        same = same;
        beyond = record {
          within = omega (arith, u, s.within);
          size = rw put (length-sets trace g.used ys);
          same = rw (u, put) (drop-sets trace ys g.used s.within);
        };
        undone = tt;
        more = omega (arith, u);
        instants = counts.0;
        steps = counts.1;
        ready = ready;
      }
