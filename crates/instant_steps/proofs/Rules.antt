-- The rules that the words show while the steps of an instant are taken, one step after the other over those of before; and after an instant that
-- began with none. Assumes nothing.
use mathlib.Core.Path.{◌≡◌, refl, sym, ap, ◌∙◌, subst}
use mathlib.Core.Logic.{◌⊎◌, inl, inr}
use Prim.Native.Nat.{ℕ, zero, suc, ◌≤◌, ◌<◌}
use mathlib.Core.List.{List, [], ◌∷◌, ◌++◌}
use mathlib.Core.Bool.{Bool, true, false, ◌||◌, not, cond}
use native.Mathlib.Omega.{arith}
use lib.Dec.{eqb}
use lib.ListN.{length, take, replicate, length-replicate}
use lib.Seq.{length-take-le}
use Rattle.definition.specs.Lists.{is_empty}
use Rattle.definition.specs.Bytes.{Bytes}
use Rattle.definition.specs.Limits.{no_position}
use Rattle.definition.specs.Model.{Bag}
use Rattle.definition.specs.Step.{Output, Simulator}
use Rattle.definition.specs.Instant.{Instant, done, jammed, stepped, goes_on, steps_at, instant, last_parts, instant_parts, instant_rules}
use Rattle.law_base.proofs.Tests.{clash}
use Rattle.law_base.specs.Overlaid.{overlaid, put_parts}
use Rattle.law_base.proofs.Overlaid.{overlaid-none, overlaid-again, overlaid-blank, take_put, parts-snoc, parts-length}
use Rattle.definition.specs.Engine.{to_bag}
use Rattle.clock.specs.Times.{latest}
use Rattle.run_state.specs.declared.State.{State}
use Rattle.run_state.specs.Held.{held_in, last_rules_in, next_in}
use Rattle.spec_step.specs.Tables.{atomics_in}
use Rattle.instant_steps.specs.Sim.{sim_of, instant_of, Ready, rules_shown, Begun}
use Rattle.instant_steps.proofs.Sofar.{goes-as}
use Rattle.instant_steps.specs.Verdicts.{RulesOver, Overlays, RulesLeft}

module _ (n : ℕ) where
  shown-length : (w : List ℕ) → n ≤ length (last_rules_in w) → length (rules_shown n w) ≡ n
  unfolding rules_shown
  shown-length w l = length-take-le n (last_rules_in w) l

  -- before the first step
  pub rules-none : (w : List ℕ) → RulesOver n w w []
  unfolding instant_parts
  rules-none w = record { shown = sym (overlaid-none (rules_shown n w)); each = inr refl }

  -- one step more
  pub rules-more : (w₀ w w' : List ℕ) (xs : List Output) (x : Output) → n ≤ length (last_rules_in w₀) → n ≤ length (last_rules_in w) → length x.decided ≡ n
      → last_rules_in w' ≡ put_parts (last_rules_in w) 0 x.decided → RulesOver n w₀ w xs → RulesOver n w₀ w' (xs ++ (x ∷ []))
  unfolding rules_shown
  rules-more w₀ w w' xs x l₀ l e put h = record {
    shown =
        ap (take n) put ∙ take_put n (last_rules_in w) x.decided e l ∙ ap (λ is. overlaid is x.decided) h.shown
        ∙ overlaid-again (rules_shown n w₀) (instant_parts xs) x.decided (as_many h.each) ∙ ap (overlaid (rules_shown n w₀)) (sym (parts-snoc xs x));
    each = inl (ap length (parts-snoc xs x) ∙ grown h.each);
  }
    where
      as_many : (length (instant_parts xs) ≡ n) ⊎ (xs ≡ []) → (length (instant_parts xs) ≡ length (rules_shown n w₀)) ⊎ (instant_parts xs ≡ [])
      as_many (inl q) = inl (q ∙ sym (shown-length w₀ l₀))
      as_many (inr q) = inr (ap instant_parts q ∙ (unfold instant_parts in refl))

      grown : (length (instant_parts xs) ≡ n) ⊎ (xs ≡ []) → length (last_parts (instant_parts xs) x.decided) ≡ n
      grown (inl q) = parts-length n (instant_parts xs) x.decided q (inl e)
      grown (inr q) = ap (λ ys. length (last_parts (instant_parts ys) x.decided)) q ∙ (unfold instant_parts last_parts in e)

  -- ---- after an instant that began with none

  take-replicate : (m k v : ℕ) → m ≤ k → take m (replicate k v) ≡ replicate m v
  take-replicate zero k v h = refl
  take-replicate (suc m) zero v h = absurd (omega arith)
  take-replicate (suc m) (suc k) v h = ap (λ l. v ∷ l) (take-replicate m k v (omega arith))

  -- none of the first n
  blank : (w₀ w : List ℕ) → n ≤ length (last_rules_in w₀) → last_rules_in w ≡ replicate (length (last_rules_in w₀)) no_position → rules_shown n w ≡ replicate n no_position
  unfolding rules_shown
  blank w₀ w l e = ap (take n) e ∙ take-replicate n (length (last_rules_in w₀)) no_position l

  module _ (k : Simulator State) (now : ℕ) (x : Bag) (st : State) where
    abbrev Goes : Bool → Instant State → Type 0
    Goes b jammed = b ≡ true
    Goes b (done [] s) = b ≡ false
    Goes b (done (y ∷ ys) s) = b ≡ true

    some-step : (y : Output) (i : Instant State) → Goes true (stepped y i)
    unfolding stepped
    some-step y jammed = refl
    some-step y (done ys s) = refl

    -- an instant has a step just where one is taken at its beginning
    goes : Goes (goes_on k now x st) (instant k now x st)
    unfolding instant steps_at
    goes = go (goes_on k now x st) (some-step _ _)
      where
        on : Instant State
        on = stepped (k.step now x st).out (steps_at k 1023 now [] (k.step now x st).state)

        go : (b : Bool) → Goes true on → Goes b (cond b on (done [] st))
        go true h = h
        go false h = refl

    pub rules-left : (w₀ w₁ w : List ℕ) → n ≤ length (last_rules_in w₀)
        → last_rules_in w₁ ≡ cond (goes_on k now x st) (replicate (length (last_rules_in w₀)) no_position) (last_rules_in w₀)
        → Overlays n w₁ w (instant k now x st) → RulesLeft n w₀ w (instant k now x st)
    rules-left w₀ w₁ w l begun = go (goes_on k now x st) (instant k now x st) goes begun
      where
        no-parts : overlaid (rules_shown n w₁) (instant_parts []) ≡ rules_shown n w₁
        no-parts = unfold instant_parts in (overlaid-none (rules_shown n w₁))

        same : last_rules_in w₁ ≡ last_rules_in w₀ → rules_shown n w₁ ≡ rules_shown n w₀
        same e = unfold rules_shown in (ap (take n) e)

        go : (b : Bool) (i : Instant State) → Goes b i → last_rules_in w₁ ≡ cond b (replicate (length (last_rules_in w₀)) no_position) (last_rules_in w₀)
            → Overlays n w₁ w i → RulesLeft n w₀ w i
        go b jammed g e h = tt
        go true (done [] s) g e h = absurd (clash refl g)
        go false (done [] s) g e h = h.shown ∙ no-parts ∙ same e
        go false (done (y ∷ ys) s) g e h = absurd (clash g refl)
        go true (done (y ∷ ys) s) g e h = h.shown ∙ ap (λ is. overlaid is (instant_parts (y ∷ ys))) (blank w₀ w₁ l e) ∙ told h.each
          where
            told : (length (instant_parts (y ∷ ys)) ≡ n) ⊎ (y ∷ ys ≡ []) → overlaid (replicate n no_position) (instant_parts (y ∷ ys)) ≡ instant_rules (y ∷ ys)
            told (inl q) = overlaid-blank n (instant_parts (y ∷ ys)) q ∙ (unfold instant_rules in refl)
            told (inr q) = absurd (omega (arith, ap length q))

-- From the words before it: what is said of the steps is said of the instant.
pub begun-left : (phases rules tables : List ℕ) (room now : ℕ) (given : Bytes) (w₀ w₁ w : List ℕ) → atomics_in tables ≤ length (last_rules_in w₀) → now < latest
    → Ready phases tables w₀ → Begun now given w₀ w₁ → (P : Instant State → Type 0)
    → P (instant_of phases rules tables room now given w₁) × Overlays (atomics_in tables) w₁ w (instant_of phases rules tables room now given w₁)
    → P (instant_of phases rules tables room now given w₀) × RulesLeft (atomics_in tables) w₀ w (instant_of phases rules tables room now given w₀)
begun-left phases rules tables room now given w₀ w₁ w l early ready b P h =
    let n = atomics_in tables in
    let k = sim_of phases rules tables room in
    let x = to_bag given in
    let all = subst (λ (st : State). P (instant k now x st) × Overlays n w₁ w (instant k now x st)) b.held h in
    let goes = goes-as phases rules tables room now x w₀ early ready in
    (all.0, rules-left n k now x (held_in w₀) w₀ w₁ w l (rw goes b.rules) all.1)

-- The words after its beginning are as ready.
pub begun-ready : (phases tables : List ℕ) (now : ℕ) (given : Bytes) (w₀ w₁ : List ℕ) → Begun now given w₀ w₁ → Ready phases tables w₀ → Ready phases tables w₁
begun-ready phases tables now given w₀ w₁ b r = record { carried = rw (b.held, b.ends) r.carried; next = b.next ∙ rw b.held r.next }

pub begun-length : (now : ℕ) (given : Bytes) (w₀ w₁ : List ℕ) → Begun now given w₀ w₁ → length (last_rules_in w₁) ≡ length (last_rules_in w₀)
begun-length now given w₀ w₁ b = ap length b.rules ∙ go (eqb (next_in w₀) now || not (is_empty (to_bag given)))
  where
    go : (t : Bool) → length (cond t (replicate (length (last_rules_in w₀)) no_position) (last_rules_in w₀)) ≡ length (last_rules_in w₀)
    go true = length-replicate (length (last_rules_in w₀)) no_position
    go false = refl
