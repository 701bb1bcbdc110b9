-- Two simulators whose states are related, and stay so by every step, answer every advance alike. This one lemma carries the resultant from
-- event to event, the engine to the flat machine, the order of a given bag, and whatever an advance keeps. Assumes nothing.
use mathlib.Core.Path.{◌≡◌, refl, ap, ap₂, subst}
use Prim.Native.Nat.{ℕ, zero, suc, ◌+◌, ◌≤◌, ◌<◌}
use mathlib.Core.List.{[], ◌∷◌, ◌++◌}
use mathlib.Core.Bool.{Bool, true, false, ◌||◌, not, cond}
use native.Mathlib.Omega.{arith}
use lib.Dec.{ltb}
use lib.ListN.{length}
use borrow.Author.Tests.{ltb-true, ltb-false, leb-true, le-leb}
use Rattle.definition.specs.Lists.{is_empty}
use Rattle.definition.specs.Limits.{max_steps}
use Rattle.definition.specs.Bytes.{Result, ok, refused, refuse_if, ◌>>=◌}
use Rattle.definition.specs.Model.{Bag}
use Rattle.definition.specs.Devs.{Time, finite, never, same_time, ticks}
use Rattle.definition.specs.SavedRun.{not_before}
use Rattle.definition.specs.Step.{Output, Simulator}
use Rattle.definition.specs.Instant.{Instant, done, jammed, stepped, is_due, goes_on, steps_at, instant, instant_trace}
use Rattle.definition.specs.Advance.{Progress, Ended, ended, tried, continued, succeeded, is_before, advancing, advance_from}
use Rattle.law_base.proofs.Tests.{clash}
use Rattle.law_calls.proofs.SameBags.{SameOutput, SameAll, rules-same, records-same, length-same}

-- ---- the next moment: where it lies before t, and where it does not

pub before-t : (t now : ℕ) (u : Time) → not_before now u ≡ true → is_before u t ≡ true → (now ≤ ticks u) × (ticks u < t) × (not_before (ticks u) u ≡ true)
unfolding not_before is_before ticks
before-t t now (finite a) h e = (leb-true now a h, ltb-true a t e, le-leb a a (omega arith))
before-t t now never h e = absurd (clash e refl)

pub not-before-t : (t : ℕ) (u : Time) → is_before u t ≡ false → not_before t u ≡ true
unfolding not_before is_before
not-before-t t (finite a) e = le-leb t a (ltb-false a t e)
not-before-t t never e = refl

module _ {S₁ S₂ : Type 0} where
  -- What is asked: states related during the instant at a moment (`At`), and between instants where all before an open moment is done
  -- (`Between`); given bags that are alike (`Fine`).
  pub record Agree (At Between : ℕ → S₁ → S₂ → Type 0) (Fine : Bag → Bag → Type 0) (k₁ : Simulator S₁) (k₂ : Simulator S₂) : Type 0 where
    pub same_next : (now : ℕ) (s : S₁) (q : S₂) → At now s q → k₁.next s ≡ k₂.next q
    pub fine_none : Fine [] []
    pub fine_empty : (x y : Bag) → Fine x y → is_empty x ≡ is_empty y
    pub same_out : (now : ℕ) (x y : Bag) (s : S₁) (q : S₂) → At now s q → Fine x y → SameOutput (k₁.step now x s).out (k₂.step now y q).out
    pub steps : (now : ℕ) (x y : Bag) (s : S₁) (q : S₂) → At now s q → Fine x y → At now (k₁.step now x s).state (k₂.step now y q).state
    -- nothing is due before the open moment
    pub early : (o : ℕ) (s : S₁) (q : S₂) → Between o s q → not_before o (k₁.next s) ≡ true
    -- an instant begins at a moment before which nothing is due, and ends where nothing is due there any more
    pub opens : (o u : ℕ) (s : S₁) (q : S₂) → Between o s q → o ≤ u → not_before u (k₁.next s) ≡ true → At u s q
    pub closes : (now : ℕ) (s : S₁) (q : S₂) → At now s q → is_due k₁ now s ≡ false → Between (suc now) s q

  -- Two calls have come as far: states related at the open moment, and all else equal.
  pub record Alike (Between : ℕ → S₁ → S₂ → Type 0) (p : Progress S₁) (q : Progress S₂) : Type 0 where
    pub opening : p.opening ≡ q.opening
    pub state : Between p.opening p.state q.state
    pub instants : p.instants ≡ q.instants
    pub steps : p.steps ≡ q.steps
    pub trace : p.trace ≡ q.trace
    pub rules : p.rules ≡ q.rules

  -- Two calls to t end alike.
  abbrev pub EndsAlike : (ℕ → S₁ → S₂ → Type 0) → ℕ → Ended S₁ → Ended S₂ → Type 0
  EndsAlike Between t a b = (a.number ≡ b.number) × Alike Between a.progress b.progress × (a.progress.opening ≤ suc t)

  module _ {At Between : ℕ → S₁ → S₂ → Type 0} {Fine : Bag → Bag → Type 0} {k₁ : Simulator S₁} {k₂ : Simulator S₂} (k : Agree At Between Fine k₁ k₂) where
    -- ---- an instant

    -- Two instants end alike: their states are related and nothing is due there; where no step was taken, they are those of the beginning.
    abbrev pub SameInstant : ℕ → S₁ → S₂ → Instant S₁ → Instant S₂ → Type 0
    SameInstant now s₀ q₀ jammed jammed = Unit {0}
    SameInstant now s₀ q₀ jammed (done ys q) = ⊥
    SameInstant now s₀ q₀ (done xs s) jammed = ⊥
    SameInstant now s₀ q₀ (done [] s) (done [] q) = (s ≡ s₀) × (q ≡ q₀) × At now s q × (is_due k₁ now s ≡ false)
    SameInstant now s₀ q₀ (done [] s) (done (y ∷ ys) q) = ⊥
    SameInstant now s₀ q₀ (done (x ∷ xs) s) (done [] q) = ⊥
    SameInstant now s₀ q₀ (done (x ∷ xs) s) (done (y ∷ ys) q) = SameAll (x ∷ xs) (y ∷ ys) × At now s q × (is_due k₁ now s ≡ false)

    -- a step before
    same-stepped : (now : ℕ) (s₀ s₁ : S₁) (q₀ q₁ : S₂) (x y : Output) (i : Instant S₁) (j : Instant S₂) → SameOutput x y → SameInstant now s₁ q₁ i j
        → SameInstant now s₀ q₀ (stepped x i) (stepped y j)
    unfolding stepped
    same-stepped now s₀ s₁ q₀ q₁ x y jammed jammed b h = tt
    same-stepped now s₀ s₁ q₀ q₁ x y jammed (done ys q) b h = absurd h
    same-stepped now s₀ s₁ q₀ q₁ x y (done [] s) jammed b h = absurd h
    same-stepped now s₀ s₁ q₀ q₁ x y (done (v ∷ xs) s) jammed b h = absurd h
    same-stepped now s₀ s₁ q₀ q₁ x y (done [] s) (done [] q) b h = ((b, tt), h.2, h.3)
    same-stepped now s₀ s₁ q₀ q₁ x y (done [] s) (done (w ∷ ys) q) b h = absurd h
    same-stepped now s₀ s₁ q₀ q₁ x y (done (v ∷ xs) s) (done [] q) b h = absurd h
    same-stepped now s₀ s₁ q₀ q₁ x y (done (v ∷ xs) s) (done (w ∷ ys) q) b h = ((b, h.0), h.1, h.2)

    same-goes : (now : ℕ) (x y : Bag) (s : S₁) (q : S₂) → At now s q → Fine x y → goes_on k₁ now x s ≡ goes_on k₂ now y q
    unfolding goes_on is_due
    same-goes now x y s q g f = ap₂ (λ u b. same_time u (finite now) || not b) (k.same_next now s q g) (k.fine_empty x y f)

    not_going : (now : ℕ) (x : Bag) (s : S₁) → goes_on k₁ now x s ≡ false → is_due k₁ now s ≡ false
    unfolding goes_on
    not_going now x s e = go (is_due k₁ now s) (not (is_empty x)) e
      where
        go : (a b : Bool) → a || b ≡ false → a ≡ false
        go true b e = e
        go false b e = refl

    steps-same : (n now : ℕ) (x y : Bag) (s : S₁) (q : S₂) → At now s q → Fine x y → SameInstant now s q (steps_at k₁ n now x s) (steps_at k₂ n now y q)
    unfolding steps_at
    steps-same zero now x y s q g f = rw (← same-goes now x y s q g f) (go (goes_on k₁ now x s) refl)
      where
        go : (b : Bool) → goes_on k₁ now x s ≡ b → SameInstant now s q (cond b jammed (done [] s)) (cond b jammed (done [] q))
        go true e = tt
        go false e = (refl, refl, g, not_going now x s e)
    steps-same (suc n) now x y s q g f =
        rw (← same-goes now x y s q g f)
        (go (goes_on k₁ now x s) refl _ _ (same-stepped now s _ q _ _ _ _ _ (k.same_out now x y s q g f) (steps-same n now [] [] _ _ (k.steps now x y s q g f) k.fine_none)))
      where
        go : (b : Bool) → goes_on k₁ now x s ≡ b → (i : Instant S₁) (j : Instant S₂) → SameInstant now s q i j → SameInstant now s q (cond b i (done [] s)) (cond b j (done [] q))
        go true e i j h = h
        go false e i j h = (refl, refl, g, not_going now x s e)

    pub instant-same : (now : ℕ) (x y : Bag) (s : S₁) (q : S₂) → At now s q → Fine x y → SameInstant now s q (instant k₁ now x s) (instant k₂ now y q)
    unfolding instant
    instant-same now x y s q g f = steps-same max_steps now x y s q g f

    -- ---- the verdict on it

    -- What stands after the instant at `now`, done or idle: nothing is due there any more.
    abbrev pub AlikeAfter : ℕ → Result (Progress S₁) → Result (Progress S₂) → Type 0
    AlikeAfter now (ok p) (ok q) = Alike Between p q × (p.opening ≤ suc now) × Between (suc now) p.state q.state
    AlikeAfter now (ok p) (refused n) = ⊥
    AlikeAfter now (refused n) (ok q) = ⊥
    AlikeAfter now (refused n) (refused j) = n ≡ j

    pub tried-alike : (room now : ℕ) (p : Progress S₁) (q : Progress S₂) (i : Instant S₁) (j : Instant S₂) → Alike Between p q → p.opening ≤ now
        → SameInstant now p.state q.state i j → AlikeAfter now (tried room now p i) (tried room now q j)
    unfolding tried
    tried-alike room now p q jammed jammed a o h = refl
    tried-alike room now p q jammed (done ys s') a o h = absurd h
    tried-alike room now p q (done [] s) jammed a o h = absurd h
    tried-alike room now p q (done (x ∷ xs) s) jammed a o h = absurd h
    tried-alike room now p q (done [] s) (done (y ∷ ys) s') a o h = absurd h
    tried-alike room now p q (done (x ∷ xs) s) (done [] s') a o h = absurd h
    tried-alike room now p q (done [] s) (done [] s') a o h =
        (a, omega arith, subst (λ z. Between (suc now) z q.state) h.0 (subst (λ z. Between (suc now) s z) h.1 (k.closes now s s' h.2 h.3)))
    tried-alike room now p q (done (x ∷ xs) s) (done (y ∷ ys) s') a o h =
        let tail = ap₂ ◌++◌ a.trace (records-same now (x ∷ xs) (y ∷ ys) h.0) in
        let b = k.closes now s s' h.1 h.2 in
        rw (← tail)
        (go (ltb room (length (p.trace ++ instant_trace now (x ∷ xs)))) _ _ (
          record {
            opening = refl;
            state = b;
            instants = ap suc a.instants;
            steps = ap₂ ◌+◌ a.steps (length-same (x ∷ xs) (y ∷ ys) h.0);
            trace = refl;
            rules = rules-same (x ∷ xs) (y ∷ ys) h.0;
          },
          omega arith,
          b,
        ))
      where
        go : (c : Bool) (p : Progress S₁) (q : Progress S₂) → Alike Between p q × (p.opening ≤ suc now) × Between (suc now) p.state q.state
            → AlikeAfter now (refuse_if c 15 >>= λ _. ok p) (refuse_if c 15 >>= λ _. ok q)
        go true p q h = refl
        go false p q h = h

    -- ---- the instants of a call

    pub continued-alike : (t now : ℕ) (f₁ : Progress S₁ → Ended S₁) (f₂ : Progress S₂ → Ended S₂) (p : Progress S₁) (q : Progress S₂) (r₁ : Result (Progress S₁)) (r₂ : Result (Progress S₂))
        → Alike Between p q → p.opening ≤ t → AlikeAfter now r₁ r₂
        → ((p : Progress S₁) (q : Progress S₂) → Alike Between p q × (p.opening ≤ suc now) × Between (suc now) p.state q.state → EndsAlike Between t (f₁ p) (f₂ q))
        → EndsAlike Between t (continued f₁ p r₁) (continued f₂ q r₂)
    unfolding continued ended
    continued-alike t now f₁ f₂ p q (ok p') (ok q') a o h on = on p' q' h
    continued-alike t now f₁ f₂ p q (ok p') (refused n) a o h on = absurd h
    continued-alike t now f₁ f₂ p q (refused n) (ok q') a o h on = absurd h
    continued-alike t now f₁ f₂ p q (refused n) (refused j) a o h on = (h, a, omega arith)

    pub succeeded-alike : (t : ℕ) (p : Progress S₁) (q : Progress S₂) → Alike Between p q × (p.opening ≤ suc t) × Between (suc t) p.state q.state
        → EndsAlike Between t (succeeded t p) (succeeded t q)
    unfolding succeeded ended
    succeeded-alike t p q h = (refl, record { opening = refl; state = h.2; instants = h.0.instants; steps = h.0.steps; trace = h.0.trace; rules = h.0.rules }, omega arith)

    module _ (room t : ℕ) (x y : Bag) (fine : Fine x y) where
      pub advancing-alike : (n : ℕ) (p : Progress S₁) (q : Progress S₂) → Alike Between p q → p.opening ≤ t
          → EndsAlike Between t (advancing k₁ room t x n p) (advancing k₂ room t y n q)
      unfolding advancing ended
      advancing-alike zero p q a o = (refl, a, omega arith)
      advancing-alike (suc n) p q a o =
          rw (← k.same_next p.opening p.state q.state here) (go (is_before u t) refl (λ p' q' b l. advancing-alike n p' q' b l))
        where
          u : Time
          u = k₁.next p.state

          here : At p.opening p.state q.state
          here = k.opens p.opening p.opening p.state q.state a.state (omega arith) (k.early p.opening p.state q.state a.state)

          go : (b : Bool) → is_before u t ≡ b
              → ((p : Progress S₁) (q : Progress S₂) → Alike Between p q → p.opening ≤ t → EndsAlike Between t (advancing k₁ room t x n p) (advancing k₂ room t y n q))
              → EndsAlike Between t
              (cond b (continued (λ r. advancing k₁ room t x n r) p (tried room (ticks u) p (instant k₁ (ticks u) [] p.state)))
              (continued (succeeded t) p (tried room t p (instant k₁ t x p.state))))
              (cond b (continued (λ r. advancing k₂ room t y n r) q (tried room (ticks u) q (instant k₂ (ticks u) [] q.state)))
              (continued (succeeded t) q (tried room t q (instant k₂ t y q.state))))
          go true e ih =
              let b = before-t t p.opening u (k.early p.opening p.state q.state a.state) e in
              let at = k.opens p.opening (ticks u) p.state q.state a.state b.0 b.2 in
              continued-alike t (ticks u) _ _ p q _ _ a o
              (tried-alike room (ticks u) p q _ _ a b.0 (instant-same (ticks u) [] [] p.state q.state at k.fine_none))
              (λ p' q' h. ih p' q' h.0 (omega (arith, h.1, b.1)))
          go false e ih =
              let at = k.opens p.opening t p.state q.state a.state o (not-before-t t u e) in
              continued-alike t t _ _ p q _ _ a o
              (tried-alike room t p q _ _ a o (instant-same t x y p.state q.state at fine)) (succeeded-alike t)

      pub advance-alike : (o : ℕ) (s : S₁) (q : S₂) → Between o s q → o ≤ t → EndsAlike Between t (advance_from k₁ room t x o s) (advance_from k₂ room t y o q)
      unfolding advance_from
      advance-alike o s q b l = advancing-alike (suc t) _ _ (record { opening = refl; state = b; instants = refl; steps = refl; trace = refl; rules = refl }) l

-- Where related states are equal, so are the ends.
pub ends-equal : {S : Type 0} {Between : ℕ → S → S → Type 0} {t : ℕ} (a b : Ended S) → ((o : ℕ) (s q : S) → Between o s q → s ≡ q) → EndsAlike Between t a b → a ≡ b
ends-equal a b same h =
    let p = h.1 in
    let e = same a.progress.opening a.progress.state b.progress.state p.state in
    λ i. record {
      number = h.0 i;
      progress = record { opening = p.opening i; state = e i; instants = p.instants i; steps = p.steps i; trace = p.trace i; rules = p.rules i };
    }
