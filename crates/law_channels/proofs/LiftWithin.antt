-- Two simulators whose states are related, and stay so by every step, answer every channel's turn alike: as `Lift` has it of an advance, for the
-- loop of a channel that has so many steps. Assumes nothing.
use mathlib.Core.Path.{◌≡◌, refl, subst}
use Prim.Native.Nat.{ℕ, zero, suc, ◌≤◌}
use mathlib.Core.List.{[]}
use mathlib.Core.Bool.{Bool, true, false, cond}
use native.Mathlib.Omega.{arith}
use lib.Dec.{ltb}
use Rattle.definition.specs.Bytes.{Result, ok, refused, refuse_if, ◌>>=◌}
use Rattle.definition.specs.Model.{Bag}
use Rattle.definition.specs.Devs.{Time, ticks}
use Rattle.definition.specs.Step.{Simulator}
use Rattle.definition.specs.Instant.{Instant, instant}
use Rattle.definition.specs.Advance.{Progress, ended, tried, continued, succeeded, is_before}
use Rattle.definition.specs.Channels.{tried_within, advancing_within, advance_within}
use Rattle.law_calls.proofs.Lift.{before-t, not-before-t, Agree, Alike, EndsAlike, SameInstant, instant-same, AlikeAfter, tried-alike, continued-alike, succeeded-alike}

module _ {S₁ S₂ : Type 0} {At Between : ℕ → S₁ → S₂ → Type 0} {Fine : Bag → Bag → Type 0} {k₁ : Simulator S₁} {k₂ : Simulator S₂} (k : Agree At Between Fine k₁ k₂) (has : ℕ) where
  -- the verdict on an instant
  pub tried-within-alike : (room now : ℕ) (p : Progress S₁) (q : Progress S₂) (i : Instant S₁) (j : Instant S₂) → Alike Between p q → p.opening ≤ now
      → SameInstant k now p.state q.state i j → AlikeAfter k now (tried_within has room now p i) (tried_within has room now q j)
  unfolding tried_within
  tried-within-alike room now p q i j a o h = go (tried room now p i) (tried room now q j) (tried-alike k room now p q i j a o h)
    where
      pick : (b : Bool) (p : Progress S₁) (q : Progress S₂) → AlikeAfter k now (ok p) (ok q) → AlikeAfter k now (refuse_if b 22 >>= λ _. ok p) (refuse_if b 22 >>= λ _. ok q)
      pick true p q h = refl
      pick false p q h = h

      go : (r₁ : Result (Progress S₁)) (r₂ : Result (Progress S₂)) → AlikeAfter k now r₁ r₂
          → AlikeAfter k now (r₁ >>= λ p. refuse_if (ltb has p.steps) 22 >>= λ _. ok p) (r₂ >>= λ q. refuse_if (ltb has q.steps) 22 >>= λ _. ok q)
      go (ok p) (ok q) h =
          subst (λ n. AlikeAfter k now (refuse_if (ltb has p.steps) 22 >>= λ _. ok p) (refuse_if (ltb has n) 22 >>= λ _. ok q)) h.0.steps (pick (ltb has p.steps) p q h)
      go (ok p) (refused n) h = absurd h
      go (refused n) (ok q) h = absurd h
      go (refused n) (refused j) h = h

  module _ (room t : ℕ) (x y : Bag) (fine : Fine x y) where
    pub advancing-within-alike : (n : ℕ) (p : Progress S₁) (q : Progress S₂) → Alike Between p q → p.opening ≤ t
        → EndsAlike Between t (advancing_within k₁ has room t x n p) (advancing_within k₂ has room t y n q)
    unfolding advancing_within ended
    advancing-within-alike zero p q a o = (refl, a, omega arith)
    advancing-within-alike (suc n) p q a o =
        rw (← k.same_next p.opening p.state q.state here) (go (is_before u t) refl (λ p' q' b l. advancing-within-alike n p' q' b l))
      where
        u : Time
        u = k₁.next p.state

        here : At p.opening p.state q.state
        here = k.opens p.opening p.opening p.state q.state a.state (omega arith) (k.early p.opening p.state q.state a.state)

        go : (b : Bool) → is_before u t ≡ b
            → ((p : Progress S₁) (q : Progress S₂) → Alike Between p q → p.opening ≤ t → EndsAlike Between t (advancing_within k₁ has room t x n p) (advancing_within k₂ has room t y n q))
            → EndsAlike Between t
            (cond b (continued (λ r. advancing_within k₁ has room t x n r) p (tried_within has room (ticks u) p (instant k₁ (ticks u) [] p.state)))
            (continued (succeeded t) p (tried_within has room t p (instant k₁ t x p.state))))
            (cond b (continued (λ r. advancing_within k₂ has room t y n r) q (tried_within has room (ticks u) q (instant k₂ (ticks u) [] q.state)))
            (continued (succeeded t) q (tried_within has room t q (instant k₂ t y q.state))))
        go true e ih =
            let b = before-t t p.opening u (k.early p.opening p.state q.state a.state) e in
            let at = k.opens p.opening (ticks u) p.state q.state a.state b.0 b.2 in
            continued-alike k t (ticks u) _ _ p q _ _ a o
            (tried-within-alike room (ticks u) p q _ _ a b.0 (instant-same k (ticks u) [] [] p.state q.state at k.fine_none))
            (λ p' q' h. ih p' q' h.0 (omega (arith, h.1, b.1)))
        go false e ih =
            let at = k.opens p.opening t p.state q.state a.state o (not-before-t t u e) in
            continued-alike k t t _ _ p q _ _ a o
            (tried-within-alike room t p q _ _ a o (instant-same k t x y p.state q.state at fine)) (succeeded-alike k t)

    pub advance-within-alike : (o : ℕ) (s : S₁) (q : S₂) → Between o s q → o ≤ t → EndsAlike Between t (advance_within k₁ has room t x o s) (advance_within k₂ has room t y o q)
    unfolding advance_within
    advance-within-alike o s q b l = advancing-within-alike (suc t) _ _ (record { opening = refl; state = b; instants = refl; steps = refl; trace = refl; rules = refl }) l
