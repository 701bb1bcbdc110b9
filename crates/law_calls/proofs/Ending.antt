-- An advance ends as the relation `Ends` tells, and in no other way: the turns of the loop are enough, since each instant before t opens a later
-- moment. Assumes nothing.
use mathlib.Core.Path.{◌≡◌, refl, sym, ap, ◌∙◌, subst}
use mathlib.Core.Logic.{◌⊎◌, inl, inr}
use Prim.Native.Nat.{ℕ, zero, suc, ◌+◌, ◌≤◌, ◌<◌}
use mathlib.Core.List.{List, [], ◌∷◌, ◌++◌}
use mathlib.Core.Bool.{Bool, true, false}
use native.Mathlib.Omega.{arith}
use lib.Dec.{ltb}
use lib.ListN.{length}
use borrow.Author.Tests.{leb-true, le-leb, ltb-true, ltb-false, lt-ltb, eq-eqb}
use Rattle.definition.specs.Bytes.{Result, ok, refused}
use Rattle.definition.specs.Model.{Bag}
use Rattle.definition.specs.Devs.{Time, finite, never, same_time, ticks}
use Rattle.definition.specs.SavedRun.{not_before}
use Rattle.definition.specs.Step.{Output, Simulator}
use Rattle.definition.specs.Instant.{Instant, done, jammed, is_due, goes_on, instant, instant_trace}
use Rattle.definition.specs.Advance.{Progress, Ended, ended, tried, continued, succeeded, is_before, advancing}
use Rattle.definition.specs.AdvanceRelation.{Whole, Next, before, at_end, with_instant, Ends, jams, overruns, continues, succeeds, idle}
use Rattle.law_base.proofs.Tests.{clash}
use Rattle.law_base.proofs.Turns.{tried-jams, tried-full, tried-stands, last_turn}
use Rattle.law_calls.proofs.Lift.{before-t, Agree, SameInstant, instant-same}
use Rattle.law_calls.proofs.Instants.{Settled, settled, whole-instant, jams-instant}

pub at-moment : (t : ℕ) (u : Time) → is_before u t ≡ true → u ≡ finite (ticks u)
unfolding is_before ticks
at-moment t (finite a) e = refl
at-moment t never e = absurd (clash e refl)

module _ {S : Type 0} (k : Simulator S) where
  goes-due : (u : ℕ) (s : S) → k.next s ≡ finite u → goes_on k u [] s ≡ true
  unfolding goes_on is_due same_time
  goes-due u s e = rw (e, eq-eqb u u refl)

  -- where something is due, a step is taken
  pub some-step : (u : ℕ) (s s' : S) → k.next s ≡ finite u → Whole k u [] s [] s' → ⊥
  some-step u s s' e h = clash (goes-due u s e) (ap (goes_on k u []) h.steps ∙ h.finished)

  module _ (room t : ℕ) (x : Bag) where
    -- ---- one turn

    turn-before : (n : ℕ) (p : Progress S) (u : ℕ) → k.next p.state ≡ finite u → u < t
        → advancing k room t x (suc n) p ≡ continued (λ q. advancing k room t x n q) p (tried room u p (instant k u [] p.state))
    unfolding advancing is_before ticks
    turn-before n p u e l = rw (e, lt-ltb u t l)

    refused-ends : (f : Progress S → Ended S) (p : Progress S) (r : Result (Progress S)) (n : ℕ) → r ≡ refused n → continued f p r ≡ ended n p
    unfolding continued
    refused-ends f p r n e = rw e

    ok-ends : (f : Progress S → Ended S) (p q : Progress S) (r : Result (Progress S)) → r ≡ ok q → continued f p r ≡ f q
    unfolding continued
    ok-ends f p q r e = rw e

    -- a turn by the instant that is next
    turn-next : (n : ℕ) (p : Progress S) (now : ℕ) (y : Bag) → Next k room t x p.state now y → (j : ℕ) → tried room now p (instant k now y p.state) ≡ refused j
        → advancing k room t x (suc n) p ≡ ended j p
    turn-next n p now y (before u e l) j r = turn-before n p u e l ∙ refused-ends _ p _ j r
    turn-next n p now y (at_end e) j r = last_turn k room t x n p e ∙ refused-ends _ p _ j r

module _ {S : Type 0} {At Between : ℕ → S → S → Type 0} {Fine : Bag → Bag → Type 0} {k : Simulator S} (a : Agree At Between Fine k k) (room t : ℕ) (x : Bag) where
  -- what an instant leaves is kept
  after : (now : ℕ) (y : Bag) (s s' : S) (xs : List Output) → Fine y y → At now s s → instant k now y s ≡ done xs s' → Between (suc now) s' s'
  after now y s s' xs f h e = go xs (subst (λ i. SameInstant a now s s i i) e (instant-same a now y y s s h f))
    where
      go : (xs : List Output) → SameInstant a now s s (done xs s') (done xs s') → Between (suc now) s' s'
      go [] h = a.closes now s' s' h.2 h.3
      go (z ∷ zs) h = a.closes now s' s' h.1 h.2

  -- where the next moment lies
  pub opened : (p : Progress S) (u : ℕ) → Between p.opening p.state p.state → k.next p.state ≡ finite u → (p.opening ≤ u) × At u p.state p.state
  unfolding not_before
  opened p u b e =
      let l = leb-true p.opening u (ap (not_before p.opening) (sym e) ∙ a.early p.opening p.state p.state b) in
      (l, a.opens p.opening u p.state p.state b l (ap (not_before u) e ∙ le-leb u u (omega arith)))

  -- what stands where the instant at u is done
  pub kept_on : (p : Progress S) (u : ℕ) (s' : S) (xs : List Output) → Between p.opening p.state p.state → k.next p.state ≡ finite u → Whole k u [] p.state xs s'
      → (p.opening ≤ u) × Between (suc u) s' s'
  kept_on p u s' xs b e w = let h = opened p u b e in (h.0, after u [] p.state s' xs a.fine_none h.1 (whole-instant k u [] p.state s' xs w))

  -- ---- it ends so

  -- where an instant is due before t
  ends-before : (n : ℕ) (p : Progress S) (u : ℕ) → Between p.opening p.state p.state → t < p.opening + suc n → k.next p.state ≡ finite u → u < t
      → ((q : Progress S) → Between q.opening q.state q.state → q.opening ≤ t → t < q.opening + n → Ends k room t x q (advancing k room t x n q))
      → (i : Instant S) → instant k u [] p.state ≡ i → Settled k u [] p.state i → Ends k room t x p (advancing k room t x (suc n) p)
  ends-before n p u b l f g ih jammed q h =
      subst (Ends k room t x p) (sym (turn-next k room t x n p u [] (before u f g) 13 (ap (tried room u p) q ∙ tried-jams room u p))) (jams p u [] (before u f g) h)
  ends-before n p u b l f g ih (done [] s') q h = absurd (some-step k u p.state s' f h)
  ends-before n p u b l f g ih (done (y ∷ ys) s') q h = go (ltb room (length (p.trace ++ instant_trace u (y ∷ ys)))) refl
    where
      go : (d : Bool) → ltb room (length (p.trace ++ instant_trace u (y ∷ ys))) ≡ d → Ends k room t x p (advancing k room t x (suc n) p)
      go true r =
          let v = ltb-true room _ r in
          subst (Ends k room t x p) (sym (turn-next k room t x n p u [] (before u f g) 15 (ap (tried room u p) q ∙ tried-full room u p (y ∷ ys) s' (λ z. omega arith) v)))
          (overruns p u [] y ys s' (before u f g) h v)
      go false r =
          let v = ltb-false room _ r in
          let o = kept_on p u s' (y ∷ ys) b f h in
          let next = with_instant k room t x p u (y ∷ ys) s' in
          subst (Ends k room t x p) (sym (turn-before k room t x n p u f g ∙ ok-ends k room t x _ p next _ (ap (tried room u p) q ∙ tried-stands room u p (y ∷ ys) s' (λ z. omega arith) v)))
          (continues p u (y ∷ ys) s' _ f g h v (ih next o.1 g (omega (arith, o.0))))

  -- and where t is next
  ends_last : (n : ℕ) (p : Progress S) → is_before (k.next p.state) t ≡ false
      → (i : Instant S) → instant k t x p.state ≡ i → Settled k t x p.state i → Ends k room t x p (advancing k room t x (suc n) p)
  unfolding tried
  ends_last n p f jammed q h =
      subst (Ends k room t x p) (sym (turn-next k room t x n p t x (at_end f) 13 (ap (tried room t p) q ∙ tried-jams room t p))) (jams p t x (at_end f) h)
  ends_last n p f (done [] s') q h =
      subst (Ends k room t x p) (sym (last_turn k room t x n p f ∙ ok-ends k room t x (succeeded t) p p _ (ap (tried room t p) q)))
      (idle p f (ap (goes_on k t x) h.steps ∙ h.finished))
  ends_last n p f (done (y ∷ ys) s') q h = go (ltb room (length (p.trace ++ instant_trace t (y ∷ ys)))) refl
    where
      go : (d : Bool) → ltb room (length (p.trace ++ instant_trace t (y ∷ ys))) ≡ d → Ends k room t x p (advancing k room t x (suc n) p)
      go true r =
          let v = ltb-true room _ r in
          subst (Ends k room t x p) (sym (turn-next k room t x n p t x (at_end f) 15 (ap (tried room t p) q ∙ tried-full room t p (y ∷ ys) s' (λ z. omega arith) v)))
          (overruns p t x y ys s' (at_end f) h v)
      go false r =
          let v = ltb-false room _ r in
          subst (Ends k room t x p)
          (sym (last_turn k room t x n p f ∙ ok-ends k room t x (succeeded t) p _ _ (ap (tried room t p) q ∙ tried-stands room t p (y ∷ ys) s' (λ z. omega arith) v)))
          (succeeds p y ys s' f h v)

  pub ends : (n : ℕ) (p : Progress S) → Between p.opening p.state p.state → p.opening ≤ t → t < p.opening + n → Ends k room t x p (advancing k room t x n p)
  ends zero p b o l = absurd (omega arith)
  ends (suc n) p b o l = go (is_before (k.next p.state) t) refl (λ q c o l. ends n q c o l)
    where
      u : Time
      u = k.next p.state

      go : (c : Bool) → is_before u t ≡ c
          → ((q : Progress S) → Between q.opening q.state q.state → q.opening ≤ t → t < q.opening + n → Ends k room t x q (advancing k room t x n q))
          → Ends k room t x p (advancing k room t x (suc n) p)
      go true e ih =
          let v = before-t t p.opening u (a.early p.opening p.state p.state b) e in
          ends-before n p (ticks u) b l (at-moment t u e) v.1 ih _ refl (settled k (ticks u) [] p.state)
      go false e ih = ends_last n p e _ refl (settled k t x p.state)

  -- ---- and in no other way

  -- there is a turn left
  turns : (n : ℕ) (p : Progress S) → p.opening ≤ t → t < p.opening + n → (j : ℕ) × (n ≡ suc j)
  turns zero p o l = absurd (omega arith)
  turns (suc j) p o l = (j, refl)

  one_turn : (n : ℕ) (p : Progress S) (e : Ended S) → p.opening ≤ t → t < p.opening + n → ((j : ℕ) → n ≡ suc j → advancing k room t x (suc j) p ≡ e) → advancing k room t x n p ≡ e
  one_turn n p e o l h = let j = turns n p o l in ap (λ i. advancing k room t x i p) j.1 ∙ h j.0 j.1

  pub only : {p : Progress S} {e : Ended S} → Ends k room t x p e → (n : ℕ) → Between p.opening p.state p.state → p.opening ≤ t → t < p.opening + n
      → advancing k room t x n p ≡ e
  unfolding tried
  only (jams p now y next v) n b o l =
      one_turn n p _ o l (λ j f. turn-next k room t x j p now y next 13 (ap (tried room now p) (jams-instant k now y p.state v) ∙ tried-jams room now p))
  only (overruns p now y z zs s' next w r) n b o l =
      one_turn n p _ o l (λ j f. turn-next k room t x j p now y next 15 (ap (tried room now p) (whole-instant k now y p.state s' (z ∷ zs) w) ∙ tried-full room now p (z ∷ zs) s' (λ z. omega arith) r))
  only (continues p u [] s' e f g w v rest) n b o l = absurd (some-step k u p.state s' f w)
  only (continues p u (y ∷ ys) s' e f g w v rest) n b o l =
      let c = kept_on p u s' (y ∷ ys) b f w in
      one_turn n p e o l (λ j q.
      turn-before k room t x j p u f g
      ∙ ok-ends k room t x _ p _ _ (ap (tried room u p) (whole-instant k u [] p.state s' (y ∷ ys) w) ∙ tried-stands room u p (y ∷ ys) s' (λ z. omega arith) v)
      ∙ only rest j c.1 g (omega (arith, c.0, l, q)))
  only (succeeds p y ys s' f w v) n b o l =
      one_turn n p _ o l (λ j q.
      last_turn k room t x j p f
      ∙ ok-ends k room t x (succeeded t) p _ _ (ap (tried room t p) (whole-instant k t x p.state s' (y ∷ ys) w) ∙ tried-stands room t p (y ∷ ys) s' (λ z. omega arith) v))
  only (idle p f g) n b o l =
      one_turn n p _ o l (λ j q.
      last_turn k room t x j p f
      ∙ ok-ends k room t x (succeeded t) p p _ (ap (tried room t p) (whole-instant k t x p.state p.state [] (record { steps = refl; few = omega arith; finished = g }))))

-- Where an advance that did not succeed has done no instant, it stands where it began.
module _ {S : Type 0} {k : Simulator S} {room t : ℕ} {x : Bag} where
  pub undone : {p : Progress S} {e : Ended S} → Ends k room t x p e
      → (e.number ≡ 0) ⊎ ((e.progress ≡ p) ⊎ (p.instants < e.progress.instants))
  unfolding ended succeeded
  undone (jams p now y next v) = inr (inl refl)
  undone (overruns p now y z zs s' next w r) = inr (inl refl)
  undone (continues p u xs s' e f g w v rest) = go (undone rest)
    where
      go : (e.number ≡ 0) ⊎ ((e.progress ≡ with_instant k room t x p u xs s') ⊎ (suc p.instants < e.progress.instants)) → (e.number ≡ 0) ⊎ ((e.progress ≡ p) ⊎ (p.instants < e.progress.instants))
      go (inl h) = inl h
      go (inr (inl h)) = inr (inr (omega (arith, ap (λ q. q.instants) h)))
      go (inr (inr h)) = inr (inr (omega arith))
  undone (succeeds p y ys s' f w v) = inl refl
  undone (idle p f g) = inl refl
