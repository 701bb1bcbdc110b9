-- A channel's loop ends as its relation tells, and in no other way: the turns of the loop are enough, since each instant before t opens a later
-- moment. With steps to spare it is an advance's loop. Assumes nothing.
use mathlib.Core.Path.{◌≡◌, refl, sym, ap, ◌∙◌, subst}
use Prim.Native.Nat.{ℕ, zero, suc, ◌+◌, ◌*◌, ◌≤◌, ◌<◌}
use mathlib.Core.List.{[], ◌∷◌}
use mathlib.Core.Bool.{Bool, true, false, cond}
use native.Mathlib.Omega.{arith}
use borrow.Author.Tests.{lt-ltb}
use Rattle.definition.specs.Bytes.{refused}
use Rattle.definition.specs.Limits.{max_steps}
use Rattle.definition.specs.Model.{Bag}
use Rattle.definition.specs.Devs.{Time, finite, ticks}
use Rattle.definition.specs.Step.{Simulator}
use Rattle.definition.specs.Instant.{instant}
use Rattle.definition.specs.Advance.{Progress, Ended, ended, tried, continued, succeeded, is_before, advancing}
use Rattle.definition.specs.AdvanceRelation.{Next, before, at_end}
use Rattle.definition.specs.Channels.{tried_within, advancing_within}
use Rattle.definition.specs.ChannelRelation.{EndsWithin, jams, overruns, cut_off, continues, succeeds, idle}
use Rattle.law_base.proofs.Turns.{stood, last-turn-within, more-turn-within}
use Rattle.law_calls.proofs.Lift.{before-t, Agree}
use Rattle.law_calls.proofs.Ending.{at-moment, some-step, kept_on}
use Rattle.law_channels.proofs.Verdicts.{Verdict, jam, full, quiet, many, stands, verdict, from_tried, from_within, tried-by, within_by}

module _ {S : Type 0} {At Between : ℕ → S → S → Type 0} {Fine : Bag → Bag → Type 0} {k : Simulator S} (a : Agree At Between Fine k k) (has room t : ℕ) (x : Bag) where
  -- ---- one turn

  -- a turn before t, by the verdict on the instant that is due
  by_before : (n : ℕ) (p : Progress S) (u : ℕ) → k.next p.state ≡ finite u → u < t → p.steps ≤ has → (v : Verdict k has room u [] p)
      → advancing_within k has room t x (suc n) p ≡ continued (λ q. advancing_within k has room t x n q) p (from_within k has room u [] p v)
  unfolding is_before ticks
  by_before n p u f g s v =
      more-turn-within k has room t x n p (ap (λ w. is_before w t) f ∙ lt-ltb u t g)
      ∙ ap (λ w. continued (λ q. advancing_within k has room t x n q) p (tried_within has room (ticks w) p (instant k (ticks w) [] p.state))) f
      ∙ ap (continued (λ q. advancing_within k has room t x n q) p) (within_by k has room u [] p v s)

  -- the last turn, by the verdict on t
  by_last : (n : ℕ) (p : Progress S) → is_before (k.next p.state) t ≡ false → p.steps ≤ has → (v : Verdict k has room t x p)
      → advancing_within k has room t x (suc n) p ≡ continued (succeeded t) p (from_within k has room t x p v)
  by_last n p f s v = last-turn-within k has room t x n p f ∙ ap (continued (succeeded t) p) (within_by k has room t x p v s)

  -- ---- it ends so

  -- what the rest of a turn is known to do
  abbrev Rest : ℕ → Type 0
  Rest n =
      (q : Progress S) → Between q.opening q.state q.state → q.opening ≤ t → t < q.opening + n → q.steps ≤ has
      → EndsWithin k has room t x q (advancing_within k has room t x n q)

  ends-before : (n : ℕ) (p : Progress S) (u : ℕ) → Between p.opening p.state p.state → t < p.opening + suc n → k.next p.state ≡ finite u → u < t → Rest n
      → (v : Verdict k has room u [] p) → EndsWithin k has room t x p (continued (λ q. advancing_within k has room t x n q) p (from_within k has room u [] p v))
  unfolding continued
  ends-before n p u b l f g ih (jam h) = jams p u [] (before u f g) h
  ends-before n p u b l f g ih (full z zs s h r) = overruns p u [] z zs s (before u f g) h r
  ends-before n p u b l f g ih (quiet h) = absurd (some-step k u p.state p.state f h)
  ends-before n p u b l f g ih (many z zs s h r d) = cut_off p u [] z zs s (before u f g) h r d
  ends-before n p u b l f g ih (stands z zs s h r d) =
      let o = kept_on a room t x p u s (z ∷ zs) b f h in
      continues p u z zs s _ f g h r d (ih _ o.1 g (omega (arith, o.0)) d)

  ends_last : (p : Progress S) → is_before (k.next p.state) t ≡ false → (v : Verdict k has room t x p)
      → EndsWithin k has room t x p (continued (succeeded t) p (from_within k has room t x p v))
  unfolding continued
  ends_last p f (jam h) = jams p t x (at_end f) h
  ends_last p f (full z zs s h r) = overruns p t x z zs s (at_end f) h r
  ends_last p f (quiet h) = idle p f h.finished
  ends_last p f (many z zs s h r d) = cut_off p t x z zs s (at_end f) h r d
  ends_last p f (stands z zs s h r d) = succeeds p z zs s f h r d

  -- A channel's turn ends so.
  pub ends-within : (n : ℕ) → Rest n
  ends-within zero p b o l s = absurd (omega arith)
  ends-within (suc n) p b o l s = go (is_before (k.next p.state) t) refl (λ q c o l s. ends-within n q c o l s)
    where
      u : Time
      u = k.next p.state

      go : (c : Bool) → is_before u t ≡ c → Rest n → EndsWithin k has room t x p (advancing_within k has room t x (suc n) p)
      go true e ih =
          let v = before-t t p.opening u (a.early p.opening p.state p.state b) e in
          let w = verdict k has room (ticks u) [] p in
          let f = at-moment t u e in
          subst (EndsWithin k has room t x p) (sym (by_before n p (ticks u) f v.1 s w)) (ends-before n p (ticks u) b l f v.1 ih w)
      go false e ih = let w = verdict k has room t x p in subst (EndsWithin k has room t x p) (sym (by_last n p e s w)) (ends_last p e w)

  -- ---- and in no other way

  -- there is a turn left
  one_turn : (n : ℕ) (p : Progress S) (e : Ended S) → p.opening ≤ t → t < p.opening + n
      → ((j : ℕ) → t < p.opening + suc j → advancing_within k has room t x (suc j) p ≡ e) → advancing_within k has room t x n p ≡ e
  one_turn zero p e o l h = absurd (omega arith)
  one_turn (suc j) p e o l h = h j l

  -- a turn by whatever instant is next, which is left undone
  by_next : (n : ℕ) (p : Progress S) (now : ℕ) (y : Bag) → Next k room t x p.state now y → p.steps ≤ has → (v : Verdict k has room now y p) (j : ℕ)
      → from_within k has room now y p v ≡ refused j → advancing_within k has room t x (suc n) p ≡ ended j p
  unfolding continued
  by_next n p now y (before u f g) s v j e = by_before n p u f g s v ∙ ap (continued (λ q. advancing_within k has room t x n q) p) e
  by_next n p now y (at_end f) s v j e = by_last n p f s v ∙ ap (continued (succeeded t) p) e

  pub only-within : {p : Progress S} {e : Ended S} → EndsWithin k has room t x p e → (n : ℕ) → Between p.opening p.state p.state → p.opening ≤ t → t < p.opening + n
      → p.steps ≤ has → advancing_within k has room t x n p ≡ e
  unfolding continued
  only-within (jams p now y next h) n b o l s = one_turn n p _ o l (λ j d. by_next j p now y next s (jam h) 13 refl)
  only-within (overruns p now y z zs s' next h r) n b o l s = one_turn n p _ o l (λ j d. by_next j p now y next s (full z zs s' h r) 15 refl)
  only-within (cut_off p now y z zs s' next h r c) n b o l s = one_turn n p _ o l (λ j d. by_next j p now y next s (many z zs s' h r c) 22 refl)
  only-within (continues p u z zs s' e f g h r c rest) n b o l s =
      let w = kept_on a room t x p u s' (z ∷ zs) b f h in
      one_turn n p e o l (λ j d. by_before j p u f g s (stands z zs s' h r c) ∙ only-within rest j w.1 g (omega (arith, w.0, d)) c)
  only-within (succeeds p z zs s' f h r c) n b o l s = one_turn n p _ o l (λ j d. by_last j p f s (stands z zs s' h r c))
  only-within (idle p f g) n b o l s = one_turn n p _ o l (λ j d. by_last j p f s (quiet (record { steps = refl; few = omega arith; finished = g })))

-- ---- a loop with steps to spare is an advance's

module _ {S : Type 0} (k : Simulator S) (has room t : ℕ) (x : Bag) where
  spare-by : (now : ℕ) (y : Bag) (p : Progress S) (f g : Progress S → Ended S) (r : ℕ) → p.steps + (max_steps + r) ≤ has
      → ((q : Progress S) → q.steps + r ≤ has → f q ≡ g q)
      → continued f p (tried_within has room now p (instant k now y p.state)) ≡ continued g p (tried room now p (instant k now y p.state))
  unfolding continued
  spare-by now y p f g r l h =
      let v = verdict k has room now y p in
      ap (continued f p) (within_by k has room now y p v (omega arith)) ∙ go v ∙ sym (ap (continued g p) (tried-by k has room now y p v))
    where
      go : (v : Verdict k has room now y p) → continued f p (from_within k has room now y p v) ≡ continued g p (from_tried k has room now y p v)
      go (jam e) = refl
      go (full z zs s e b) = refl
      go (quiet e) = h p (omega arith)
      go (many z zs s e b d) = absurd (omega (arith, e.few))
      go (stands z zs s e b d) = h _ (omega (arith, e.few))

  pub spare : (n : ℕ) (p : Progress S) → p.steps + max_steps * n ≤ has → advancing_within k has room t x n p ≡ advancing k room t x n p
  unfolding advancing_within advancing
  spare zero p l = refl
  spare (suc n) p l = go (is_before u t) (λ q h. spare n q h)
    where
      u : Time
      u = k.next p.state

      go : (b : Bool) → ((q : Progress S) → q.steps + max_steps * n ≤ has → advancing_within k has room t x n q ≡ advancing k room t x n q)
          → cond b (continued (λ q. advancing_within k has room t x n q) p (tried_within has room (ticks u) p (instant k (ticks u) [] p.state)))
          (continued (succeeded t) p (tried_within has room t p (instant k t x p.state)))
          ≡ cond b (continued (λ q. advancing k room t x n q) p (tried room (ticks u) p (instant k (ticks u) [] p.state)))
          (continued (succeeded t) p (tried room t p (instant k t x p.state)))
      go true ih = spare-by (ticks u) [] p _ _ (max_steps * n) (omega arith) ih
      go false ih = spare-by t x p (succeeded t) (succeeded t) (max_steps * n) (omega arith) (λ q h. refl)

-- ---- where an advance has no more steps than the channel, the loops are one

module _ {S : Type 0} (k : Simulator S) (room t : ℕ) (x : Bag) where
  grow-by : (now : ℕ) (y : Bag) (p : Progress S) (g : Progress S → Ended S) → ((q : Progress S) → q.steps ≤ (g q).progress.steps)
      → p.steps ≤ (continued g p (tried room now p (instant k now y p.state))).progress.steps
  grow-by now y p g h = subst (λ r. p.steps ≤ (continued g p r).progress.steps) (sym (tried-by k 0 room now y p (verdict k 0 room now y p))) (go (verdict k 0 room now y p))
    where
      go : (v : Verdict k 0 room now y p) → p.steps ≤ (continued g p (from_tried k 0 room now y p v)).progress.steps
      go (jam e) = unfold continued ended in (omega arith)
      go (full z zs s e b) = unfold continued ended in (omega arith)
      go (quiet e) = unfold continued in (h p)
      go (many z zs s e b d) = unfold continued in (omega (arith, h (stood room now p (z ∷ zs) s)))
      go (stands z zs s e b d) = unfold continued in (omega (arith, h (stood room now p (z ∷ zs) s)))

  succeeded-steps : (q : Progress S) → q.steps ≤ (succeeded t q).progress.steps
  unfolding succeeded ended
  succeeded-steps q = omega arith

  pub steps-grow : (n : ℕ) (p : Progress S) → p.steps ≤ (advancing k room t x n p).progress.steps
  unfolding advancing ended
  steps-grow zero p = omega arith
  steps-grow (suc n) p = go (is_before u t) (λ q. steps-grow n q)
    where
      u : Time
      u = k.next p.state

      go : (b : Bool) → ((q : Progress S) → q.steps ≤ (advancing k room t x n q).progress.steps)
          → p.steps ≤ (cond b (continued (λ q. advancing k room t x n q) p (tried room (ticks u) p (instant k (ticks u) [] p.state)))
          (continued (succeeded t) p (tried room t p (instant k t x p.state)))).progress.steps
      go true ih = grow-by (ticks u) [] p _ ih
      go false ih = grow-by t x p (succeeded t) succeeded-steps

module _ {S : Type 0} (k : Simulator S) (has room t : ℕ) (x : Bag) where
  enough-by : (now : ℕ) (y : Bag) (p : Progress S) (f g : Progress S → Ended S) → p.steps ≤ has
      → ((q : Progress S) → q.steps ≤ has → (g q).progress.steps ≤ has → f q ≡ g q) → ((q : Progress S) → q.steps ≤ (g q).progress.steps)
      → (continued g p (tried room now p (instant k now y p.state))).progress.steps ≤ has
      → continued f p (tried_within has room now p (instant k now y p.state)) ≡ continued g p (tried room now p (instant k now y p.state))
  enough-by now y p f g l h grow =
      let v = verdict k has room now y p in
      subst (λ r. (continued g p r).progress.steps ≤ has → continued f p (tried_within has room now p (instant k now y p.state)) ≡ continued g p r)
      (sym (tried-by k has room now y p v)) (λ c. ap (continued f p) (within_by k has room now y p v l) ∙ go v c)
    where
      go : (v : Verdict k has room now y p) → (continued g p (from_tried k has room now y p v)).progress.steps ≤ has
          → continued f p (from_within k has room now y p v) ≡ continued g p (from_tried k has room now y p v)
      go (jam e) c = unfold continued in refl
      go (full z zs s e b) c = unfold continued in refl
      go (quiet e) c = unfold continued in (h p l (unfold continued in c))
      go (many z zs s e b d) c =
          let q = stood room now p (z ∷ zs) s in
          let j : (g q).progress.steps ≤ has = unfold continued in c in
          absurd (omega (arith, grow q))
      go (stands z zs s e b d) c = unfold continued in (h (stood room now p (z ∷ zs) s) d (unfold continued in c))

  pub enough : (n : ℕ) (p : Progress S) → p.steps ≤ has → (advancing k room t x n p).progress.steps ≤ has → advancing_within k has room t x n p ≡ advancing k room t x n p
  unfolding advancing_within advancing
  enough zero p l c = refl
  enough (suc n) p l c = go (is_before u t) (λ q h d. enough n q h d) c
    where
      u : Time
      u = k.next p.state

      go : (b : Bool) → ((q : Progress S) → q.steps ≤ has → (advancing k room t x n q).progress.steps ≤ has → advancing_within k has room t x n q ≡ advancing k room t x n q)
          → (cond b (continued (λ q. advancing k room t x n q) p (tried room (ticks u) p (instant k (ticks u) [] p.state)))
          (continued (succeeded t) p (tried room t p (instant k t x p.state)))).progress.steps ≤ has
          → cond b (continued (λ q. advancing_within k has room t x n q) p (tried_within has room (ticks u) p (instant k (ticks u) [] p.state)))
          (continued (succeeded t) p (tried_within has room t p (instant k t x p.state)))
          ≡ cond b (continued (λ q. advancing k room t x n q) p (tried room (ticks u) p (instant k (ticks u) [] p.state)))
          (continued (succeeded t) p (tried room t p (instant k t x p.state)))
      go true ih c = enough-by (ticks u) [] p _ _ l ih (steps-grow k room t x n) c
      go false ih c = enough-by t x p (succeeded t) (succeeded t) l (λ q h d. refl) (succeeded-steps k room t x) c
