-- The calls of a feed, one after the other on one progress, end as the relation `EndsInTurn` tells, and in no other way; two simulators that
-- agree end them alike. Each call finds its moment open, since the one before it left an open moment at most one past its own. All of it over
-- anything that takes steps. Assumes nothing.
use mathlib.Core.Path.{◌≡◌, refl, ap, ◌∙◌, subst}
use mathlib.Core.Logic.{◌⊎◌, inl, inr}
use Prim.Native.Nat.{ℕ, zero, suc, ◌+◌, ◌≤◌, ◌<◌}
use mathlib.Core.List.{List, [], ◌∷◌}
use mathlib.Core.Bool.{Bool, true, false, cond}
use native.Mathlib.Omega.{arith}
use lib.Dec.{eqb}
use lib.ListN.{length}
use borrow.Author.Tests.{eqb-true, eqb-false, eq-eqb, ne_eqb}
use Rattle.definition.specs.Limits.{max_moment}
use Rattle.definition.specs.Model.{Bag}
use Rattle.definition.specs.Step.{Simulator}
use Rattle.definition.specs.Advance.{Progress, Ended, ended, succeeded, advancing}
use Rattle.definition.specs.AdvanceRelation.{Ends, jams, overruns, continues, succeeds, idle, EndsInTurn, all_succeed, stops, then}
use Rattle.definition.specs.Engine.{to_bag, bag_fits}
use Rattle.definition.specs.Feed.{FeedBag}
use Rattle.law_calls.proofs.Lift.{Agree, Alike, EndsAlike, advancing-alike}
use Rattle.law_calls.proofs.Ending.{ends, only, undone}
use Rattle.law_feed.specs.Onward.{Onward, bags_onward}
use Rattle.law_feed.proofs.Timed.{InTime, Proper, time-proper, open_after, time-sooner}
use Rattle.law_feed.proofs.Alike.{bags-alike}

-- ---- two simulators that agree

-- The calls of a feed end alike, at an open moment that a saved run may have.
pub record TurnsAlike {S T : Type 0} (Between : ℕ → S → T → Type 0) (x : Onward S) (y : Onward T) : Type 0 where
  pub bags : x.bags ≡ y.bags
  pub number : x.end.number ≡ y.end.number
  pub progress : Alike Between x.end.progress y.end.progress
  pub not_late : x.end.progress.opening ≤ suc max_moment

module _ {S T : Type 0} {At Between : ℕ → S → T → Type 0} {Fine : Bag → Bag → Type 0} {k : Simulator S} {j : Simulator T} (a : Agree At Between Fine k j)
    (fine : (c : FeedBag) → bag_fits c.bag ≡ true → Fine (to_bag c.bag) (to_bag c.bag)) (room : ℕ) where
  -- related, at an open moment that a saved run may have
  abbrev NotLate : ℕ → S → T → Type 0
  NotLate o s q = Between o s q × (o ≤ suc max_moment)

  -- one call leaves such a moment open
  call-alike : (c : FeedBag) → Proper c → (p : Progress S) (q : Progress T) → Alike NotLate p q → p.opening ≤ c.moment
      → EndsAlike NotLate c.moment (advancing k room c.moment (to_bag c.bag) (suc c.moment) p) (advancing j room c.moment (to_bag c.bag) (suc c.moment) q)
  call-alike c g p q h l =
      let both = advancing-alike a room c.moment (to_bag c.bag) (to_bag c.bag) (fine c g.1) (suc c.moment) p q
      (record { opening = h.opening; state = h.state.0; instants = h.instants; steps = h.steps; trace = h.trace; rules = h.rules }) l in
      let s = both.1 in
      (both.0, record { opening = s.opening; state = (s.state, omega (arith, both.2, g.0)); instants = s.instants; steps = s.steps; trace = s.trace; rules = s.rules }, both.2)

  pub turns-alike : (cs : List FeedBag) (n : ℕ) (p : Progress S) (q : Progress T) → Alike Between p q → p.opening ≤ suc max_moment → InTime p.opening cs
      → TurnsAlike Between (bags_onward k room cs n p) (bags_onward j room cs n q)
  turns-alike cs n p q h l t =
      let first : Alike NotLate p q = record { opening = h.opening; state = (h.state, l); instants = h.instants; steps = h.steps; trace = h.trace; rules = h.rules } in
      let all = bags-alike k j NotLate Proper room call-alike cs (time-proper p.opening cs t) n p q first t in
      let s = all.2 in
      record {
        bags = all.0;
        number = all.1;
        progress = record { opening = s.opening; state = s.state.0; instants = s.instants; steps = s.steps; trace = s.trace; rules = s.rules };
        not_late = s.state.1;
      }

-- a number that is not 0
above : (n : ℕ) → (n ≡ 0 → ⊥) → 0 < n
above zero h = absurd (h refl)
above (suc n) h = omega arith

-- ---- they end so, and in no other way

module _ {S : Type 0} {At Between : ℕ → S → S → Type 0} {Fine : Bag → Bag → Type 0} {k : Simulator S} (a : Agree At Between Fine k k)
    (fine : (c : FeedBag) → bag_fits c.bag ≡ true → Fine (to_bag c.bag) (to_bag c.bag)) (room : ℕ) where
  -- what a call leaves, where it is kept
  after : (c : FeedBag) (p : Progress S) → Between p.opening p.state p.state → bag_fits c.bag ≡ true → p.opening ≤ c.moment
      → EndsAlike Between c.moment (advancing k room c.moment (to_bag c.bag) (suc c.moment) p) (advancing k room c.moment (to_bag c.bag) (suc c.moment) p)
  after c p b f l =
      advancing-alike a room c.moment (to_bag c.bag) (to_bag c.bag) (fine c f) (suc c.moment) p p
      (record { opening = refl; state = b; instants = refl; steps = refl; trace = refl; rules = refl }) l

  pub ends-in-turn : (cs : List FeedBag) (j : ℕ) (p : Progress S) → Between p.opening p.state p.state → InTime p.opening cs
      → (n : ℕ) × EndsInTurn k room cs p n (bags_onward k room cs j p).end × ((bags_onward k room cs j p).bags ≡ j + n)
  unfolding bags_onward
  ends-in-turn [] j p b t = (0, all_succeed p, omega arith)
  ends-in-turn (c ∷ cs) j p b t =
      let h = after c p b t.2 t.0 in
      go (eqb e.number 0) refl (ends-in-turn cs (suc j) e.progress h.1.state (time-sooner e.progress.opening (suc c.moment) cs h.2 t.3))
    where
      e : Ended S
      e = advancing k room c.moment (to_bag c.bag) (suc c.moment) p

      here : Ends k room c.moment (to_bag c.bag) p e
      here = ends a room c.moment (to_bag c.bag) (suc c.moment) p b t.0 (omega arith)

      on : Onward S
      on = bags_onward k room cs (suc j) e.progress

      go : (z : Bool) → eqb e.number 0 ≡ z → (n : ℕ) × EndsInTurn k room cs e.progress n on.end × (on.bags ≡ suc j + n)
          → (let o = cond {A = Onward S} z on (record { bags = j; end = e }) in (n : ℕ) × EndsInTurn k room (c ∷ cs) p n o.end × (o.bags ≡ j + n))
      go true f h = (suc h.0, then c cs p e h.0 on.end here (eqb-true e.number 0 f) h.1, omega (arith, h.2))
      go false f h = (0, stops c cs p e here (above e.number (eqb-false e.number 0 f)), omega arith)

  -- one call as it ends
  one_turn : (c : FeedBag) (cs : List FeedBag) (j : ℕ) (p : Progress S) (e : Ended S) → Ends k room c.moment (to_bag c.bag) p e
      → Between p.opening p.state p.state → p.opening ≤ c.moment
      → bags_onward k room (c ∷ cs) j p ≡ cond (eqb e.number 0) (bags_onward k room cs (suc j) e.progress) (record { bags = j; end = e })
  unfolding bags_onward
  one_turn c cs j p e h b l =
      ap (λ (z : Ended S). cond (eqb z.number 0) (bags_onward k room cs (suc j) z.progress) (record { bags = j; end = z }))
      (only a room c.moment (to_bag c.bag) h (suc c.moment) b l (omega arith))

  pub only-in-turn : {cs : List FeedBag} {p : Progress S} {n : ℕ} {e : Ended S} → EndsInTurn k room cs p n e → (j : ℕ) → Between p.opening p.state p.state
      → InTime p.opening cs → bags_onward k room cs j p ≡ record { bags = j + n; end = e }
  unfolding bags_onward
  only-in-turn (all_succeed p) j b t = λ i. record { bags = (let z : j ≡ j + 0 = omega arith in z) i; end = ended 0 p }
  only-in-turn (stops c cs p e h l) j b t =
      one_turn c cs j p e h b t.0 ∙ rw (ne_eqb e.number 0 (λ z. omega arith)) (λ i. record { bags = (let z : j ≡ j + 0 = omega arith in z) i; end = e })
  only-in-turn (then c cs p e n d h z rest) j b t =
      let q = only a room c.moment (to_bag c.bag) h (suc c.moment) b t.0 (omega arith) in
      let kept = subst (λ y. EndsAlike Between c.moment y y) q (after c p b t.2 t.0) in
      one_turn c cs j p e h b t.0 ∙ rw (eq-eqb e.number 0 z)
      (only-in-turn rest (suc j) kept.1.state (time-sooner e.progress.opening (suc c.moment) cs kept.2 t.3)
      ∙ λ i. record { bags = (let y : suc j + n ≡ j + suc n = omega arith in y) i; end = d })

-- ---- by the cases of how they end

-- The numbers with which a call may end, and the open moment where it succeeds.
abbrev pub Ending : ℕ → ℕ → ℕ → Type 0
Ending t n opening = ((n ≡ 0) × (opening ≡ suc t)) ⊎ ((n ≡ 13) ⊎ (n ≡ 15))

module _ {S : Type 0} {k : Simulator S} {room : ℕ} where
  pub ending : {t : ℕ} {x : Bag} {p : Progress S} {e : Ended S} → Ends k room t x p e → Ending t e.number e.progress.opening
  unfolding ended succeeded
  ending (jams p now y next v) = inr (inl refl)
  ending (overruns p now y z zs s' next w r) = inr (inr refl)
  ending (continues p u xs s' e f g w v rest) = ending rest
  ending (succeeds p y ys s' f w v) = inl (refl, refl)
  ending (idle p f g) = inl (refl, refl)

  pub ending-number : {t : ℕ} {x : Bag} {p : Progress S} {e : Ended S} → Ends k room t x p e → (e.number ≡ 0) ⊎ ((e.number ≡ 13) ⊎ (e.number ≡ 15))
  ending-number {t = t} {e = e} h = go (ending h)
    where
      go : Ending t e.number e.progress.opening → (e.number ≡ 0) ⊎ ((e.number ≡ 13) ⊎ (e.number ≡ 15))
      go (inl z) = inl z.0
      go (inr z) = inr z

  -- a call that succeeds leaves the moment past its own open
  pub opens : {t : ℕ} {x : Bag} {p : Progress S} {e : Ended S} → Ends k room t x p e → e.number ≡ 0 → e.progress.opening ≡ suc t
  opens {t = t} {e = e} h z = go (ending h)
    where
      go : Ending t e.number e.progress.opening → e.progress.opening ≡ suc t
      go (inl y) = y.1
      go (inr (inl y)) = absurd (omega (arith, y))
      go (inr (inr y)) = absurd (omega (arith, y))

  -- "The first refused call stops it"
  pub turns-number : {cs : List FeedBag} {p : Progress S} {n : ℕ} {e : Ended S} → EndsInTurn k room cs p n e
      → (e.number ≡ 0) ⊎ ((e.number ≡ 13) ⊎ (e.number ≡ 15))
  unfolding ended
  turns-number (all_succeed p) = inl refl
  turns-number (stops c cs p e h l) = ending-number h
  turns-number (then c cs p e n d h z rest) = turns-number rest

  -- where they all succeed, the open moment is one past the last of them
  pub all_done : {cs : List FeedBag} {p : Progress S} {n : ℕ} {e : Ended S} → EndsInTurn k room cs p n e → e.number ≡ 0
      → (n ≡ length cs) × (e.progress.opening ≡ open_after p.opening cs)
  unfolding ended open_after
  all_done (all_succeed p) f = (refl, refl)
  all_done (stops c cs p e h l) f = absurd (omega arith)
  all_done (then c cs p e n d h z rest) f =
      let on = all_done rest f in
      (ap suc on.0, on.1 ∙ ap (λ o. open_after o cs) (opens h z))

  -- where one is refused, not all have succeeded
  pub some_left : {cs : List FeedBag} {p : Progress S} {n : ℕ} {e : Ended S} → EndsInTurn k room cs p n e → 0 < e.number → n < length cs
  unfolding ended
  some_left (all_succeed p) l = absurd (omega arith)
  some_left (stops c cs p e h l) f = omega arith
  some_left (then c cs p e n d h z rest) f = omega (arith, some_left rest f)

  -- where the first is refused with no instant done, it stands where it began
  pub none_done : {cs : List FeedBag} {p : Progress S} {n : ℕ} {e : Ended S} → EndsInTurn k room cs p n e → 0 < e.number → n ≡ 0
      → (e.progress ≡ p) ⊎ (p.instants < e.progress.instants)
  unfolding ended
  none_done (all_succeed p) l z = absurd (omega arith)
  none_done (stops c cs p e h l) f z = go (undone h)
    where
      go : (e.number ≡ 0) ⊎ ((e.progress ≡ p) ⊎ (p.instants < e.progress.instants)) → (e.progress ≡ p) ⊎ (p.instants < e.progress.instants)
      go (inl y) = absurd (omega (arith, y))
      go (inr y) = y
  none_done (then c cs p e n d h y rest) f z = absurd (omega arith)
