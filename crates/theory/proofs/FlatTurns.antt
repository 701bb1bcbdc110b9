-- The flat machine's own turn of a channel, on a model that is its own flat form, ends with the buffers that the generic turn of its step describes:
-- as its advance does, with the steps that the channel has. Assumes nothing.
use mathlib.Core.Path.{◌≡◌, refl, sym, ap, ◌∙◌}
use Prim.Native.Nat.{ℕ, zero, suc, ◌≤◌}
use mathlib.Core.List.{List, []}
use mathlib.Core.Bool.{Bool, true, false, cond}
use native.Mathlib.Omega.{arith}
use lib.Dec.{ltb}
use Rattle.definition.specs.Lists.{all}
use Rattle.definition.specs.Bytes.{Bytes, Result, ok, refused, refuse_if, ◌>>=◌}
use Rattle.definition.specs.Limits.{max_moment}
use Rattle.definition.specs.Model.{Bag, Model}
use Rattle.definition.specs.Records.{port_fits}
use Rattle.definition.specs.Devs.{Time, ticks}
use Rattle.definition.specs.SavedRun.{Entry, not_before, next_due}
use Rattle.definition.specs.Instant.{instant}
use Rattle.definition.specs.Advance.{Progress, ended, continued, succeeded, is_before}
use Rattle.definition.specs.Channels.{tried_within, advancing_within}
use Rattle.definition.specs.Flatten.{flat}
use Rattle.definition.specs.FlatMachine.{Stage, flat_due, opened_past, or_end}
use Rattle.definition.specs.FlatChannels.{attempt_within, in_turn_within}
use Rattle.law_model.proofs.WellFormed.{WellFormed}
use Rattle.law_calls.proofs.Lift.{before-t, not-before-t}
use Rattle.law_calls.proofs.Kept.{Kept, fit-opens, fit-early}
use Rattle.theory.proofs.Agreement.{levelled}
use Rattle.theory.proofs.FlatLoops.{agree-self, no-ports}
use Rattle.theory.proofs.FlatStages.{same-before, to_stage, staged, answer, room, Sits, SitsAfter, entries-in, verdict, attempted, sits_on, continues, opened-past}

module _ (m : Model) (w : WellFormed m) (self : flat m ≡ m) (run₀ trace₀ table₀ : Bytes) (t : ℕ) (last : t ≤ max_moment) (has : ℕ) where
  abbrev stage : Progress (List Entry) → Stage
  stage p = to_stage m w self run₀ trace₀ table₀ p

  abbrev Sat : ℕ → Progress (List Entry) → Type 0
  Sat now p = Sits m w self run₀ trace₀ table₀ t last now p

  abbrev SatAfter : ℕ → Result (Progress (List Entry)) → Type 0
  SatAfter now r = SitsAfter m w self run₀ trace₀ table₀ t last now r

  abbrev size : ℕ
  size = room m w self run₀ trace₀ table₀

  -- ---- the verdict with the steps that the channel has

  tested : (q : Progress (List Entry)) → (refuse_if (ltb has (stage q).steps) 22 >>= λ _. ok (stage q)) ≡ staged m w self run₀ trace₀ table₀ (refuse_if (ltb has q.steps) 22 >>= λ _. ok q)
  unfolding to_stage
  tested q = go (ltb has q.steps)
    where
      go : (b : Bool) → (refuse_if b 22 >>= λ _. ok (stage q)) ≡ staged m w self run₀ trace₀ table₀ (refuse_if b 22 >>= λ _. ok q)
      go true = refl
      go false = refl

  module _ (now : ℕ) (y : Bag) (p : Progress (List Entry)) (ports : all port_fits y ≡ true) (h : Sat (suc t) p) (o : p.opening ≤ now) (kept : Kept m now p.state) where
    abbrev judged : Result (Progress (List Entry))
    judged = verdict m w self run₀ trace₀ table₀ t last now y p ports h o kept

    abbrev within : Result (Progress (List Entry))
    within = tried_within has size now p (instant (levelled m) now y p.state)

    attempted-within : attempt_within m has now y (stage p) ≡ staged m w self run₀ trace₀ table₀ within
    unfolding attempt_within tried_within
    attempted-within = rw (attempted m w self run₀ trace₀ table₀ t last now y p ports h o kept) (go judged)
      where
        go : (r : Result (Progress (List Entry)))
            → (staged m w self run₀ trace₀ table₀ r >>= λ g. refuse_if (ltb has g.steps) 22 >>= λ _. ok g)
            ≡ staged m w self run₀ trace₀ table₀ (r >>= λ q. refuse_if (ltb has q.steps) 22 >>= λ _. ok q)
        go (refused n) = refl
        go (ok q) = tested q

    sits-within : SatAfter (suc now) within
    unfolding tried_within
    sits-within = go judged (sits_on m w self run₀ trace₀ table₀ t last now y p ports h o kept)
      where
        pick : (b : Bool) (q : Progress (List Entry)) → Sat (suc now) q → SatAfter (suc now) (refuse_if b 22 >>= λ _. ok q)
        pick true q k = tt
        pick false q k = k

        go : (r : Result (Progress (List Entry))) → SatAfter (suc now) r → SatAfter (suc now) (r >>= λ q. refuse_if (ltb has q.steps) 22 >>= λ _. ok q)
        go (refused n) k = tt
        go (ok q) k = pick (ltb has q.steps) q k

  -- ---- the instants in turn

  module _ (x : Bag) (ports : all port_fits x ≡ true) where
    pub in-turn-within : (n : ℕ) (p : Progress (List Entry)) → Sat t p
        → in_turn_within m has t x n (stage p) ≡ answer m w self run₀ trace₀ table₀ (advancing_within (levelled m) has size t x n p)
    unfolding in_turn_within advancing_within ended
    in-turn-within zero p h = refl
    in-turn-within (suc n) p h =
        rw (entries-in m w self run₀ trace₀ table₀ t last p wide, same-before (flat_due m p.state) t) (go (is_before u t) refl (λ q k. in-turn-within n q k))
      where
        u : Time
        u = flat_due m p.state

        wide : Sat (suc t) p
        wide = (h.0, omega (arith, h.1), h.2, h.3)

        next : next_due m p.state ≡ u
        next = (agree-self m w self).same_next p.opening p.state p.state (refl, fit-opens m w p.opening p.opening p.state h.0 (omega arith) (fit-early m w p.opening p.state h.0))

        go : (b : Bool) → is_before u t ≡ b
            → ((q : Progress (List Entry)) → Sat t q → in_turn_within m has t x n (stage q) ≡ answer m w self run₀ trace₀ table₀ (advancing_within (levelled m) has size t x n q))
            → cond b (or_end (λ h. in_turn_within m has t x n h) (stage p) (attempt_within m has (ticks u) [] (stage p))) (or_end (λ h. (0, opened_past m t h)) (stage p) (attempt_within m has t x (stage p)))
            ≡ answer m w self run₀ trace₀ table₀ (cond b (continued (λ q. advancing_within (levelled m) has size t x n q) p (tried_within has size (ticks u) p (instant (levelled m) (ticks u) [] p.state)))
            (continued (succeeded t) p (tried_within has size t p (instant (levelled m) t x p.state))))
        go true e ih =
            let b = before-t t p.opening u (ap (not_before p.opening) (sym next) ∙ fit-early m w p.opening p.state h.0) e in
            let kept = fit-opens m w p.opening (ticks u) p.state h.0 b.0 (ap (not_before (ticks u)) next ∙ b.2) in
            ap (or_end (λ h. in_turn_within m has t x n h) (stage p)) (attempted-within (ticks u) [] p no-ports wide b.0 kept)
            ∙ continues m w self run₀ trace₀ table₀ t last (suc (ticks u)) _ _ p (within (ticks u) [] p no-ports wide b.0 kept) (sits-within (ticks u) [] p no-ports wide b.0 kept)
            (λ q k. ih q (k.0, omega (arith, k.1, b.1), k.2, k.3))
        go false e ih =
            let kept = fit-opens m w p.opening t p.state h.0 h.1 (ap (not_before t) next ∙ not-before-t t u e) in
            ap (or_end (λ h. (0, opened_past m t h)) (stage p)) (attempted-within t x p ports wide h.1 kept)
            ∙ continues m w self run₀ trace₀ table₀ t last (suc t) _ _ p (within t x p ports wide h.1 kept) (sits-within t x p ports wide h.1 kept) (opened-past m w self run₀ trace₀ table₀ t last)
