-- A channel's turn is refused by a row of its table, or it may be taken and is then its instants; and with a bag that is there it asks what an
-- advance asks. Assumes nothing.
use mathlib.Core.Path.{◌≡◌, refl, ap, ◌∙◌}
use mathlib.Core.Logic.{◌⊎◌, inl, inr}
use mathlib.Core.Option.{Option, none, some}
use Prim.Native.Nat.{ℕ, ◌+◌, ◌≤◌, ◌<◌}
use mathlib.Core.List.{List, [], ◌++◌}
use mathlib.Core.Bool.{Bool, true, false, ◌||◌, not}
use lib.Dec.{ltb}
use native.Mathlib.Omega.{arith}
use lib.ListN.{length, take, length-append}
use lib.Seq.{take_at, drop_at}
use borrow.Author.Tests.{ltb-true, ltb-false, lt-ltb, le-ltb}
use Rattle.definition.specs.Bytes.{Bytes, Result, ok, refused, refuse_if, ◌>>=◌}
use Rattle.definition.specs.Limits.{max_moment}
use Rattle.definition.specs.Model.{Model}
use Rattle.definition.specs.SavedRun.{Entry, run_of, run_fits}
use Rattle.definition.specs.Step.{nested}
use Rattle.definition.specs.Advance.{Ended}
use Rattle.definition.specs.Engine.{to_bag, bag_fits, advance_checks, advanced}
use Rattle.definition.specs.Channels.{advance_within, Place, bag_at, Channel, or_past_end, turn_checks, turn}
use Rattle.definition.specs.ChannelRows.{TurnRefusal, turn_refuses_run, turn_refuses_time, turn_refuses_place, turn_refuses_bag, MayTurn, refused_turn}
use Rattle.law_base.proofs.Tests.{or_left, or_right}
use Rattle.law_model.proofs.Answers.{in_time}

-- ---- its bag, by its place

pub place_past : (bags : Bytes) (p : Place) → length bags < p.start + p.size → bag_at bags p ≡ none
unfolding bag_at
place_past bags p l = rw (lt-ltb (length bags) (p.start + p.size) l)

pub place_inside : (front bag rest : Bytes) → bag_at (front ++ (bag ++ rest)) (record { start = length front; size = length bag }) ≡ some bag
unfolding bag_at
place_inside front bag rest =
    rw (le-ltb (length (front ++ (bag ++ rest))) (length front + length bag) (omega (arith, length-append front (bag ++ rest), length-append bag rest)))
    (ap (λ s. some (take (length bag) s)) (drop_at front (bag ++ rest) (length front) refl) ∙ ap some (take_at bag rest (length bag) refl))

module _ (m : Model) (t : ℕ) (c : Channel) where
  abbrev open_at : ℕ
  open_at = (run_of m c.run).opening

  -- ---- its checks

  pub checks-refused : (n : ℕ) → TurnRefusal m t c n → turn_checks m t c ≡ refused n
  unfolding turn_checks or_past_end
  checks-refused n (turn_refuses_run f) = rw f
  checks-refused n (turn_refuses_time f (inl l)) = rw (f, or_left (ltb t open_at) (ltb max_moment t) (lt-ltb t open_at l))
  checks-refused n (turn_refuses_time f (inr l)) = rw (f, or_right (ltb t open_at) (ltb max_moment t) (lt-ltb max_moment t l))
  checks-refused n (turn_refuses_place f o l p) = rw (f, in_time m c.run t o l, p)
  checks-refused n (turn_refuses_bag f o l bag p g) = rw (f, in_time m c.run t o l, p, g)

  pub checks-may : (bag : Bytes) → MayTurn m t c bag → turn_checks m t c ≡ ok bag
  unfolding turn_checks or_past_end
  checks-may bag h = rw (h.run_fits_lem, in_time m c.run t h.not_early h.not_late, h.inside, h.bag_fits_lem)

  -- A row refuses it, or it may be taken.
  pub turn-or : ((n : ℕ) × TurnRefusal m t c n) ⊎ ((bag : Bytes) × MayTurn m t c bag)
  turn-or = go (run_fits m c.run) refl (ltb t open_at) refl (ltb max_moment t) refl c.bag refl
    where
      judged : run_fits m c.run ≡ true → open_at ≤ t → t ≤ max_moment → (bag : Bytes) → c.bag ≡ some bag → (g : Bool) → bag_fits bag ≡ g
          → ((n : ℕ) × TurnRefusal m t c n) ⊎ ((bag : Bytes) × MayTurn m t c bag)
      judged f o l bag p false g = inl (12, turn_refuses_bag f o l bag p g)
      judged f o l bag p true g = inr (bag, record { run_fits_lem = f; not_early = o; not_late = l; inside = p; bag_fits_lem = g })

      go : (a : Bool) → run_fits m c.run ≡ a → (u : Bool) → ltb t open_at ≡ u → (v : Bool) → ltb max_moment t ≡ v → (b : Option Bytes) → c.bag ≡ b
          → ((n : ℕ) × TurnRefusal m t c n) ⊎ ((bag : Bytes) × MayTurn m t c bag)
      go false f u h v i b p = inl (10, turn_refuses_run f)
      go true f true h v i b p = inl (11, turn_refuses_time f (inl (ltb-true t open_at h)))
      go true f false h true i b p = inl (11, turn_refuses_time f (inr (ltb-true max_moment t i)))
      go true f false h false i none p = inl (12, turn_refuses_place f (ltb-false t open_at h) (ltb-false max_moment t i) p)
      go true f false h false i (some bag) p = judged f (ltb-false t open_at h) (ltb-false max_moment t i) bag p (bag_fits bag) refl

  -- With a bag that is there it asks what an advance asks.
  pub checks-alike : (bag : Bytes) → c.bag ≡ some bag → turn_checks m t c ≡ (advance_checks m c.run t bag >>= λ _. ok bag)
  unfolding turn_checks advance_checks or_past_end
  checks-alike bag p = rw p (go (not (run_fits m c.run)) (ltb t open_at || ltb max_moment t) (not (bag_fits bag)))
    where
      go : (a b d : Bool) → (refuse_if a 10 >>= λ _. refuse_if b 11 >>= λ _. refuse_if d 12 >>= λ _. ok bag) ≡ ((refuse_if a 10 >>= λ _. refuse_if b 11 >>= λ _. refuse_if d 12) >>= λ _. ok bag)
      go true b d = refl
      go false true d = refl
      go false false true = refl
      go false false false = refl

-- ---- the turn

module _ (m : Model) (t has : ℕ) (c : Channel) where
  pub turn_refused : (n : ℕ) → TurnRefusal m t c n → turn m t has c ≡ refused_turn n c
  unfolding turn advanced
  turn_refused n r = rw (checks-refused m t c n r)

  -- where its instants end, with a bag
  abbrev pub end_within : Bytes → Ended (List Entry)
  end_within bag = advance_within (nested m) has (length c.trace) t (to_bag bag) (run_of m c.run).opening (run_of m c.run).entries

  pub turn-may : (bag : Bytes) → MayTurn m t c bag → turn m t has c ≡ advanced c.run c.trace [] (ok (end_within bag))
  unfolding turn
  turn-may bag h = rw (checks-may m t c bag h)

  pub turn_inside : (bag : Bytes) → c.bag ≡ some bag → turn m t has c ≡ advanced c.run c.trace [] (advance_checks m c.run t bag >>= λ _. ok (end_within bag))
  unfolding turn
  turn_inside bag p = rw (checks-alike m t c bag p) (go (advance_checks m c.run t bag))
    where
      go : (r : Result (Unit {0})) → advanced c.run c.trace [] ((r >>= λ _. ok bag) >>= λ b. ok (end_within b)) ≡ advanced c.run c.trace [] (r >>= λ _. ok (end_within bag))
      go (ok u) = refl
      go (refused n) = refl
