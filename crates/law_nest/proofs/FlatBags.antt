-- The flat machine's bags: a coupling there carries at most what its one source sends, 16 messages of the given bag or 4 of an atomic.
-- Assumes nothing.
use mathlib.Core.Path.{◌≡◌, refl, ap, ◌∙◌}
use Prim.Native.Nat.{ℕ, ◌+◌, ◌*◌, ◌≤◌}
use mathlib.Core.List.{List, [], ◌∷◌}
use mathlib.Core.Bool.{Bool, true, false, ◌&&◌, cond}
use native.Mathlib.Omega.{arith}
use native.Mathlib.Nat.{mul-le-mul_right}
use lib.Dec.{eqb}
use lib.ListN.{length}
use borrow.Author.Tests.{eqb-true}
use Rattle.definition.specs.Lists.{count}
use Rattle.definition.specs.Limits.{max_outputs}
use Rattle.definition.specs.Model.{Bag, Coupling, Model, atomics, phase_at, outputs}
use Rattle.definition.specs.SavedRun.{Entry}
use Rattle.definition.specs.FlatMachine.{Sent, sent, due_now, put_out, all_sent, arriving}
use Rattle.definition.specs.AtomicBags.{ending_at}
use Rattle.law_base.proofs.Sums.{sum_of, sum-append, sum-map, sum-cond, sum-zero, sum-le, sum-swap, sum-scale, sum-const, sum_ones}
use Rattle.law_base.proofs.Lists.{count-sum}
use Rattle.law_model.proofs.WellFormed.{WellFormed}
use Rattle.law_nest.proofs.Occurs.{occurs}
use Rattle.law_nest.proofs.Components.{atomic-most}
use Rattle.law_nest.proofs.Carried.{weight}
use Rattle.law_nest.proofs.Carry.{root-absent}
use Rattle.law_nest.proofs.Arrivals.{arriving-sum}
use Rattle.law_nest.proofs.Capacity.{outputs-few}

-- what is sent in some steps only
if-most : (b : Bool) (n k : ℕ) → n ≤ k → cond b n 0 ≤ k
if-most true n k h = h
if-most false n k h = omega arith

module _ (m : Model) (w : WellFormed m) (now : ℕ) where
  -- ---- what one component sends

  module _ (s : ℕ) where
    -- a message that leaves s
    mine : Sent → ℕ
    mine z = cond (eqb s z.source) 1 0

    sent-mine : (c : ℕ) (x : Bag) → sum_of mine (sent c x) ≡ length x * cond (eqb s c) 1 0
    unfolding sent mine
    sent-mine c x = sum-map mine (λ y. record { source = c; message = y }) x ∙ sum-const (cond (eqb s c) 1 0) x

    put-mine : (cs : List ℕ) (rs : List Entry) → sum_of mine (put_out m now cs rs) ≤ max_outputs * occurs s cs
    unfolding put_out sum_of count
    put-mine [] rs = omega arith
    put-mine (c ∷ cs) [] = omega arith
    put-mine (c ∷ cs) (r ∷ rs) =
        let x = outputs (phase_at m c r.phase) in
        let b = due_now m now c r in
        let once = mul-le-mul_right (cond (eqb s c) 1 0) (outputs-few (phase_at m c r.phase)) in
        let here = if-most b (sum_of mine (sent c x)) (max_outputs * cond (eqb s c) 1 0) (omega (arith, sent-mine c x, once)) in
        omega (arith, sum-append mine (cond b (sent c x) []) (put_out m now cs rs), sum-cond mine b (sent c x), here, put-mine cs rs)

    -- the given bag leaves the root, which is no atomic, and an atomic stands once in the list
    all-mine : (n : ℕ) (x : Bag) (rs : List Entry) → length x ≤ n → max_outputs ≤ n → sum_of mine (all_sent m now x rs) ≤ n
    all-mine n x rs given most =
        let cs = atomics m.components in
        let both = sum-append mine (sent 0 x) (put_out m now cs rs) in
        go (eqb s 0) refl (omega (arith, both, sent-mine 0 x, put-mine cs rs))
      where
        go : (b : Bool) → eqb s 0 ≡ b → sum_of mine (all_sent m now x rs) ≤ length x * cond (eqb s 0) 1 0 + max_outputs * occurs s (atomics m.components)
            → sum_of mine (all_sent m now x rs) ≤ n
        go true e h =
            let none : occurs s (atomics m.components) ≡ 0 = ap (λ c. occurs c (atomics m.components)) (eqb-true s 0 e) ∙ root-absent m w in
            let k = rw e at h in omega arith
        go false e h = let k = rw e at h in omega (arith, atomic-most m.components w.components.fit w.some_component s)

  -- ---- what reaches a component

  -- along one coupling
  along : ℕ → Coupling → Sent → ℕ
  along a k z = weight a (λ y. 1) z.source z.message k

  along-few : (a n : ℕ) (x : Bag) (rs : List Entry) → length x ≤ n → max_outputs ≤ n → (k : Coupling) → sum_of (along a k) (all_sent m now x rs) ≤ n * cond (eqb k.target a) 1 0
  unfolding along weight
  along-few a n x rs given most k = go (eqb k.target a) refl
    where
      xs : List Sent
      xs = all_sent m now x rs

      one : (b c d : Bool) → cond (b && c && d) 1 0 ≤ cond {A = ℕ} b 1 0
      one false c d = omega arith
      one true false d = omega arith
      one true true false = omega arith
      one true true true = omega arith

      elsewhere : (b c : Bool) → cond (b && c && false) 1 0 ≤ 0
      elsewhere false c = omega arith
      elsewhere true false = omega arith
      elsewhere true true = omega arith

      go : (t : Bool) → eqb k.target a ≡ t → sum_of (along a k) (all_sent m now x rs) ≤ n * cond t 1 0
      go true e =
          let c = sum-le (along a k) (mine k.source) xs (λ z. unfold mine in one (eqb k.source z.source) (eqb k.source_port z.message.port) (eqb k.target a)) in
          omega (arith, c, all-mine k.source n x rs given most)
      go false e =
          let c = sum-le (along a k) (λ z. 0) xs (λ z. rw e (elsewhere (eqb k.source z.source) (eqb k.source_port z.message.port))) in
          omega (arith, c, sum-zero xs)

  -- at most n messages a coupling, where the given bag has at most n
  pub flat-bag : (n : ℕ) (x : Bag) (rs : List Entry) → length x ≤ n → max_outputs ≤ n → (a : ℕ) → length (arriving m now a (all_sent m now x rs)) ≤ n * ending_at a m.couplings
  unfolding ending_at along
  flat-bag n x rs given most a =
      let xs = all_sent m now x rs in
      let ks = m.couplings in
      omega (
        arith,
        sum_ones (arriving m now a xs),
        arriving-sum m now a (λ y. 1) xs,
        sum-swap (λ z k. weight a (λ y. 1) z.source z.message k) xs ks,
        sum-le (λ k. sum_of (along a k) xs) (λ k. n * cond (eqb k.target a) 1 0) ks (along-few a n x rs given most),
        sum-scale n (λ k. cond (eqb k.target a) 1 0) ks,
        ap (λ c. n * c) (count-sum (λ k. eqb k.target a) ks),
      )
