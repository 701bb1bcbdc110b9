-- Request (iv): a route carries at most 16 messages, so no bag of an atomic can hold more than 16,384: what the resultants hand it in any step from
-- any state, and what reaches it in the flat machine. Assumes nothing.
use mathlib.Core.Path.{◌≡◌, sym, subst}
use Prim.Native.Nat.{ℕ, ◌+◌, ◌*◌, ◌-◌, ◌≤◌}
use mathlib.Core.Bool.{Bool, true}
use native.Mathlib.Omega.{arith}
use lib.ListN.{length}
use Rattle.definition.specs.Lists.{all}
use Rattle.definition.specs.Limits.{max_outputs, max_given}
use Rattle.definition.specs.Model.{Bag, Model, Tree, tree}
use Rattle.definition.specs.Records.{port_fits}
use Rattle.definition.specs.Routes.{ends_in, ways_from, root_ends, routes}
use Rattle.definition.specs.Sound.{Every}
use Rattle.definition.specs.Devs.{finite, same_time, transition, devs_step}
use Rattle.definition.specs.Atomic.{devs_of}
use Rattle.definition.specs.Carrying.{root_of}
use Rattle.definition.specs.Engine.{to_bag}
use Rattle.definition.specs.AtomicBags.{ending_at, NestWithin, FlatWithin, AtomicBags}
use Rattle.law_model.proofs.WellFormed.{WellFormed}
use Rattle.law_model.proofs.Reading.{accepted_sound}
use Rattle.law_nest.proofs.Components.{parts_of_root, shape}
use Rattle.law_nest.proofs.Hits.{hits}
use Rattle.law_nest.proofs.Capacity.{ending-most, route-carries, routes-carry}
use Rattle.law_nest.proofs.Handed.{handed-few}
use Rattle.law_nest.proofs.BagsTold.{Within, HandsWithin, transition-told}
use Rattle.law_nest.proofs.FlatBags.{flat-bag}
use Rattle.law_flat.proofs.Checks.{bag-fine, bag-few}

module _ (m : Model) (w : WellFormed m) where
  -- ---- the nest

  -- at most 16 messages a route
  hands-few : (b : Bool) (x : Bag) (s : (root_of m).State) → length x ≤ max_given → all port_fits x ≡ true → HandsWithin m (λ c. max_given * ending_at c (routes m)) (tree m) s b x
  hands-few b x s few ports a =
      let ks = m.couplings in
      let given = hits a (λ z. 1) (ends_in ks (tree m)) x in
      let sent = max_outputs * ending_at a (ways_from ks root_ends (tree m)) in
      let carried : given + sent ≤ max_given * ending_at a (routes m)
      = routes-carry m a max_given given sent (omega arith) (route-carries a max_given 0 (ends_in ks (tree m)) x few ports) (omega arith) in
      omega (arith, handed-few m a w (tree m) s b x root_ends, carried)

  -- where nobody is handed more than a limit, nobody tells of more
  told : (limit : ℕ → ℕ) (b : Bool) (e : ℕ) (x : Bag) (s : (root_of m).State) → HandsWithin m limit (tree m) s b x → Every (Within m limit) (transition (root_of m) b e x s).1.decided
  told limit b e x =
      subst (λ (t : Tree). (s : (devs_of m t).State) → HandsWithin m limit t s b x → Every (Within m limit) (transition (devs_of m t) b e x s).1.decided) (sym (shape m w))
      (transition-told m limit 0 (parts_of_root m) b e x)

  nest-within : (limit : ℕ → ℕ) → ((c : ℕ) → max_given * ending_at c (routes m) ≤ limit c) → NestWithin m limit
  unfolding devs_step
  nest-within limit enough bag fits now q =
      let over = same_time ((root_of m).ta q.state) (finite (now - q.event)) in
      told limit over _ (to_bag bag) q.state (λ a. omega (arith, hands-few over (to_bag bag) q.state (bag-few bag fits) (bag-fine bag fits) a, enough a))

  -- ---- the flat machine

  flat-within : (limit : ℕ → ℕ) → ((c : ℕ) → max_given * ending_at c m.couplings ≤ limit c) → FlatWithin m limit
  flat-within limit enough bag fits now rs c = omega (arith, flat-bag m w now max_given (to_bag bag) rs (bag-few bag fits) (omega arith) c, enough c)

pub atomic-bags : AtomicBags
unfolding AtomicBags
atomic-bags file m bytes e =
    let s = accepted_sound file m bytes e in
    record {
      by_routes = nest-within m s.sound _ (λ c. omega arith);
      flat_by_couplings = flat-within m s.sound _ (λ c. omega arith);
      nest = nest-within m s.sound _ (λ c. omega (arith, ending-most c (routes m), s.few_routes));
      flat = flat-within m s.sound _ (λ c. omega (arith, ending-most c m.couplings, s.sound.couplings.few));
    }
