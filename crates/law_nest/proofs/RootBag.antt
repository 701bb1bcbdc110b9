-- The root's output bag in a step of the nest: at most 4 messages for each route that ends there, with any bag and from any state, so at most
-- 4,096 in an accepted model. What holds such a bag, or the two bytes of its count, rests on this. Assumes nothing.
use Prim.Native.Nat.{ℕ, ◌*◌, ◌≤◌}
use mathlib.Core.List.{List, [], ◌∷◌}
use mathlib.Core.Bool.{Bool, true, false}
use native.Mathlib.Omega.{arith}
use native.Mathlib.Nat.{mul-le-mul_left}
use lib.ListN.{length}
use Rattle.definition.specs.Limits.{max_outputs, max_routes, max_root_bag}
use Rattle.definition.specs.Model.{Bag, Model, tree}
use Rattle.definition.specs.Routes.{routes}
use Rattle.definition.specs.Devs.{transition, devs_step}
use Rattle.definition.specs.SavedRun.{Entry, entry_of}
use Rattle.definition.specs.Step.{load, step_on, step}
use Rattle.definition.specs.Carrying.{root_of}
use Rattle.definition.specs.AtomicBags.{ending_at}
use Rattle.definition.specs.RootBags.{NestPutsOut}
use Rattle.law_model.proofs.WellFormed.{WellFormed}
use Rattle.law_nest.proofs.Capacity.{ending-most, ending-routes}
use Rattle.law_nest.proofs.Handed.{root-out-few}

module _ (m : Model) (w : WellFormed m) where
  transition-few : (b : Bool) (e : ℕ) (x : Bag) (s : (root_of m).State) → length (transition (root_of m) b e x s).0 ≤ max_outputs * ending_at 0 (routes m)
  unfolding transition
  transition-few true e [] s = omega (arith, root-out-few m w s, ending-routes m 0)
  transition-few true e (y ∷ x) s = omega (arith, root-out-few m w s, ending-routes m 0)
  transition-few false e x s = omega arith

  pub put-out-few : NestPutsOut m (max_outputs * ending_at 0 (routes m))
  unfolding devs_step
  put-out-few now x q = transition-few _ _ x _

  -- of a step from saved entries
  pub step-few : (now : ℕ) (x : Bag) (rs : List Entry) → length (step m now x rs).out.bag ≤ max_outputs * length (routes m)
  unfolding step step_on
  step-few now x rs = omega (arith, put-out-few now x (record { state = load m (entry_of m rs) now (tree m); event = now }), mul-le-mul_left max_outputs (ending-most 0 (routes m)))

  module _ (few : length (routes m) ≤ max_routes) where
    pub put-out-most : NestPutsOut m max_root_bag
    put-out-most now x q = omega (arith, put-out-few now x q, ending-most 0 (routes m), few)

    pub step-most : (now : ℕ) (x : Bag) (rs : List Entry) → length (step m now x rs).out.bag ≤ max_root_bag
    step-most now x rs = omega (arith, step-few now x rs, few)
