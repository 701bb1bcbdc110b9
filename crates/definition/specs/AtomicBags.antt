-- What request (iv) of document 02, "Narrower counter in the rule search", asks to be shown, as statements about the definitions; crate `theory`
-- proves them. They hold from any state of the nest and any entries, reachable or not, so in every step of every run. Assumes nothing.
use Rattle.std.specs.Prelude.{◌≡◌, ℕ, ◌*◌, ◌≤◌, List, true, eqb, length}
use Rattle.definition.specs.Lists.{count}
use Rattle.definition.specs.Bytes.{Bytes, AllBytes, ok}
use Rattle.definition.specs.Limits.{max_given, max_atomic_bag}
use Rattle.definition.specs.Model.{Coupling, Model}
use Rattle.definition.specs.Routes.{routes}
use Rattle.definition.specs.Pinned.Decoder.{accepted}
use Rattle.definition.specs.Sound.{Every}
use Rattle.definition.specs.Devs.{Since, devs_step}
use Rattle.definition.specs.SavedRun.{Entry}
use Rattle.definition.specs.Engine.{to_bag, bag_fits}
use Rattle.definition.specs.FlatMachine.{all_sent, arriving}
use Rattle.definition.specs.Carrying.{root_of}

-- How many of the couplings end at component c; a route is written as a coupling.
unfoldable pub ending_at : ℕ → List Coupling → ℕ
ending_at c ks = count (λ k. eqb k.target c) ks

-- A step of the root's resultant at any moment, from any state: every external part had a bag within the limit of its atomic. The bag given is
-- one that fits; that of an instant's later steps is empty, which fits too.
abbrev pub NestWithin : Model → (ℕ → ℕ) → Type 0
NestWithin m limit =
    (bag : Bytes) → bag_fits bag ≡ true → (now : ℕ) (q : Since (root_of m))
    → Every (λ d. d.messages ≤ limit d.atomic) (devs_step (root_of m) now (to_bag bag) q).1.decided

-- A step of the flat machine at any moment, from any entries: "What reaches an atomic is its bag", and here c is any component.
abbrev pub FlatWithin : Model → (ℕ → ℕ) → Type 0
FlatWithin m limit =
    (bag : Bytes) → bag_fits bag ≡ true → (now : ℕ) (rs : List Entry) (c : ℕ) → length (arriving m now c (all_sent m now (to_bag bag) rs)) ≤ limit c

pub record BagsOf (m : Model) : Type 0 where
  -- "since a route carries at most 16": a bag has at most 16 messages for each route that ends at its atomic
  pub by_routes : NestWithin m (λ c. max_given * ending_at c (routes m))
  -- in the flat machine for each coupling: those of a flat form, itself an accepted model (demand 3), are the routes
  pub flat_by_couplings : FlatWithin m (λ c. max_given * ending_at c m.couplings)
  -- "no bag of an atomic can hold more than 16,384 messages"
  pub nest : NestWithin m (λ c. max_atomic_bag)
  pub flat : FlatWithin m (λ c. max_atomic_bag)

unfoldable pub AtomicBags : Type 0
AtomicBags = (file : Bytes) (m : Model) → AllBytes file → accepted file ≡ ok m → BagsOf m
