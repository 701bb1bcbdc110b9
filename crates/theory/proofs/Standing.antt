-- There is a state of the root's resultant for every saved run: the initial one for what a start saves, and the loaded one for every run that
-- fits. Assumes nothing.
use mathlib.Core.Path.{◌≡◌, sym, ap, subst}
use Prim.Native.Nat.{ℕ}
use mathlib.Core.List.{List}
use mathlib.Core.Bool.{true}
use native.Mathlib.Omega.{arith}
use lib.ListN.{length-map}
use Rattle.definition.specs.Model.{Model, component_at, is_atomic, atomics, Tree, Forest, leaf, node, stop, more, tree}
use Rattle.definition.specs.Atomic.{unspent}
use Rattle.definition.specs.SavedRun.{Entry, atomic_count, entry_of}
use Rattle.definition.specs.Step.{load, elapsed}
use Rattle.definition.specs.Engine.{start_run}
use Rattle.definition.specs.Carrying.{initially, initially_all, Stands, StandsAll, StandsFor, at_start}
use Rattle.law_model.proofs.WellFormed.{WellFormed}
use Rattle.law_nest.proofs.Pairs.{look_up-map}
use Rattle.law_nest.proofs.Trees.{OnlyIn, OnlyInAll, only-in}
use Rattle.law_nest.proofs.Components.{atomic-once, root, shape, leaves}
use Rattle.law_nest.proofs.AnySplit.{load-stands}
use Rattle.law_nest.proofs.Stepping.{long, ready}
use Rattle.law_calls.proofs.Kept.{Fit, fit-opens, fit-early}

module _ (m : Model) (w : WellFormed m) where
  -- ---- at a start

  -- each atomic is in its initial phase, and was changed at 0
  Begun : (ℕ → Entry) → Type 0
  Begun at = (c : ℕ) → is_atomic m.components c ≡ true → at c ≡ record { phase = (component_at m.components c).initial; last = 0 }

  begun : Begun (entry_of m (start_run m).entries)
  unfolding Begun entry_of start_run
  begun c e = look_up-map _ (atomics m.components) c (let o = atomic-once m.components w.components.fit w.some_component c e in omega arith)

  mutual
    unfolding Begun initially unspent

    initial-stands : (at : ℕ → Entry) → Begun at → (t : Tree) → OnlyIn (is_atomic m.components) t → Stands m at 0 0 t (initially m t)
    initial-stands at h (leaf c) o = (sym (ap (λ r. r.phase) (h c o)), omega (arith, ap (λ r. r.last) (h c o)))
    initial-stands at h (node c f) o = initials-stand at h f o

    initials-stand : (at : ℕ → Entry) → Begun at → (f : Forest) → OnlyInAll (is_atomic m.components) f → StandsAll m at 0 0 f (initially_all m f)
    initials-stand at h stop o = tt
    initials-stand at h (more t f) o = (initial-stands at h t o.0, initials-stand at h f o.1)

  pub start-stands : StandsFor m 0 (at_start m).since (start_run m).entries
  unfolding start_run atomic_count
  start-stands = record {
    stands = initial-stands (entry_of m (start_run m).entries) begun (tree m) (subst (OnlyIn (is_atomic m.components)) (sym (shape m w)) (only-in (is_atomic m.components) (root m) (leaves m w)));
    in_time = omega arith;
    each = length-map (atomics m.components) _;
  }

  -- ---- at any open moment

  pub loaded : (o : ℕ) (rs : List Entry) → Fit m o rs → StandsFor m o (record { state = load m (entry_of m rs) o (tree m); event = o }) rs
  unfolding elapsed atomic_count
  loaded o rs h =
      let g = (fit-opens m w o o rs h (omega arith) (fit-early m w o rs h)).0 in
      record {
        stands = subst (λ t. Stands m (entry_of m rs) o 0 t (load m (entry_of m rs) o t)) (sym (shape m w)) (load-stands m (entry_of m rs) o (root m) (ready m w o rs g));
        in_time = omega arith;
        each = long m w o rs g;
      }
