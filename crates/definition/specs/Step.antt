-- One step of a saved run: the root's resultant is given the state that the entries stand for, takes its transition, and is read
-- back. Assumes nothing.
use Rattle.std.specs.Prelude.{ℕ, ◌+◌, ◌-◌, List, [], ◌∷◌, ◌++◌, map, cond, eqb}
use Rattle.std.proofs.Math.Option.{Option, none, some}
use Rattle.definition.specs.Model.{Bag, Model, atomics, Tree, Forest, leaf, node, stop, more, tree}
use Rattle.definition.specs.Devs.{Time, Decided, Totals, devs_step}
use Rattle.definition.specs.Atomic.{unspent, devs_of, parts_of}
use Rattle.definition.specs.SavedRun.{Entry, no_entry, entry_of, next_due}

-- What a step gives: the root's output bag, and for each atomic in file order what decided its external part, none where it had no such part.
pub record Output : Type 0 where
  pub bag : Bag
  pub decided : List (Option ℕ)

-- Something to run: when it is next due, and its step at a moment with a bag.
pub record Stepped (S : Type 0) : Type 0 where
  pub out : Output
  pub state : S

pub record Simulator (S : Type 0) : Type 0 where
  pub next : S → Time
  pub step : ℕ → Bag → S → Stepped S

-- ---- the state at a moment

-- The time since an atomic's last moment is put at the atomic, all of it as elapsed time: nothing is spent before, and the levels above it
-- have none.
unfoldable pub elapsed : (ℕ → Entry) → ℕ → Tree → ℕ
elapsed at now (leaf c) = now - (at c).last
elapsed at now (node c f) = 0

unfoldable mutual
  pub load : (m : Model) (at : ℕ → Entry) (now : ℕ) (t : Tree) → (devs_of m t).State
  load m at now (leaf c) = unspent (at c).phase
  load m at now (node c f) = load_all m at now f

  pub load_all : (m : Model) (at : ℕ → Entry) (now : ℕ) (f : Forest) → Totals (parts_of m f)
  load_all m at now stop = tt
  load_all m at now (more t f) = ((load m at now t, elapsed at now t), load_all m at now f)

-- Read back: each atomic's phase, and now less what was spent and the elapsed times on the way to it; e is what the levels above have.
unfoldable mutual
  pub leaves_of : (m : Model) (now e : ℕ) (t : Tree) → (devs_of m t).State → List (ℕ × Entry)
  leaves_of m now e (leaf c) s = (c, record { phase = s.phase; last = now - (s.spent + e) }) ∷ []
  leaves_of m now e (node c f) s = leaves_of_all m now e f s

  pub leaves_of_all : (m : Model) (now e : ℕ) (f : Forest) → Totals (parts_of m f) → List (ℕ × Entry)
  leaves_of_all m now e stop s = []
  leaves_of_all m now e (more t f) s = leaves_of m now (e + s.0.1) t s.0.0 ++ leaves_of_all m now e f s.1

unfoldable pub assoc : List (ℕ × Entry) → ℕ → Entry
assoc [] c = no_entry
assoc (x ∷ xs) c = cond (eqb x.0 c) x.1 (assoc xs c)

-- The entries in file order.
unfoldable pub unload : (m : Model) (now : ℕ) (t : Tree) → (devs_of m t).State → List Entry
unload m now t s = map (assoc (leaves_of m now 0 t s)) (atomics m.components)

-- What was passed up to the root from the atomic c, and from each in file order.
unfoldable pub decided_of : List Decided → ℕ → Option ℕ
decided_of [] c = none
decided_of (d ∷ ds) c = cond (eqb d.atomic c) (some d.position) (decided_of ds c)

unfoldable pub decided_in_file_order : Model → List Decided → List (Option ℕ)
decided_in_file_order m ds = map (decided_of ds) (atomics m.components)

-- ---- the step

unfoldable pub step_on : Model → Tree → ℕ → Bag → List Entry → Stepped (List Entry)
step_on m t now x rs =
    let r = devs_step (devs_of m t) now x (record { state = load m (entry_of m rs) now t; event = now }) in
    record { out = record { bag = r.0; decided = decided_in_file_order m r.1.decided }; state = unload m now t r.1.state.state }

unfoldable pub step : Model → ℕ → Bag → List Entry → Stepped (List Entry)
step m now x rs = step_on m (tree m) now x rs

-- The nest, run from its saved entries.
abbrev pub nested : Model → Simulator (List Entry)
nested m = record { next = next_due m; step = step m }
