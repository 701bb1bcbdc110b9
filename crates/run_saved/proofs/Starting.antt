-- The entries of a start, component by component: a coupled one adds nothing. Assumes nothing.
use mathlib.Core.Path.{◌≡◌, refl, sym, ap, ◌∙◌}
use mathlib.Core.List.{List, [], ◌∷◌, ◌++◌, map, map-append, append-nil}
use mathlib.Core.Bool.{Bool, true, false, cond}
use Prim.Native.Nat.{ℕ, ◌+◌, ◌<◌}
use native.Mathlib.Omega.{arith}
use lib.ListN.{length}
use Rattle.definition.specs.Lists.{keep, up_from}
use Rattle.definition.specs.Limits.{max_components}
use Rattle.definition.specs.Model.{Component, component_at, is_atomic, atomics}
use Rattle.definition.specs.SavedRun.{Entry}
use Rattle.run_state.specs.declared.State.{State}
use Rattle.run_state.specs.Held.{entries_of, changed_at}
use Rattle.run_saved.specs.Runs.{start_entries}
use Rattle.run_saved.proofs.Entries.{Wide, entries-kept, entries_with}
use Rattle.model_records.proofs.Counting.{keep-more}

-- The first entry of component c, were it atomic.
abbrev started : List Component → ℕ → Entry
started cs c = record { phase = (component_at cs c).initial; last = 0 }

-- Those of the atomics before component c.
unfoldable pub started_to : List Component → ℕ → List Entry
started_to cs c = map (started cs) (keep (is_atomic cs) (up_from 0 c))

pub started_none : (cs : List Component) (st : State) → entries_of 0 st ≡ started_to cs 0
unfolding started_to entries_of keep up_from
started_none cs st = refl

pub started-more : (cs : List Component) (st : State) (c k p : ℕ) → Wide st → k < max_components → p ≡ (component_at cs c).initial
    → entries_of k st ≡ started_to cs c → entries_of (k + cond (is_atomic cs c) 1 0) (changed_at st k p 0) ≡ started_to cs (c + 1)
unfolding started_to
started-more cs st c k p w h q e = go (is_atomic cs c) (ap (map (started cs)) (keep-more (is_atomic cs) c) ∙ map-append (started cs) (keep (is_atomic cs) (up_from 0 c)) _)
  where
    go : (b : Bool) → map (started cs) (keep (is_atomic cs) (up_from 0 (c + 1))) ≡ map (started cs) (keep (is_atomic cs) (up_from 0 c)) ++ map (started cs) (cond b (c ∷ []) [])
        → entries_of (k + cond b 1 0) (changed_at st k p 0) ≡ map (started cs) (keep (is_atomic cs) (up_from 0 (c + 1)))
    go true f = entries_with st k p 0 w h ∙ rw (q, e) (sym f)
    go false f = let z : k + 0 ≡ k = omega arith in rw z (entries-kept st k p 0 ∙ e) ∙ sym (f ∙ append-nil (map (started cs) (keep (is_atomic cs) (up_from 0 c))))

pub started-all : (cs : List Component) → started_to cs (length cs) ≡ start_entries cs
unfolding started_to start_entries atomics
started-all cs = refl

pub length-atomics : (cs : List Component) → length (keep (is_atomic cs) (up_from 0 (length cs))) ≡ length (atomics cs)
unfolding atomics
length-atomics cs = refl
