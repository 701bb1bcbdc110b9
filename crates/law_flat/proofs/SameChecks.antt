-- The flat form asks the same of a run as the model, and starts the same one: its atomics are the model's, by other numbers, with their
-- phases and advances. Assumes nothing.
use mathlib.Core.Path.{◌≡◌, refl, ap, ap₂, ◌∙◌}
use Prim.Native.Nat.{ℕ}
use mathlib.Core.List.{List, [], ◌∷◌, map, map-map}
use mathlib.Core.Bool.{true, ◌&&◌, ◌||◌}
use lib.Dec.{ltb, eqb}
use lib.ListN.{length, length-map}
use Rattle.definition.specs.Bytes.{Bytes}
use Rattle.definition.specs.Lists.{all}
use Rattle.definition.specs.Model.{Model, component_at, is_atomic, atomics}
use Rattle.definition.specs.Devs.{Time}
use Rattle.definition.specs.SavedRun.{Entry, to_run, not_before, entry_fits, entries_fit, atomic_count, run_of, run_fits}
use Rattle.definition.specs.Flatten.{renumbered, flat_atomic, flat}
use Rattle.definition.specs.Engine.{start_run, advance_checks, reading_checks}
use Rattle.law_base.proofs.Tests.{and_left, and_right}
use Rattle.law_base.proofs.Lists.{map-cong-if}
use Rattle.law_model.proofs.WellFormed.{WellFormed}
use Rattle.law_nest.proofs.Components.{atomics-atomic}
use Rattle.law_nest.proofs.Renumber.{flat-atomics, new-atomics, flat-component, flat-due}

module _ (m : Model) (w : WellFormed m) where
  pub same_count : atomic_count (flat m) ≡ atomic_count m
  unfolding atomic_count
  same_count = ap length (new-atomics m w) ∙ length-map (atomics m.components) (renumbered m.components)

  pub same-run : (s : Bytes) → run_of (flat m) s ≡ run_of m s
  unfolding run_of
  same-run s = ap (λ n. to_run n s) same_count

  same-entry : (o c : ℕ) (r : Entry) → is_atomic m.components c ≡ true → entry_fits (flat m) o (renumbered m.components c) r ≡ entry_fits m o c r
  unfolding entry_fits
  same-entry o c r e = ap₂ (λ (n : ℕ) (u : Time). ltb r.phase n && (ltb r.last o || (eqb o 0 && eqb r.last 0)) && not_before o u) phases (flat-due m w c e r)
    where
      phases : (component_at (flat m).components (renumbered m.components c)).phases ≡ (component_at m.components c).phases
      phases = unfold flat flat_atomic in (ap (λ k. k.phases) (flat-component m.components w.components.fit w.some_component c e))

  same_entries : (o : ℕ) (cs : List ℕ) (rs : List Entry) → all (is_atomic m.components) cs ≡ true
      → entries_fit (flat m) o (map (renumbered m.components) cs) rs ≡ entries_fit m o cs rs
  unfolding entries_fit all
  same_entries o [] rs h = refl
  same_entries o (c ∷ cs) [] h = refl
  same_entries o (c ∷ cs) (r ∷ rs) h =
      rw (same-entry o c r (and_left (is_atomic m.components c) _ h), same_entries o cs rs (and_right (is_atomic m.components c) _ h))

  pub same-fits : (s : Bytes) → run_fits (flat m) s ≡ run_fits m s
  unfolding run_fits
  same-fits s =
      let r = run_of m s in
      rw (
        same-run s,
        same_count,
        new-atomics m w,
        same_entries r.opening (atomics m.components) r.entries (atomics-atomic m.components w.components.fit w.some_component),
      )

  pub same-checks : (run : Bytes) (t : ℕ) (bag : Bytes) → advance_checks (flat m) run t bag ≡ advance_checks m run t bag
  unfolding advance_checks
  same-checks run t bag = rw (same-fits run, same-run run)

  pub same-reading : (run : Bytes) (position : ℕ) → reading_checks (flat m) run position ≡ reading_checks m run position
  unfolding reading_checks
  same-reading run position = rw (same-fits run, same_count)

  pub same_start : start_run (flat m) ≡ start_run m
  unfolding start_run flat flat_atomic
  same_start =
      let cs = m.components in
      let entry : ℕ → Entry = λ n. record { phase = n; last = 0 } in
      ap (λ l. record { opening = 0; entries = l })
      (ap (map (λ c. entry (component_at (flat m).components c).initial)) (flat-atomics cs w.components.fit w.some_component)
      ∙ map-map _ (renumbered cs) (atomics cs)
      ∙ map-cong-if (is_atomic cs) _ (λ c. entry (component_at cs c).initial) (atomics cs) (atomics-atomic cs w.components.fit w.some_component)
      (λ c e. ap (λ k. entry k.initial) (flat-component cs w.components.fit w.some_component c e)))
