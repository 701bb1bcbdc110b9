-- The next due moment by the tables, by recursion over child links, is that of the model: its tree has the same children. Assumes nothing.
use mathlib.Core.Path.{◌≡◌, refl, sym, ap, ap₂, ◌∙◌}
use Prim.Native.Nat.{ℕ, zero, suc, ◌+◌, ◌≤◌, ◌<◌}
use mathlib.Core.List.{List, [], ◌∷◌, map}
use mathlib.Core.Bool.{Bool, true, false, ◌&&◌, cond}
use native.Mathlib.Omega.{arith}
use lib.Dec.{eqb, leb, ltb}
use lib.ListN.{length, get_or}
use borrow.Author.Tests.{ltb-true}
use Rattle.definition.specs.Lists.{all}
use Rattle.definition.specs.Limits.{max_components}
use Rattle.definition.specs.Model.{Model, is_atomic, atomics, is_child, children, leaf, node, forest, tree}
use Rattle.definition.specs.Devs.{Time, earlier}
use Rattle.definition.specs.SavedRun.{due_of, due_at, due_all, next_due}
use Rattle.definition.specs.Flatten.{place_in}
use Rattle.law_base.proofs.Tests.{and_left, and_right}
use Rattle.law_model.proofs.WellFormed.{WellFormed}
use Rattle.law_nest.proofs.Occurs.{kept-tests}
use Rattle.law_nest.proofs.Places.{place-below, place_at}
use Rattle.law_nest.proofs.Components.{atomic-once}
use Rattle.run_state.specs.declared.State.{State}
use Rattle.spec_step.specs.Tables.{positions_at, child_rows, atomic_at}
use Rattle.spec_step.specs.TableStep.{due_at_position, least_of, due_below, table_next}
use Rattle.spec_step.specs.Tabled.{Tabled}
use Rattle.law_routes.specs.Ways.{sub}
use Rattle.law_routes.proofs.Nests.{sub-step}
use Rattle.law_step.proofs.Ends.{rising}
use Rattle.law_step.proofs.Positions.{held_at, entries, at_entry, entry_at, due-at}
use Rattle.law_step.proofs.StepLaw.{Holds}

module _ (m : Model) (w : WellFormed m) (t : List ℕ) (h : Tabled m t) (st : State) (now : ℕ) (k : Holds m now st) where
  least-cong : (q : ℕ → Bool) (f g : ℕ → Time) (l : List ℕ) → all q l ≡ true → ((c : ℕ) → q c ≡ true → f c ≡ g c) → least_of f l ≡ least_of g l
  unfolding least_of all
  least-cong q f g [] e s = refl
  least-cong q f g (c ∷ l) e s = ap₂ earlier (s c (and_left (q c) _ e)) (least-cong q f g l (and_right (q c) _ e) s)

  least-forest : (l : List ℕ) → least_of (λ c. due_at m (at_entry m w st) (sub m.components c)) l ≡ due_all m (at_entry m w st) (forest (map (sub m.components) l))
  unfolding least_of due_at forest
  least-forest [] = refl
  least-forest (c ∷ l) = ap (earlier (due_at m (at_entry m w st) (sub m.components c))) (least-forest l)

  -- an atomic, by its position
  atomic-due : (c : ℕ) → is_atomic m.components c ≡ true → due_at_position m.phases t st (get_or t (positions_at + c) 0) ≡ due_of m c (at_entry m w st c)
  atomic-due c e =
      let o = atomic-once m.components w.components.fit w.some_component c e in
      let i = place_in c (atomics m.components) in
      let l : i < length (atomics m.components) = place-below c (atomics m.components) (omega arith) in
      ap (due_at_position m.phases t st) (h.positions c e) ∙ due-at m w st t h i l (k.soon i l)
      ∙ ap (λ d. due_of m d (held_at st i)) (place_at c (atomics m.components) 0 (omega arith)) ∙ ap (due_of m c) (sym (entry_at m w st c e))

  below-is : (n c : ℕ) → c < length m.components → length m.components ≤ n + c → due_below m.phases t st n c ≡ due_at m (at_entry m w st) (sub m.components c)
  unfolding due_below children
  below-is zero c l s = absurd (omega arith)
  below-is (suc n) c l s =
      ap (λ b. cond b (due_at_position m.phases t st (get_or t (positions_at + c) 0)) (least_of (due_below m.phases t st n) (child_rows t c))) (kind c l)
      ∙ go (is_atomic m.components c) refl
      (least-cong (λ d. is_child m.components c d && (leb 0 d && ltb d (0 + length m.components))) (due_below m.phases t st n) (λ d. due_at m (at_entry m w st) (sub m.components d)) (children m.components c)
      (kept-tests (is_child m.components c) 0 (length m.components))
      (λ d e. let p = and_left (is_child m.components c d) _ e in
      let b = ltb-true d (0 + length m.components) (and_right (leb 0 d) _ (and_right (is_child m.components c d) _ e)) in
      let r = rising m w c d p (omega arith) in
      below-is n d (omega arith) (omega arith)))
      ∙ ap (due_at m (at_entry m w st)) (sym (sub-step m.components (rising m w) c))
    where
      kind : (c : ℕ) → c < length m.components → atomic_at t c ≡ is_atomic m.components c
      kind c l = unfold atomic_at is_atomic in (ap (λ n. eqb n 1) (h.kinds c l))

      go : (b : Bool) → is_atomic m.components c ≡ b
          → least_of (due_below m.phases t st n) (children m.components c) ≡ least_of (λ d. due_at m (at_entry m w st) (sub m.components d)) (children m.components c)
          → cond (is_atomic m.components c) (due_at_position m.phases t st (get_or t (positions_at + c) 0)) (least_of (due_below m.phases t st n) (child_rows t c))
          ≡ due_at m (at_entry m w st) (cond (is_atomic m.components c) (leaf c) (node c (forest (map (sub m.components) (children m.components c)))))
      go true e ih = rw e (atomic-due c e ∙ (unfold due_at in refl))
      go false e ih = rw e (ap (least_of (due_below m.phases t st n)) (h.childs c l) ∙ ih ∙ least-forest (children m.components c) ∙ (unfold due_at in refl))

  pub table-next : table_next m.phases t st ≡ next_due m (entries m w st)
  unfolding table_next next_due tree sub
  table-next = below-is max_components 0 w.some_component (omega (arith, w.components.few))
