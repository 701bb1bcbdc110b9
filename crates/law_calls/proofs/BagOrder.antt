-- The order of messages in a bag changes nothing: of a bag that reaches any component of a nest, and of a given bag. Assumes nothing.
use mathlib.Core.Path.{◌≡◌, refl, sym, ap, ap₂, ◌∙◌}
use Prim.Native.Nat.{ℕ, ◌+◌}
use mathlib.Core.List.{List, [], ◌∷◌, ◌++◌}
use mathlib.Core.Option.{Option}
use mathlib.Core.Bool.{Bool, true, false, cond}
use native.Mathlib.Omega.{arith}
use Rattle.definition.specs.Lists.{count, Same}
use Rattle.definition.specs.Model.{Message, Bag, Coupling, Model, atomics, Tree, Forest, leaf, node, stop, more, name_of}
use Rattle.definition.specs.Routes.{ends_in}
use Rattle.definition.specs.Devs.{Time, same_time, ticks, Devs, Totals, translate, least_sigma, outputs_to, anew, changed, changed_all, resultant_ext, resultant_con}
use Rattle.definition.specs.Atomic.{devs_of, parts_of}
use Rattle.definition.specs.SavedRun.{Entry, entry_of}
use Rattle.definition.specs.Step.{nested}
use Rattle.definition.specs.FlatMachine.{due_now}
use Rattle.law_base.proofs.Bags.{count-append, message-perm, same_length}
use Rattle.law_base.proofs.Lists.{sum-perm, count-sum}
use Rattle.law_model.proofs.WellFormed.{WellFormed}
use Rattle.law_nest.proofs.Pairs.{paired}
use Rattle.law_nest.proofs.Components.{root}
use Rattle.law_nest.proofs.Nest.{bag_at}
use Rattle.law_nest.proofs.Hits.{hits, translate-sum}
use Rattle.law_nest.proofs.Paths.{down-tree}
use Rattle.law_nest.proofs.Leaves.{external-same, confluent-same, moved_same, part-of-same}
use Rattle.law_nest.proofs.StepOf.{step-out}
use Rattle.law_nest.proofs.Stepping.{ready, step-paired, parts-paired}
use Rattle.law_calls.proofs.SameBags.{empty-same}
use Rattle.law_calls.proofs.Lift.{Agree}
use Rattle.law_calls.proofs.Kept.{AtSame, BetweenSame, agree-entries}

-- ---- at every level

translate-same : (ks : List Coupling) (i d : ℕ) (x y : Bag) → Same x y → Same (translate ks i d x) (translate ks i d y)
translate-same ks i d x y s p =
    count-sum p (translate ks i d x) ∙ translate-sum ks i d _ x ∙ sum-perm _ (message-perm x y s)
    ∙ sym (count-sum p (translate ks i d y) ∙ translate-sum ks i d _ y)

append-same : (z x y : Bag) → Same x y → Same (z ++ x) (z ++ y)
append-same z x y s p = count-append p z x ∙ ap (λ n. count p z + n) (s p) ∙ sym (count-append p z y)

part-order : (d : Devs) (e : ℕ) (s : d.State × ℕ) → ((e : ℕ) (x y : Bag) → Same x y → d.ext s.0 e x ≡ d.ext s.0 e y)
    → ((x y : Bag) → Same x y → d.con s.0 x ≡ d.con s.0 y) → (b : Bool) (x y : Bag) → Same x y → changed d b x e s ≡ changed d b y e s
unfolding changed
part-order d e s ext con true [] [] h = refl
part-order d e s ext con false [] [] h = refl
part-order d e s ext con b [] (z ∷ y) h = absurd (let l = same_length [] (z ∷ y) h in omega arith)
part-order d e s ext con b (z ∷ x) [] h = absurd (let l = same_length (z ∷ x) [] h in omega arith)
part-order d e s ext con true (w ∷ x) (z ∷ y) h = ap anew (con (w ∷ x) (z ∷ y) h)
part-order d e s ext con false (w ∷ x) (z ∷ y) h = ap anew (ext (s.1 + e) (w ∷ x) (z ∷ y) h)

mutual
  unfolding resultant_ext resultant_con changed_all

  pub external_order : (m : Model) (t : Tree) (s : (devs_of m t).State) (e : ℕ) (x y : Bag) → Same x y → (devs_of m t).ext s e x ≡ (devs_of m t).ext s e y
  external_order m (leaf c) s e x y h = external-same m c x y h s e
  external_order m (node c f) s e x y h = parts-order m f (λ u. false) _ _ e s (λ d. translate-same m.couplings c d x y h)

  pub confluent_order : (m : Model) (t : Tree) (s : (devs_of m t).State) (x y : Bag) → Same x y → (devs_of m t).con s x ≡ (devs_of m t).con s y
  confluent_order m (leaf c) s x y h = confluent-same m c x y h s
  confluent_order m (node c f) s x y h =
      let u = least_sigma (parts_of m f) s in
      parts-order m f (λ v. same_time v u) _ _ (ticks u) s
      (λ d. append-same (outputs_to m.couplings d u (parts_of m f) s) _ _ (translate-same m.couplings c d x y h))

  parts-order : (m : Model) (f : Forest) (imminent : Time → Bool) (x y : ℕ → Bag) (e : ℕ) (s : Totals (parts_of m f)) → ((d : ℕ) → Same (x d) (y d))
      → changed_all imminent x e (parts_of m f) s ≡ changed_all imminent y e (parts_of m f) s
  parts-order m stop imminent x y e s h = refl
  parts-order m (more t f) imminent x y e s h =
      ap₂ (λ a b. record { state = (a.state, b.state); decided = a.decided ++ b.decided })
      (part-order (devs_of m t) e s.0 (λ e x y h. external_order m t s.0.0 e x y h) (λ x y h. confluent_order m t s.0.0 x y h) _ (x (name_of t)) (y (name_of t)) (h (name_of t)))
      (parts-order m f imminent x y e s.1 h)

-- ---- of a given bag

-- what reaches an atomic does not depend on the order of what the tree is given
bag-order : (m : Model) (at : ℕ → Entry) (now c : ℕ) (t : Tree) (x y : Bag) → Same x y → Same (bag_at m at now c t x) (bag_at m at now c t y)
unfolding hits
bag-order m at now c t x y s p =
    let weigh : Message → ℕ = λ z. cond (p z) 1 0 in
    let h : hits c weigh (ends_in m.couplings t) x ≡ hits c weigh (ends_in m.couplings t) y = sum-perm _ (message-perm x y s) in
    count-sum p _ ∙ omega (arith, down-tree m at now c weigh t x, down-tree m at now c weigh t y) ∙ sym (count-sum p (bag_at m at now c t y))

pub agree-order : (m : Model) (w : WellFormed m) → Agree (AtSame m w) (BetweenSame m w) Same (nested m) (nested m)
agree-order m w =
    agree-entries m w Same (nested m) (λ p. refl) empty-same (λ now rs h. refl)
    (λ now x y rs h s. (
      λ p. ap (count p) (step-out m w now x rs (ready m w now rs h.0) ∙ sym (step-out m w now y rs (ready m w now rs h.0))),
      parts-paired m w now rs h.0 x
          ∙ ap (λ (f : ℕ → Entry → Option ℕ). paired f (atomics m.components) rs)
          (λ i c r. part-of-same m now c (due_now m now c r) _ _ r (bag-order m (entry_of m rs) now c (root m) x y s) i)
          ∙ sym (parts-paired m w now rs h.0 y),
    ))
    (λ now x y rs h s.
    step-paired m w now rs h.0 x
    ∙ ap (λ (f : ℕ → Entry → Entry). paired f (atomics m.components) rs)
    (λ i c r. moved_same m now c (due_now m now c r) _ _ r (bag-order m (entry_of m rs) now c (root m) x y s) i)
    ∙ sym (step-paired m w now rs h.0 y))
