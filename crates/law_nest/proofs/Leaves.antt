-- A step, atomic by atomic: a transition does not see the order of its bag, an atomic that is one leaf of the tree gets one bag, and what a
-- state stands for is what is read back from it. Assumes nothing.
use mathlib.Core.Path.{◌≡◌, refl, sym, ap, ap₂, ◌∙◌}
use Prim.Native.Nat.{ℕ, ◌+◌, ◌-◌, ◌≤◌, ◌<◌}
use mathlib.Core.List.{List, [], ◌∷◌, ◌++◌, map, map-append, append-nil}
use mathlib.Core.Bool.{Bool, true, false, cond}
use native.Mathlib.Omega.{arith}
use lib.Dec.{eqb}
use borrow.Author.Tests.{eqb-true, eq-eqb}
use Rattle.definition.specs.Lists.{count, Same}
use Rattle.definition.specs.Model.{Bag, Model, atomics, is_atomic, Tree, Forest, leaf, node, stop, more, name_of}
use Rattle.definition.specs.Devs.{Totals}
use Rattle.definition.specs.Atomic.{InPhase, told_as, followed, rule_for, external, confluent, devs_of, parts_of}
use Rattle.definition.specs.SavedRun.{Entry}
use Rattle.definition.specs.Step.{leaves_of, leaves_of_all, assoc, unload}
use Rattle.definition.specs.FlatMachine.{led_to, external_part, both_parts, rule_of_both, moved_by, moved}
use Rattle.definition.specs.Carrying.{Stands, StandsAll}
use Rattle.law_base.proofs.Bags.{count-append, deciding-same, same_length}
use Rattle.law_base.proofs.Lists.{map-cong-if, all_keep}
use Rattle.law_base.proofs.Tests.{eqb-sym}
use Rattle.law_nest.proofs.Occurs.{occurs}
use Rattle.law_nest.proofs.Trees.{leaves_t, leaves_f}
use Rattle.law_nest.proofs.Nest.{due, bag_at, bag_at_all, no-bag, no-bag-all}
use Rattle.law_nest.proofs.Parts.{part}
use Rattle.law_nest.proofs.AnySplit.{On, OnAll}

-- ---- the order of a bag

rule-same : (m : Model) (c : ℕ) (x y : Bag) → Same x y → (p e : ℕ) → rule_for m c p e x ≡ rule_for m c p e y
unfolding rule_for
rule-same m c x y s p e = deciding-same m.ranges c p e 0 x y m.rules s

part_same : (m : Model) (c : ℕ) (x y : Bag) → Same x y → (p e : ℕ) → external_part m c p e x ≡ external_part m c p e y
unfolding external_part
part_same m c x y s p e = ap (led_to m.rules p) (rule-same m c x y s p e)

both-same : (m : Model) (c : ℕ) (x y : Bag) → Same x y → (p : ℕ) → both_parts m c p x ≡ both_parts m c p y
unfolding both_parts
both-same m c x y s p = simp (part_same m c x y s)

pub external-same : (m : Model) (c : ℕ) (x y : Bag) → Same x y → (s : InPhase) (e : ℕ) → external m c s e x ≡ external m c s e y
unfolding external
external-same m c x y h s e =
    ap₂ (λ o n. record { state = followed m.rules s.phase (s.spent + e) o; decided = record { atomic = c; position = told_as o; messages = n } ∷ [] })
    (rule-same m c x y h s.phase (s.spent + e)) (same_length x y h)

pub confluent-same : (m : Model) (c : ℕ) (x y : Bag) → Same x y → (s : InPhase) → confluent m c s x ≡ confluent m c s y
unfolding confluent
confluent-same m c x y h s = simp (external-same m c x y h)

pub moved_same : (m : Model) (now c : ℕ) (b : Bool) (x y : Bag) (r : Entry) → Same x y → moved m now c b x r ≡ moved m now c b y r
unfolding moved
moved_same m now c true [] [] r s = refl
moved_same m now c false [] [] r s = refl
moved_same m now c b [] (z ∷ y) r s = absurd (let e = same_length [] (z ∷ y) s in omega arith)
moved_same m now c b (z ∷ x) [] r s = absurd (let e = same_length (z ∷ x) [] s in omega arith)
moved_same m now c true (w ∷ x) (z ∷ y) r s = simp (both-same m c (w ∷ x) (z ∷ y) s)
moved_same m now c false (w ∷ x) (z ∷ y) r s = ap (λ o. moved_by m now o r) (rule-same m c (w ∷ x) (z ∷ y) s r.phase (now - r.last))

pub both-rule-same : (m : Model) (c : ℕ) (x y : Bag) → Same x y → (p : ℕ) → rule_of_both m c p x ≡ rule_of_both m c p y
unfolding rule_of_both
both-rule-same m c x y s p = simp (rule-same m c x y s)

pub part-of-same : (m : Model) (now c : ℕ) (b : Bool) (x y : Bag) (r : Entry) → Same x y → part m now c b x r ≡ part m now c b y r
unfolding part
part-of-same m now c true [] [] r s = refl
part-of-same m now c false [] [] r s = refl
part-of-same m now c b [] (z ∷ y) r s = absurd (let e = same_length [] (z ∷ y) s in omega arith)
part-of-same m now c b (z ∷ x) [] r s = absurd (let e = same_length (z ∷ x) [] s in omega arith)
part-of-same m now c true (w ∷ x) (z ∷ y) r s = simp (both-rule-same m c (w ∷ x) (z ∷ y) s)
part-of-same m now c false (w ∷ x) (z ∷ y) r s = simp (rule-same m c (w ∷ x) (z ∷ y) s r.phase (now - r.last))

module _ (m : Model) (at : ℕ → Entry) (now : ℕ) where
  -- ---- one leaf, one bag

  -- where each atomic is one leaf, it changes by what reaches it in the whole tree
  abbrev By : (ℕ → Entry) → ℕ → Bag → Type 0
  By on c x = on c ≡ moved m now c (due m at now (leaf c)) x (at c)

  mutual
    unfolding bag_at leaves_t count

    pub on-tree : (on : ℕ → Entry) (t : Tree) (x : Bag) → ((c : ℕ) → occurs c (leaves_t t) ≤ 1)
        → ((c : ℕ) → 0 < occurs c (leaves_t t) → By on c (bag_at m at now c t x)) → On m at now on t x
    on-tree on (leaf c) x d h =
        let k : occurs c (c ∷ []) ≡ 1 = rw (eq-eqb c c refl) in
        h c (omega arith) ∙ ap (λ b. moved m now c (due m at now (leaf c)) (cond b x []) (at c)) (eq-eqb c c refl)
    on-tree on (node c f) x d h = on-forest on f _ d h

    on-forest : (on : ℕ → Entry) (f : Forest) (input : ℕ → Bag) → ((c : ℕ) → occurs c (leaves_f f) ≤ 1)
        → ((c : ℕ) → 0 < occurs c (leaves_f f) → By on c (bag_at_all m at now c f input)) → OnAll m at now on f input
    on-forest on stop input d h = tt
    on-forest on (more t f) input d h = (
      on-tree on t (input (name_of t)) (λ c. let k = split c in omega (arith, d c)) (λ c o. let k = split c in
          h c (omega arith) ∙ ap (λ x. moved m now c (due m at now (leaf c)) x (at c)) (rw (no-bag-all m at now c f input (omega (arith, d c))) (append-nil (bag_at m at now c t (input (name_of t)))))),
      on-forest on f input (λ c. let k = split c in omega (arith, d c)) (λ c o. let k = split c in
          h c (omega arith) ∙ ap (λ x. moved m now c (due m at now (leaf c)) x (at c)) (rw (no-bag m at now c t (input (name_of t)) (omega (arith, d c))))),
    )
      where
        split : (c : ℕ) → occurs c (leaves_t t ++ leaves_f f) ≡ occurs c (leaves_t t) + occurs c (leaves_f f)
        split c = count-append (λ s. eqb c s) (leaves_t t) (leaves_f f)

  -- ---- reading back

  mutual
    unfolding leaves_of leaves_t

    leaves-stand : (e : ℕ) (t : Tree) (s : (devs_of m t).State) → Stands m at now e t s → leaves_of m now e t s ≡ map (λ c. (c, at c)) (leaves_t t)
    leaves-stand e (leaf c) s h = let q : now - (s.spent + e) ≡ (at c).last = omega (arith, h.1) in λ i. (c, record { phase = h.0 i; last = q i }) ∷ []
    leaves-stand e (node c f) s h = all-leaves-stand e f s h

    all-leaves-stand : (e : ℕ) (f : Forest) (s : Totals (parts_of m f)) → StandsAll m at now e f s → leaves_of_all m now e f s ≡ map (λ c. (c, at c)) (leaves_f f)
    all-leaves-stand e stop s h = refl
    all-leaves-stand e (more t f) s h =
        ap₂ ◌++◌ (leaves-stand (e + s.0.1) t s.0.0 h.0) (all-leaves-stand e f s.1 h.1) ∙ sym (map-append (λ c. (c, at c)) (leaves_t t) (leaves_f f))

assoc-own : (at : ℕ → Entry) (a : ℕ) (l : List ℕ) → 0 < occurs a l → assoc (map (λ c. (c, at c)) l) a ≡ at a
unfolding assoc count
assoc-own at a [] h = absurd (omega arith)
assoc-own at a (c ∷ l) h = go (eqb a c) refl (assoc-own at a l)
  where
    go : (b : Bool) → eqb a c ≡ b → (0 < occurs a l → assoc (map (λ c. (c, at c)) l) a ≡ at a) → cond (eqb c a) (at c) (assoc (map (λ c. (c, at c)) l) a) ≡ at a
    go true e ih = rw (eqb-sym c a, e) (ap at (sym (eqb-true a c e)))
    go false e ih = let g = rw e at h in rw (eqb-sym c a, e) (ih (omega arith))

-- the entries that a state stands for are what is read back from it
pub unload-stands : (m : Model) (at : ℕ → Entry) (now : ℕ) (t : Tree) (s : (devs_of m t).State) → Stands m at now 0 t s
    → ((c : ℕ) → is_atomic m.components c ≡ true → 0 < occurs c (leaves_t t)) → unload m now t s ≡ map at (atomics m.components)
unfolding unload atomics
unload-stands m at now t s h o =
    ap (λ l. map (assoc l) (atomics m.components)) (leaves-stand m at now 0 t s h)
    ∙ map-cong-if (is_atomic m.components) _ at (atomics m.components) (all_keep (is_atomic m.components) _) (λ c e. assoc-own at c (leaves_t t) (o c e))
