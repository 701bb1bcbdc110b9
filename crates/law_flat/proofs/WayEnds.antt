-- Where the ways of a tree lead, by a test of their ends: to leaves that pass it, at ports that there are, and never back to the leaf
-- where they began, since no coupling joins a component to itself and no leaf stands twice. Assumes nothing.
use mathlib.Core.Path.{◌≡◌, refl, sym, ap, ◌∙◌}
use Prim.Native.Nat.{ℕ, ◌+◌, ◌≤◌, ◌<◌}
use mathlib.Core.Logic.{◌⊎◌, inl, inr}
use mathlib.Core.List.{List, [], ◌∷◌, ◌++◌, map}
use mathlib.Core.Bool.{Bool, true, false, ◌&&◌, not, cond}
use native.Mathlib.Omega.{arith}
use lib.Dec.{ltb, eqb}
use borrow.Author.Tests.{eqb-true, eq-eqb, lt-ltb}
use Rattle.definition.specs.Lists.{all, concat, count, up_from}
use Rattle.definition.specs.Model.{Coupling, Tree, Forest, leaf, node, stop, more, name_of}
use Rattle.definition.specs.Routes.{ports_to, Port, ends_in, ends_from, joined, joined_all, ways_from, ways_from_all}
use Rattle.definition.specs.Limits.{port_count}
use Rattle.law_base.proofs.Tests.{and_left, and-true}
use Rattle.law_base.proofs.Bags.{count-append}
use Rattle.law_base.proofs.Lists.{all-if, all_append, all-front, all_back, all_map, all-and, all-concat}
use Rattle.law_model.proofs.Sections.{all-numbers}
use Rattle.law_nest.proofs.Trees.{leaves_t, leaves_f}
use Rattle.law_nest.proofs.Occurs.{occurs}

-- a list without a
avoids : (a : ℕ) (l : List ℕ) → occurs a l ≡ 0 → all (λ d. not (eqb a d)) l ≡ true
unfolding count all
avoids a [] h = refl
avoids a (d ∷ l) h = go (eqb a d) refl (avoids a l)
  where
    go : (b : Bool) → eqb a d ≡ b → (occurs a l ≡ 0 → all (λ d. not (eqb a d)) l ≡ true) → not (eqb a d) && all (λ d. not (eqb a d)) l ≡ true
    go true e ih = absurd (let k = rw e at h in omega arith)
    go false e ih = let k = rw e at h in rw e (ih (omega arith))

occurs-append : (a : ℕ) (x y : List ℕ) → occurs a (x ++ y) ≡ occurs a x + occurs a y
occurs-append a x y = count-append (λ s. eqb a s) x y

-- ---- parts of a forest, by name: how often a is a leaf of those named i, and of the others

named : ℕ → ℕ → Forest → ℕ
named i a stop = 0
named i a (more t f) = cond (eqb (name_of t) i) (occurs a (leaves_t t)) 0 + named i a f

others : ℕ → ℕ → Forest → ℕ
others i a stop = 0
others i a (more t f) = cond (eqb (name_of t) i) 0 (occurs a (leaves_t t)) + others i a f

named-others : (i a : ℕ) (f : Forest) → named i a f + others i a f ≡ occurs a (leaves_f f)
unfolding named others leaves_f count
named-others i a stop = refl
named-others i a (more t f) =
    go (eqb (name_of t) i) (named-others i a f) ∙ sym (occurs-append a (leaves_t t) (leaves_f f))
  where
    go : (b : Bool) → named i a f + others i a f ≡ occurs a (leaves_f f)
        → (cond b (occurs a (leaves_t t)) 0 + named i a f) + (cond b 0 (occurs a (leaves_t t)) + others i a f) ≡ occurs a (leaves_t t) + occurs a (leaves_f f)
    go true e = omega arith
    go false e = omega arith

-- ---- ends, by a test p of their component and their port

module _ (ks : List Coupling) (reached : (i d n : ℕ) → all (λ r. ltb r port_count) (ports_to ks i d n) ≡ true) (self : (i n : ℕ) → ports_to ks i i n ≡ []) where
  unfoldable pub end_fits : (ℕ → Bool) → Port → Bool
  end_fits p e = p e.component && ltb e.port port_count

  -- the parts of a forest all of whose leaves pass, and perhaps the part i itself
  abbrev pub Beside : (ℕ → Bool) → ℕ → Forest → Type 0
  Beside p i stop = Unit {0}
  Beside p i (more t f) = ((eqb (name_of t) i ≡ true) ⊎ (all p (leaves_t t) ≡ true)) × Beside p i f

  pub beside-all : (p : ℕ → Bool) (i : ℕ) (f : Forest) → all p (leaves_f f) ≡ true → Beside p i f
  unfolding leaves_f
  beside-all p i stop h = tt
  beside-all p i (more t f) h = (inr (all-front p (leaves_t t) (leaves_f f) h), beside-all p i f (all_back p (leaves_t t) (leaves_f f) h))

  mutual
    unfolding ends_in leaves_t all end_fits concat

    ends-in : (p : ℕ → Bool) (t : Tree) (n : ℕ) → ltb n port_count ≡ true → all p (leaves_t t) ≡ true → all (end_fits p) (ends_in ks t n) ≡ true
    ends-in p (leaf c) n h l = and-true _ _ (and-true _ _ (and_left (p c) _ l) h) refl
    ends-in p (node c f) n h l = ends-from p c f n (beside-all p c f l)

    pub ends-from : (p : ℕ → Bool) (i : ℕ) (f : Forest) (n : ℕ) → Beside p i f → all (end_fits p) (ends_from ks i f n) ≡ true
    ends-from p i stop n b = refl
    ends-from p i (more t f) n b =
        all_append (end_fits p) (concat (map (λ r. ends_in ks t r) (ports_to ks i (name_of t) n))) (ends_from ks i f n) (go b.0 (λ r h l. ends-in p t r h l)) (ends-from p i f n b.1)
      where
        go : (eqb (name_of t) i ≡ true) ⊎ (all p (leaves_t t) ≡ true) → ((r : ℕ) → ltb r port_count ≡ true → all p (leaves_t t) ≡ true → all (end_fits p) (ends_in ks t r) ≡ true)
            → all (end_fits p) (concat (map (λ r. ends_in ks t r) (ports_to ks i (name_of t) n))) ≡ true
        go (inl e) ih = ap (λ l. all (end_fits p) (concat (map (λ r. ends_in ks t r) l))) (ap (λ d. ports_to ks i d n) (eqb-true (name_of t) i e) ∙ self i n)
        go (inr l) ih = all-concat (end_fits p) (λ r. ltb r port_count) (λ r. ends_in ks t r) (ports_to ks i (name_of t) n) (reached i (name_of t) n) (λ r h. ih r h l)

  -- ---- ways: from a leaf that passes `good` to an end that does, and to another

  module _ (good : ℕ → Bool) where
    unfoldable pub other : ℕ → ℕ → Bool
    other a d = good d && not (eqb a d)

    unfoldable pub way_fits : Coupling → Bool
    way_fits k = good k.source && ltb k.source_port port_count && end_fits (other k.source) (record { component = k.target; port = k.target_port })

    abbrev pub EndsFor : (ℕ → List Port) → Tree → Type 0
    EndsFor ends t = (a : ℕ) → 0 < occurs a (leaves_t t) → (n : ℕ) → ltb n port_count ≡ true → all (end_fits (other a)) (ends n) ≡ true

    abbrev EndsForAll : (ℕ → ℕ → List Port) → Forest → Type 0
    EndsForAll ends stop = Unit {0}
    EndsForAll ends (more t f) = EndsFor (ends (name_of t)) t × EndsForAll ends f

    joined-fits : (c n : ℕ) (es : List Port) → good c ≡ true → ltb n port_count ≡ true → all (end_fits (other c)) es ≡ true → all way_fits (map (joined c n) es) ≡ true
    unfolding way_fits joined
    joined-fits c n es g h e =
        all_map way_fits (joined c n) es
        ∙ all-if (end_fits (other c)) (λ x. way_fits (joined c n x)) es (λ x k. and-true _ _ (and-true _ _ g h) k) e

    pub joined-all : (c : ℕ) (ends : ℕ → List Port) → good c ≡ true → ((n : ℕ) → ltb n port_count ≡ true → all (end_fits (other c)) (ends n) ≡ true) → all way_fits (joined_all c ends) ≡ true
    unfolding joined_all all
    joined-all c ends g e =
        all-concat way_fits (λ n. ltb n port_count) (λ n. map (joined c n) (ends n)) (up_from 0 port_count)
        (all-numbers (λ n. ltb n port_count) 0 port_count (λ n k l. lt-ltb n port_count (omega arith))) (λ n h. joined-fits c n (ends n) g h (e n h))

    -- beside a part named i, where no other has the leaf a
    beside : (i a : ℕ) (f : Forest) → all good (leaves_f f) ≡ true → others i a f ≡ 0 → Beside (other a) i f
    unfolding others leaves_f other
    beside i a stop g h = tt
    beside i a (more t f) g h = go (eqb (name_of t) i) refl (beside i a f (all_back good (leaves_t t) (leaves_f f) g))
      where
        go : (b : Bool) → eqb (name_of t) i ≡ b → (others i a f ≡ 0 → Beside (other a) i f) → Beside (other a) i (more t f)
        go true e ih = (inl e, ih (let k = rw e at h in omega arith))
        go false e ih =
            let k : occurs a (leaves_t t) + others i a f ≡ 0 = rw e at h in
            (inr (all-and good (λ d. not (eqb a d)) (leaves_t t) (all-front good (leaves_t t) (leaves_f f) g) (avoids a (leaves_t t) (omega arith))), ih (omega arith))

    -- the ends of the parts of a coupled part
    ends-all : (c : ℕ) (ends : ℕ → List Port) (f g : Forest) → all good (leaves_f f) ≡ true
        → ((a : ℕ) → 0 < occurs a (leaves_f g) → (n : ℕ) → ltb n port_count ≡ true → all (end_fits (other a)) (ends n) ≡ true)
        → ((i a : ℕ) → named i a g + others i a f ≤ 1)
        → EndsForAll (λ d n. ends_from ks d f n ++ concat (map ends (ports_to ks d c n))) g
    unfolding leaves_f named
    ends-all c ends f stop l e one = tt
    ends-all c ends f (more t g) l e one = (
      (λ a h n b.
          let o = one (name_of t) a in
          let mine : named (name_of t) a (more t g) ≡ occurs a (leaves_t t) + named (name_of t) a g = rw (eq-eqb (name_of t) (name_of t) refl) in
          all_append (end_fits (other a)) (ends_from ks (name_of t) f n) (concat (map ends (ports_to ks (name_of t) c n)))
          (ends-from (other a) (name_of t) f n (beside (name_of t) a f l (omega arith)))
          (all-concat (end_fits (other a)) (λ r. ltb r port_count) ends (ports_to ks (name_of t) c n) (reached (name_of t) c n) (λ r k. e a (omega (arith, occurs-append a (leaves_t t) (leaves_f g))) r k))),
      ends-all c ends f g l (λ a h n b. e a (omega (arith, occurs-append a (leaves_t t) (leaves_f g))) n b)
          (λ i a. omega (arith, one i a, more-named i a t g)),
    )
      where
        more-named : (i a : ℕ) (t : Tree) (g : Forest) → named i a g ≤ named i a (more t g)
        more-named i a t g = omega arith

    mutual
      unfolding ways_from leaves_t all count

      pub ways-fit : (t : Tree) (ends : ℕ → List Port) → all good (leaves_t t) ≡ true → EndsFor ends t → ((a : ℕ) → occurs a (leaves_t t) ≤ 1) → all way_fits (ways_from ks ends t) ≡ true
      ways-fit (leaf c) ends g e one = joined-all c ends (and_left (good c) _ g) (e c (rw (eq-eqb c c refl) (omega arith)))
      ways-fit (node c f) ends g e one =
          ways-fit-all f _ g (ends-all c ends f f g e (λ i a. omega (arith, named-others i a f, one a))) one

      ways-fit-all : (f : Forest) (ends : ℕ → ℕ → List Port) → all good (leaves_f f) ≡ true → EndsForAll ends f → ((a : ℕ) → occurs a (leaves_f f) ≤ 1)
          → all way_fits (ways_from_all ks ends f) ≡ true
      ways-fit-all stop ends g e one = refl
      ways-fit-all (more t f) ends g e one =
          all_append way_fits (ways_from ks (ends (name_of t)) t) (ways_from_all ks ends f)
          (ways-fit t (ends (name_of t)) (all-front good (leaves_t t) (leaves_f f) g) e.0 (λ a. omega (arith, one a, occurs-append a (leaves_t t) (leaves_f f))))
          (ways-fit-all f ends (all_back good (leaves_t t) (leaves_f f) g) e.1 (λ a. omega (arith, one a, occurs-append a (leaves_t t) (leaves_f f))))
