-- The earliest of several moments does not depend on their order: the next due moment of the tree is that of its leaves, and of the atomics in
-- file order. Assumes nothing.
use mathlib.Core.Path.{◌≡◌, refl, sym, ap, ap₂, ◌∙◌}
use Prim.Native.Nat.{ℕ, ◌≤◌}
use mathlib.Core.List.{List, [], ◌∷◌, ◌++◌, map, map-append, Permᴰ}
use mathlib.Core.Bool.{true}
use native.Mathlib.Omega.{arith}
use Rattle.definition.specs.Model.{Model, Tree, Forest, leaf, node, stop, more}
use Rattle.definition.specs.Devs.{Time, finite, never, earlier}
use Rattle.definition.specs.SavedRun.{Entry, not_before, due_of, due_at, due_all}
use Rattle.definition.specs.FlatMachine.{first_due}
use Rattle.law_nest.proofs.Trees.{leaves_t, leaves_f}
use Rattle.law_nest.proofs.Pairs.{paired, Pairs}
use Rattle.law_nest.proofs.Times.{not-before-both}
use Rattle.law_nest.proofs.Nest.{Fresh}

unfoldable pub first_of : List Time → Time
first_of [] = never
first_of (u ∷ us) = earlier u (first_of us)

earlier-comm : (u v : Time) → earlier u v ≡ earlier v u
unfolding earlier
earlier-comm (finite a) (finite b) = ap finite (omega arith)
earlier-comm (finite a) never = refl
earlier-comm never (finite b) = refl
earlier-comm never never = refl

earlier-assoc : (u v t : Time) → earlier (earlier u v) t ≡ earlier u (earlier v t)
unfolding earlier
earlier-assoc (finite a) (finite b) (finite c) = ap finite (omega arith)
earlier-assoc (finite a) (finite b) never = refl
earlier-assoc (finite a) never (finite c) = refl
earlier-assoc (finite a) never never = refl
earlier-assoc never (finite b) (finite c) = refl
earlier-assoc never (finite b) never = refl
earlier-assoc never never (finite c) = refl
earlier-assoc never never never = refl

never-earlier : (u : Time) → earlier never u ≡ u
unfolding earlier
never-earlier (finite a) = refl
never-earlier never = refl

first-append : (us vs : List Time) → first_of (us ++ vs) ≡ earlier (first_of us) (first_of vs)
unfolding first_of
first-append [] vs = sym (never-earlier (first_of vs))
first-append (u ∷ us) vs = ap (earlier u) (first-append us vs) ∙ sym (earlier-assoc u (first_of us) (first_of vs))

pub first-perm : {A : Type 0} (g : A → Time) {x y : List A} → Permᴰ x y → first_of (map g x) ≡ first_of (map g y)
unfolding first_of
first-perm g Permᴰ.nil = refl
first-perm g (Permᴰ.cons e d) = rw (e, first-perm g d)
first-perm g (Permᴰ.swap {a = a} {b = b} {l = l} e d) =
    rw (← e, ← d) (sym (earlier-assoc (g a) (g b) _) ∙ ap (λ u. earlier u (first_of (map g l))) (earlier-comm (g a) (g b)) ∙ earlier-assoc (g b) (g a) _)
first-perm g (Permᴰ.trans d e) = first-perm g d ∙ first-perm g e

-- the tree's earliest due moment is that of its leaves
mutual
  unfolding leaves_t due_at first_of

  pub due-leaves : (m : Model) (at : ℕ → Entry) (t : Tree) → due_at m at t ≡ first_of (map (λ c. due_of m c (at c)) (leaves_t t))
  due-leaves m at (leaf c) = sym (earlier-comm (due_of m c (at c)) never ∙ never-earlier (due_of m c (at c)))
  due-leaves m at (node c f) = due-leaves-all m at f

  due-leaves-all : (m : Model) (at : ℕ → Entry) (f : Forest) → due_all m at f ≡ first_of (map (λ c. due_of m c (at c)) (leaves_f f))
  due-leaves-all m at stop = refl
  due-leaves-all m at (more t f) =
      ap₂ earlier (due-leaves m at t) (due-leaves-all m at f) ∙ sym (first-append (map (λ c. due_of m c (at c)) (leaves_t t)) (map (λ c. due_of m c (at c)) (leaves_f f)))
      ∙ ap first_of (sym (map-append (λ c. due_of m c (at c)) (leaves_t t) (leaves_f f)))

pub first-paired : (m : Model) (cs : List ℕ) (rs : List Entry) → first_due m cs rs ≡ first_of (paired (due_of m) cs rs)
unfolding first_due paired first_of
first-paired m [] rs = refl
first-paired m (c ∷ cs) [] = refl
first-paired m (c ∷ cs) (r ∷ rs) = ap (earlier (due_of m c r)) (first-paired m cs rs)

-- where the first is not before u, none is
pub fresh-later : (m : Model) (now u : ℕ) (cs : List ℕ) (rs : List Entry) → now ≤ u → Pairs (Fresh m now) cs rs
    → not_before u (first_of (paired (due_of m) cs rs)) ≡ true → Pairs (Fresh m u) cs rs
unfolding first_of paired
fresh-later m now u [] [] l h k = tt
fresh-later m now u [] (r ∷ rs) l h k = absurd h
fresh-later m now u (c ∷ cs) [] l h k = absurd h
fresh-later m now u (c ∷ cs) (r ∷ rs) l h k =
    let b = not-before-both u (due_of m c r) (first_of (paired (due_of m) cs rs)) k in
    let i = h.0.0 in
    ((omega arith, b.0), fresh-later m now u cs rs l h.1 b.1)
