-- The leaves of a tree of components, and facts that hold of each of them. Assumes nothing.
use mathlib.Core.Path.{◌≡◌, refl, ◌∙◌}
use Prim.Native.Nat.{ℕ}
use mathlib.Core.List.{List, [], ◌∷◌, ◌++◌, map}
use mathlib.Core.Bool.{Bool, true}
use lib.Dec.{eqb}
use Rattle.definition.specs.Lists.{all, count}
use Rattle.definition.specs.Model.{Tree, Forest, leaf, node, stop, more, forest}
use Rattle.law_base.proofs.Tests.{and_left, and_right}
use Rattle.law_base.proofs.Sums.{sum_of}
use Rattle.law_base.proofs.Bags.{count-append}
use Rattle.law_base.proofs.Lists.{all_append, all-front, all_back}
use Rattle.law_nest.proofs.Occurs.{occurs}

unfoldable mutual
  pub leaves_t : Tree → List ℕ
  leaves_t (leaf c) = c ∷ []
  leaves_t (node c f) = leaves_f f

  pub leaves_f : Forest → List ℕ
  leaves_f stop = []
  leaves_f (more t f) = leaves_t t ++ leaves_f f

pub forest-all : (p q : ℕ → Bool) (g : ℕ → Tree) (l : List ℕ) → all q l ≡ true → ((d : ℕ) → q d ≡ true → all p (leaves_t (g d)) ≡ true)
    → all p (leaves_f (forest (map g l))) ≡ true
unfolding all forest leaves_f
forest-all p q g [] h e = refl
forest-all p q g (d ∷ l) h e = all_append p (leaves_t (g d)) _ (e d (and_left (q d) _ h)) (forest-all p q g l (and_right (q d) _ h) e)

pub forest-occurs : (a : ℕ) (g : ℕ → Tree) (l : List ℕ) → occurs a (leaves_f (forest (map g l))) ≡ sum_of (λ d. occurs a (leaves_t (g d))) l
unfolding forest leaves_f count sum_of
forest-occurs a g [] = refl
forest-occurs a g (d ∷ l) = count-append (λ c. eqb a c) (leaves_t (g d)) (leaves_f (forest (map g l))) ∙ rw (forest-occurs a g l)

-- ---- a test that each leaf passes

abbrev mutual
  pub OnlyIn : (ℕ → Bool) → Tree → Type 0
  OnlyIn q (leaf c) = q c ≡ true
  OnlyIn q (node c f) = OnlyInAll q f

  pub OnlyInAll : (ℕ → Bool) → Forest → Type 0
  OnlyInAll q stop = Unit {0}
  OnlyInAll q (more t f) = OnlyIn q t × OnlyInAll q f

mutual
  unfolding leaves_t all

  pub only-in : (q : ℕ → Bool) (t : Tree) → all q (leaves_t t) ≡ true → OnlyIn q t
  only-in q (leaf c) h = and_left (q c) _ h
  only-in q (node c f) h = only-in-all q f h

  only-in-all : (q : ℕ → Bool) (f : Forest) → all q (leaves_f f) ≡ true → OnlyInAll q f
  only-in-all q stop h = tt
  only-in-all q (more t f) h = (only-in q t (all-front q (leaves_t t) (leaves_f f) h), only-in-all q f (all_back q (leaves_t t) (leaves_f f) h))
