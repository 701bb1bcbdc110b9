-- One step of a nest without the states of document 001: which components are due, what they put out, and what reaches each atomic, by
-- recursion over the tree of components. `AnySplit` shows that the resultant does just that. Assumes nothing.
use mathlib.Core.Path.{◌≡◌, refl, sym}
use Prim.Native.Nat.{ℕ, ◌≤◌}
use native.Mathlib.Omega.{arith}
use mathlib.Core.List.{[], ◌∷◌, ◌++◌}
use mathlib.Core.Bool.{Bool, true, false, cond}
use lib.Dec.{eqb}
use Rattle.definition.specs.Lists.{count}
use Rattle.definition.specs.Model.{Bag, Model, phase_at, Tree, Forest, leaf, node, stop, more, name_of, outputs}
use Rattle.definition.specs.Devs.{finite, same_time, translate}
use Rattle.definition.specs.SavedRun.{Entry, due_of, not_before, due_at, due_all}
use Rattle.law_base.proofs.Bags.{count-append}
use Rattle.law_base.proofs.Tests.{eqb-sym}
use Rattle.law_nest.proofs.Occurs.{occurs}
use Rattle.law_nest.proofs.Trees.{OnlyIn, OnlyInAll, leaves_t, leaves_f}
use Rattle.law_nest.proofs.Times.{not-due, not_before-earlier}

-- an atomic's entry was not changed after now, and it is not due before
abbrev pub Fresh : Model → ℕ → ℕ → Entry → Type 0
Fresh m now c r = (r.last ≤ now) × (not_before now (due_of m c r) ≡ true)

module _ (m : Model) (at : ℕ → Entry) (now : ℕ) where
  -- so is every atomic of a tree
  abbrev mutual
    pub Ready : Tree → Type 0
    Ready (leaf c) = Fresh m now c (at c)
    Ready (node c f) = ReadyAll f

    pub ReadyAll : Forest → Type 0
    ReadyAll stop = Unit {0}
    ReadyAll (more t f) = Ready t × ReadyAll f

  module _ (q : ℕ → Bool) (fresh : (c : ℕ) → q c ≡ true → Fresh m now c (at c)) where
    mutual
      pub ready-in : (t : Tree) → OnlyIn q t → Ready t
      ready-in (leaf c) h = fresh c h
      ready-in (node c f) h = ready-in-all f h

      ready-in-all : (f : Forest) → OnlyInAll q f → ReadyAll f
      ready-in-all stop h = tt
      ready-in-all (more t f) h = (ready-in t h.0, ready-in-all f h.1)

  mutual
    unfolding due_at not_before

    pub ready-due : (t : Tree) → Ready t → not_before now (due_at m at t) ≡ true
    ready-due (leaf c) r = r.1
    ready-due (node c f) r = ready-dues f r

    ready-dues : (f : Forest) → ReadyAll f → not_before now (due_all m at f) ≡ true
    ready-dues stop r = refl
    ready-dues (more t f) r = not_before-earlier now (due_at m at t) (due_all m at f) (ready-due t r.0) (ready-dues f r.1)

  -- ---- bags, level by level

  unfoldable pub due : Tree → Bool
  due t = same_time (due_at m at t) (finite now)

  -- what a component puts out when it is due, and what the parts of f that are due send to `to`
  unfoldable mutual
    pub out_of : Tree → Bag
    out_of (leaf c) = outputs (phase_at m c (at c).phase)
    out_of (node c f) = out_to f c

    pub out_to : Forest → ℕ → Bag
    out_to stop to = []
    out_to (more t f) to = cond (due t) (translate m.couplings (name_of t) to (out_of t)) [] ++ out_to f to

  -- what reaches the atomic a in a tree that is given the bag x
  unfoldable mutual
    pub bag_at : ℕ → Tree → Bag → Bag
    bag_at a (leaf c) x = cond (eqb c a) x []
    bag_at a (node c f) x = bag_at_all a f (λ d. out_to f d ++ translate m.couplings c d x)

    pub bag_at_all : ℕ → Forest → (ℕ → Bag) → Bag
    bag_at_all a stop input = []
    bag_at_all a (more t f) input = bag_at a t (input (name_of t)) ++ bag_at_all a f input

  -- ---- no leaf, no bag

  no-leaf-bag : (a c : ℕ) (x : Bag) → occurs a (c ∷ []) ≡ 0 → bag_at a (leaf c) x ≡ []
  unfolding bag_at count
  no-leaf-bag a c x h = go (eqb a c) refl
    where
      go : (b : Bool) → eqb a c ≡ b → bag_at a (leaf c) x ≡ []
      go true e = absurd (let g = rw e at h in omega arith)
      go false e = rw (eqb-sym c a, e)

  -- what is no leaf gets nothing
  mutual
    unfolding bag_at leaves_t count

    pub no-bag : (a : ℕ) (t : Tree) (x : Bag) → occurs a (leaves_t t) ≡ 0 → bag_at a t x ≡ []
    no-bag a (leaf c) x h = no-leaf-bag a c x h
    no-bag a (node c f) x h = no-bag-all a f _ h

    pub no-bag-all : (a : ℕ) (f : Forest) (input : ℕ → Bag) → occurs a (leaves_f f) ≡ 0 → bag_at_all a f input ≡ []
    no-bag-all a stop input h = refl
    no-bag-all a (more t f) input h =
        let k = count-append (λ c. eqb a c) (leaves_t t) (leaves_f f) in
        rw (no-bag a t (input (name_of t)) (omega arith), no-bag-all a f input (omega arith))

  abbrev pub NoneDue : Forest → Type 0
  NoneDue stop = Unit {0}
  NoneDue (more t f) = (due t ≡ false) × NoneDue f

  pub none-due : (f : Forest) → ReadyAll f → same_time (due_all m at f) (finite now) ≡ false → NoneDue f
  unfolding due due_at
  none-due stop r e = tt
  none-due (more t f) r e =
      let k = not-due now (due_at m at t) (due_all m at f) (ready-due t r.0) (ready-dues f r.1) e in
      (k.0, none-due f r.1 k.1)

  pub out_none : (f : Forest) (to : ℕ) → NoneDue f → out_to f to ≡ []
  unfolding out_to
  out_none stop to n = refl
  out_none (more t f) to n = simp (n.0, out_none f to n.1)

  -- ---- what a component sends: its output where it is due

  unfoldable pub out_due : Tree → Bag
  out_due t = cond (due t) (out_of t) []

  -- a coupled component that is not due puts nothing out
  pub out-due : (c : ℕ) (f : Forest) → ReadyAll f → out_due (node c f) ≡ out_to f c
  unfolding out_due out_of due due_at
  out-due c f r = go (due (node c f)) refl
    where
      go : (b : Bool) → due (node c f) ≡ b → out_due (node c f) ≡ out_to f c
      go true e = rw e
      go false e = rw e (sym (out_none f c (none-due f r e)))
