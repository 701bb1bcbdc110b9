-- Flags that are down save walks: where a local condition on the flags holds, nothing is pulled from a node whose flag is down, so that leaving out
-- its rows changes nothing. The static table of live nodes and the flags of a step are used by the same law. Assumes nothing.
use mathlib.Core.Path.{◌≡◌, refl, sym, ap, ap₂}
use Prim.Native.Nat.{ℕ, zero, suc}
use mathlib.Core.List.{List, [], ◌∷◌, ◌++◌}
use mathlib.Core.Bool.{Bool, true, false, ◌&&◌, not, cond}
use Rattle.definition.specs.Lists.{all, is_empty}
use Rattle.definition.specs.Limits.{max_ancestors}
use Rattle.law_base.proofs.Tests.{clash, and_left, and_right}
use Rattle.law_base.proofs.Lists.{all-and}
use Rattle.spec_step.specs.Pull.{joined, child_out, coupled_out, source_in, input_in}
use borrow.Author.Tests.{not-true}

joined-none : {N : Type 0} (p : N → Bool) (F : N → List ℕ) (l : List N) → all p l ≡ true → ((y : N) → p y ≡ true → F y ≡ []) → joined F l ≡ []
unfolding joined all
joined-none p F [] e h = refl
joined-none p F (y ∷ l) e h = rw (h y (and_left (p y) _ e), joined-none p F l (and_right (p y) _ e) h)

pub joined-cong : {N : Type 0} (p : N → Bool) (F G : N → List ℕ) (l : List N) → all p l ≡ true → ((y : N) → p y ≡ true → F y ≡ G y) → joined F l ≡ joined G l
unfolding joined all
joined-cong p F G [] e h = refl
joined-cong p F G (y ∷ l) e h = ap₂ ◌++◌ (h y (and_left (p y) _ e)) (joined-cong p F G l (and_right (p y) _ e) h)

pub empty-list : {A : Type 0} (l : List A) → is_empty l ≡ true → l ≡ []
unfolding is_empty
empty-list [] h = refl
empty-list (a ∷ l) h = absurd (clash h refl)

-- `good` nodes are those that there are, `up` has the flags.
module _ {N : Type 0} (rows : N → List N) (atomic : N → Bool) (sent : N → List ℕ) (output good up : N → Bool) where
  -- nothing comes from the output node y: an atomic puts nothing out, a coupled component's flag is down
  unfoldable pub still : N → Bool
  still y = cond (atomic y) (is_empty (sent y)) (not (up y))

  -- nothing comes from node y to an input
  unfoldable pub still_in : N → Bool
  still_in y = cond (output y) (still y) (not (up y))

  -- the rows of a node whose flag is up
  unfoldable pub open_only : N → List N
  open_only x = cond (up x) (rows x) []

  abbrev pub good_out : N → Bool
  good_out y = good y && output y

  child-still : (below : N → List ℕ) (y : N) → still y ≡ true → (up y ≡ false → below y ≡ []) → child_out rows atomic sent below y ≡ []
  unfolding child_out still
  child-still below y s h = go (atomic y) refl
    where
      go : (b : Bool) → atomic y ≡ b → cond (atomic y) (sent y) (below y) ≡ []
      go true e = rw e (empty-list (sent y) (rw e at s))
      go false e = rw e (h (not-true (up y) (rw e at s)))

  child-cong : (F G : N → List ℕ) (y : N) → F y ≡ G y → child_out open_only atomic sent F y ≡ child_out rows atomic sent G y
  unfolding child_out
  child-cong F G y h = rw h

  -- the local condition at output nodes, whose rows are output nodes
  module _ (out-rows : (x : N) → good x ≡ true → output x ≡ true → all good_out (rows x) ≡ true)
      (closed : (x : N) → good x ≡ true → output x ≡ true → up x ≡ false → all still (rows x) ≡ true) where
    pub quiet : (d : ℕ) (x : N) → good x ≡ true → output x ≡ true → up x ≡ false → coupled_out rows atomic sent d x ≡ []
    unfolding coupled_out
    quiet zero x g o e = refl
    quiet (suc d) x g o e =
        joined-none (λ y. good_out y && still y) _ (rows x) (all-and good_out still (rows x) (out-rows x g o) (closed x g o e))
        (λ y s. let h = and_left (good_out y) (still y) s in
        child-still (coupled_out rows atomic sent d) y (and_right (good_out y) (still y) s) (quiet d y (and_left (good y) (output y) h) (and_right (good y) (output y) h)))

    pub pruned-out : (d : ℕ) (x : N) → good x ≡ true → output x ≡ true → coupled_out open_only atomic sent d x ≡ coupled_out rows atomic sent d x
    unfolding coupled_out open_only joined
    pruned-out zero x g o = refl
    pruned-out (suc d) x g o = go (up x) refl (pruned-out d)
      where
        go : (b : Bool) → up x ≡ b → ((y : N) → good y ≡ true → output y ≡ true → coupled_out open_only atomic sent d y ≡ coupled_out rows atomic sent d y)
            → joined (child_out open_only atomic sent (coupled_out open_only atomic sent d)) (cond (up x) (rows x) []) ≡ joined (child_out rows atomic sent (coupled_out rows atomic sent d)) (rows x)
        go true e ih =
            rw e (joined-cong good_out _ _ (rows x) (out-rows x g o)
            (λ y h. child-cong (coupled_out open_only atomic sent d) (coupled_out rows atomic sent d) y (ih y (and_left (good y) (output y) h) (and_right (good y) (output y) h))))
        go false e ih = rw e (sym (quiet (suc d) x g o e))

    -- and at input nodes
    module _ (given : N → List ℕ) (root : N → Bool) (in_rows : (x : N) → good x ≡ true → output x ≡ false → all good (rows x) ≡ true)
        (empty : (x : N) → good x ≡ true → output x ≡ false → root x ≡ true → up x ≡ false → given x ≡ [])
        (closed_in : (x : N) → good x ≡ true → output x ≡ false → root x ≡ false → up x ≡ false → all still_in (rows x) ≡ true) where
      source-still : (above : N → List ℕ) (y : N) → good y ≡ true → still_in y ≡ true → (output y ≡ false → up y ≡ false → above y ≡ [])
          → source_in rows atomic sent given root output above y ≡ []
      unfolding source_in still_in
      source-still above y g s h = go (output y) refl
        where
          go : (b : Bool) → output y ≡ b → cond (output y) (child_out rows atomic sent (coupled_out rows atomic sent max_ancestors) y) (above y) ≡ []
          go true e = rw e (child-still (coupled_out rows atomic sent max_ancestors) y (rw e at s) (quiet max_ancestors y g e))
          go false e = rw e (h e (not-true (up y) (rw e at s)))

      pub quiet-in : (d : ℕ) (x : N) → good x ≡ true → output x ≡ false → up x ≡ false → input_in rows atomic sent given root output d x ≡ []
      unfolding input_in
      quiet-in zero x g o e = go (root x) refl
        where
          go : (b : Bool) → root x ≡ b → cond (root x) (given x) [] ≡ []
          go true r = rw r (empty x g o r e)
          go false r = rw r
      quiet-in (suc d) x g o e = go (root x) refl (quiet-in d)
        where
          go : (b : Bool) → root x ≡ b → ((y : N) → good y ≡ true → output y ≡ false → up y ≡ false → input_in rows atomic sent given root output d y ≡ [])
              → cond (root x) (given x) (joined (source_in rows atomic sent given root output (input_in rows atomic sent given root output d)) (rows x)) ≡ []
          go true r ih = rw r (empty x g o r e)
          go false r ih =
              rw r (joined-none (λ y. good y && still_in y) _ (rows x) (all-and good still_in (rows x) (in_rows x g o) (closed_in x g o r e))
              (λ y s. let h = and_left (good y) (still_in y) s in
              source-still (input_in rows atomic sent given root output d) y h (and_right (good y) (still_in y) s) (ih y h)))

      source-cong : (F G : N → List ℕ) (y : N) → good y ≡ true → (output y ≡ false → F y ≡ G y)
          → source_in open_only atomic sent given root output F y ≡ source_in rows atomic sent given root output G y
      unfolding source_in
      source-cong F G y g h = go (output y) refl
        where
          go : (b : Bool) → output y ≡ b
              → cond (output y) (child_out open_only atomic sent (coupled_out open_only atomic sent max_ancestors) y) (F y)
              ≡ cond (output y) (child_out rows atomic sent (coupled_out rows atomic sent max_ancestors) y) (G y)
          go true e = rw e (child-cong (coupled_out open_only atomic sent max_ancestors) (coupled_out rows atomic sent max_ancestors) y (pruned-out max_ancestors y g e))
          go false e = rw e (h e)

      pub pruned-in : (d : ℕ) (x : N) → good x ≡ true → output x ≡ false
          → input_in open_only atomic sent given root output d x ≡ input_in rows atomic sent given root output d x
      unfolding input_in open_only joined
      pruned-in zero x g o = refl
      pruned-in (suc d) x g o = go (up x) refl (pruned-in d)
        where
          go : (b : Bool) → up x ≡ b
              → ((y : N) → good y ≡ true → output y ≡ false → input_in open_only atomic sent given root output d y ≡ input_in rows atomic sent given root output d y)
              → cond (root x) (given x) (joined (source_in open_only atomic sent given root output (input_in open_only atomic sent given root output d)) (cond (up x) (rows x) []))
              ≡ cond (root x) (given x) (joined (source_in rows atomic sent given root output (input_in rows atomic sent given root output d)) (rows x))
          go true e ih =
              rw e (ap (cond (root x) (given x)) (joined-cong good _ _ (rows x) (in_rows x g o)
              (λ y h. source-cong (input_in open_only atomic sent given root output d) (input_in rows atomic sent given root output d) y h (ih y h))))
          go false e ih = down (root x) refl
            where
              down : (b : Bool) → root x ≡ b
                  → cond (root x) (given x) (joined (source_in open_only atomic sent given root output (input_in open_only atomic sent given root output d)) (cond (up x) (rows x) []))
                  ≡ cond (root x) (given x) (joined (source_in rows atomic sent given root output (input_in rows atomic sent given root output d)) (rows x))
              down true r = rw r
              down false r = let q = quiet-in (suc d) x g o e in rw (r, e) (sym (rw r at q))
