-- Pulling by numbers is pulling by nodes, where each node has a number and the tables say the same of it: the link from the code's tables to the
-- ports of a model. Assumes nothing.
use mathlib.Core.Path.{◌≡◌, refl, ap, ap₂, ◌∙◌}
use Prim.Native.Nat.{ℕ, zero, suc}
use mathlib.Core.List.{List, [], ◌∷◌, ◌++◌, map}
use mathlib.Core.Bool.{Bool, true, false, cond}
use Rattle.definition.specs.Lists.{all}
use Rattle.definition.specs.Limits.{max_ancestors}
use Rattle.law_base.proofs.Tests.{and_left, and_right}
use Rattle.spec_step.specs.Pull.{joined, child_out, coupled_out, source_in, input_in}

module _ {N M : Type 0} (code : N → M) (good : N → Bool) where
  joined-code : (F : N → List ℕ) (G : M → List ℕ) → ((x : N) → good x ≡ true → G (code x) ≡ F x) → (l : List N) → all good l ≡ true → joined G (map code l) ≡ joined F l
  unfolding joined all
  joined-code F G h [] e = refl
  joined-code F G h (x ∷ l) e = ap₂ ◌++◌ (h x (and_left (good x) (all good l) e)) (joined-code F G h l (and_right (good x) (all good l) e))

  module _ (rows : N → List N) (atomic : N → Bool) (sent : N → List ℕ) (rows' : M → List M) (atomic' : M → Bool) (sent' : M → List ℕ)
      (rows_are : (x : N) → good x ≡ true → rows' (code x) ≡ map code (rows x)) (rows-good : (x : N) → good x ≡ true → all good (rows x) ≡ true)
      (atomic-is : (x : N) → good x ≡ true → atomic' (code x) ≡ atomic x) (sent_is : (x : N) → good x ≡ true → atomic x ≡ true → sent' (code x) ≡ sent x) where
    child-of : (F : N → List ℕ) (G : M → List ℕ) (x : N) → good x ≡ true → G (code x) ≡ F x → child_out rows' atomic' sent' G (code x) ≡ child_out rows atomic sent F x
    unfolding child_out
    child-of F G x e h = ap (λ b. cond b (sent' (code x)) (G (code x))) (atomic-is x e) ∙ go (atomic x) refl
      where
        go : (b : Bool) → atomic x ≡ b → cond (atomic x) (sent' (code x)) (G (code x)) ≡ cond (atomic x) (sent x) (F x)
        go true f = rw f (sent_is x e f)
        go false f = rw f h

    pub coupled-code : (d : ℕ) (x : N) → good x ≡ true → coupled_out rows' atomic' sent' d (code x) ≡ coupled_out rows atomic sent d x
    unfolding coupled_out
    coupled-code zero x e = refl
    coupled-code (suc d) x e =
        rw (rows_are x e)
        (joined-code (child_out rows atomic sent (coupled_out rows atomic sent d)) (child_out rows' atomic' sent' (coupled_out rows' atomic' sent' d))
        (λ y f. child-of (coupled_out rows atomic sent d) (coupled_out rows' atomic' sent' d) y f (coupled-code d y f)) (rows x) (rows-good x e))

    module _ (given : N → List ℕ) (root output : N → Bool) (given' : M → List ℕ) (root' output' : M → Bool)
        (given_is : (x : N) → good x ≡ true → root x ≡ true → given' (code x) ≡ given x) (root_is : (x : N) → good x ≡ true → root' (code x) ≡ root x)
        (output_is : (x : N) → good x ≡ true → output' (code x) ≡ output x) where
      root-cond : (x : N) (l r : List ℕ) → good x ≡ true → l ≡ r → cond (root' (code x)) (given' (code x)) l ≡ cond (root x) (given x) r
      root-cond x l r e h = ap (λ b. cond b (given' (code x)) l) (root_is x e) ∙ go (root x) refl
        where
          go : (b : Bool) → root x ≡ b → cond (root x) (given' (code x)) l ≡ cond (root x) (given x) r
          go true f = rw f (given_is x e f)
          go false f = rw f h

      source_of : (F : N → List ℕ) (G : M → List ℕ) (x : N) → good x ≡ true → G (code x) ≡ F x
          → source_in rows' atomic' sent' given' root' output' G (code x) ≡ source_in rows atomic sent given root output F x
      unfolding source_in
      source_of F G x e h = rw (output_is x e, child-of (coupled_out rows atomic sent max_ancestors) (coupled_out rows' atomic' sent' max_ancestors) x e (coupled-code max_ancestors x e), h)

      pub input-code : (d : ℕ) (x : N) → good x ≡ true → input_in rows' atomic' sent' given' root' output' d (code x) ≡ input_in rows atomic sent given root output d x
      unfolding input_in
      input-code zero x e = root-cond x [] [] e refl
      input-code (suc d) x e =
          root-cond x _ _ e (ap (joined (source_in rows' atomic' sent' given' root' output' (input_in rows' atomic' sent' given' root' output' d))) (rows_are x e)
          ∙ joined-code (source_in rows atomic sent given root output (input_in rows atomic sent given root output d))
          (source_in rows' atomic' sent' given' root' output' (input_in rows' atomic' sent' given' root' output' d))
          (λ y f. source_of (input_in rows atomic sent given root output d) (input_in rows' atomic' sent' given' root' output' d) y f (input-code d y f)) (rows x) (rows-good x e))
