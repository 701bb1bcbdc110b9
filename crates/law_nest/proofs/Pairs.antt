-- Values kept beside the numbers of a list, as a saved run keeps its entries beside the atomics: by number and by place they are the same,
-- and a fact of each pair is kept by what changes each. Assumes nothing.
use mathlib.Core.Path.{◌≡◌, refl, sym, ap, ap₂, ◌∙◌, subst}
use Prim.Native.Nat.{ℕ, suc, ◌<◌}
use mathlib.Core.List.{List, [], ◌∷◌, map}
use mathlib.Core.Bool.{Bool, true, false, cond}
use native.Mathlib.Omega.{arith}
use lib.Dec.{eqb}
use lib.ListN.{length}
use borrow.Author.Tests.{eqb-true, eqb-false, eq-eqb, ne_eqb}
use Rattle.definition.specs.Lists.{all, count}
use Rattle.definition.specs.SavedRun.{Entry, look_up}
use Rattle.law_base.proofs.Tests.{and_left, and_right}
use Rattle.law_nest.proofs.Occurs.{occurs, Distinct, map-avoid}

unfoldable pub paired : {A B : Type 0} → (ℕ → A → B) → List ℕ → List A → List B
paired f [] rs = []
paired f (c ∷ cs) [] = []
paired f (c ∷ cs) (r ∷ rs) = f c r ∷ paired f cs rs

pub paired-map : {A B : Type 0} (f : ℕ → A → B) (g : ℕ → ℕ) (cs : List ℕ) (rs : List A) → paired f (map g cs) rs ≡ paired (λ c r. f (g c) r) cs rs
unfolding paired
paired-map f g [] rs = refl
paired-map f g (c ∷ cs) [] = refl
paired-map f g (c ∷ cs) (r ∷ rs) = ap (λ l. f (g c) r ∷ l) (paired-map f g cs rs)

pub paired-cong-if : {A B : Type 0} (q : ℕ → Bool) (f g : ℕ → A → B) (cs : List ℕ) (rs : List A) → all q cs ≡ true → ((c : ℕ) (r : A) → q c ≡ true → f c r ≡ g c r)
    → paired f cs rs ≡ paired g cs rs
unfolding paired all
paired-cong-if q f g [] rs h e = refl
paired-cong-if q f g (c ∷ cs) [] h e = refl
paired-cong-if q f g (c ∷ cs) (r ∷ rs) h e = ap₂ ◌∷◌ (e c r (and_left (q c) _ h)) (paired-cong-if q f g cs rs (and_right (q c) _ h) e)

-- what is looked up by number stands at the number's place
pub paired-look_up : {B : Type 0} (f : ℕ → Entry → B) (l : List ℕ) (rs : List Entry) → Distinct l → length rs ≡ length l
    → map (λ c. f c (look_up l rs c)) l ≡ paired f l rs
unfolding paired look_up
paired-look_up f [] rs d h = refl
paired-look_up f (c ∷ l) [] d h = absurd (omega arith)
paired-look_up f (c ∷ l) (r ∷ rs) d h =
    ap₂ ◌∷◌ (rw (eq-eqb c c refl))
    (map-avoid c (λ s. f s (cond (eqb c s) r (look_up l rs s))) (λ s. f s (look_up l rs s)) l d.0 (λ s e. rw e) ∙ paired-look_up f l rs d.1 (omega arith))

-- a fact of each number and the value beside it, none left over
abbrev pub Pairs : {A : Type 0} → (ℕ → A → Type 0) → List ℕ → List A → Type 0
Pairs P [] [] = Unit {0}
Pairs P [] (r ∷ rs) = ⊥
Pairs P (c ∷ cs) [] = ⊥
Pairs P (c ∷ cs) (r ∷ rs) = P c r × Pairs P cs rs

pub pairs-length : {A : Type 0} (P : ℕ → A → Type 0) (cs : List ℕ) (rs : List A) → Pairs P cs rs → length rs ≡ length cs
pairs-length P [] [] h = refl
pairs-length P [] (r ∷ rs) h = absurd h
pairs-length P (c ∷ cs) [] h = absurd h
pairs-length P (c ∷ cs) (r ∷ rs) h = ap suc (pairs-length P cs rs h.1)

pub pairs-look_up : (P : ℕ → Entry → Type 0) (l : List ℕ) (rs : List Entry) (c : ℕ) → Pairs P l rs → 0 < occurs c l → P c (look_up l rs c)
unfolding look_up count
pairs-look_up P [] [] c h k = absurd (omega arith)
pairs-look_up P [] (r ∷ rs) c h k = absurd h
pairs-look_up P (a ∷ l) [] c h k = absurd h
pairs-look_up P (a ∷ l) (r ∷ rs) c h k = go (eqb a c) refl (λ k. pairs-look_up P l rs c h.1 k)
  where
    go : (t : Bool) → eqb a c ≡ t → (0 < occurs c l → P c (look_up l rs c)) → P c (cond (eqb a c) r (look_up l rs c))
    go true e ih = rw e (subst (λ d. P d r) (eqb-true a c e) h.0)
    go false e ih =
        let f : eqb c a ≡ false = ne_eqb c a (λ d. eqb-false a c e (sym d)) in
        let g = rw f at k in
        rw e (ih (omega arith))

-- values made from the pairs
pub pairs-paired : {A : Type 0} (P Q : ℕ → A → Type 0) (f : ℕ → A → A) (cs : List ℕ) (rs : List A) → ((c : ℕ) (r : A) → P c r → Q c (f c r)) → Pairs P cs rs
    → Pairs Q cs (paired f cs rs)
unfolding paired
pairs-paired P Q f [] [] e h = tt
pairs-paired P Q f [] (r ∷ rs) e h = absurd h
pairs-paired P Q f (c ∷ cs) [] e h = absurd h
pairs-paired P Q f (c ∷ cs) (r ∷ rs) e h = (e c r h.0, pairs-paired P Q f cs rs e h.1)

pub pairs-if : {A : Type 0} (P Q : ℕ → A → Type 0) (cs : List ℕ) (rs : List A) → ((c : ℕ) (r : A) → P c r → Q c r) → Pairs P cs rs → Pairs Q cs rs
pairs-if P Q [] [] e h = tt
pairs-if P Q [] (r ∷ rs) e h = absurd h
pairs-if P Q (c ∷ cs) [] e h = absurd h
pairs-if P Q (c ∷ cs) (r ∷ rs) e h = (e c r h.0, pairs-if P Q cs rs e h.1)

pub pairs-both : {A : Type 0} (P Q : ℕ → A → Type 0) (cs : List ℕ) (rs : List A) → Pairs P cs rs → Pairs Q cs rs → Pairs (λ c r. P c r × Q c r) cs rs
pairs-both P Q [] [] h k = tt
pairs-both P Q [] (r ∷ rs) h k = absurd h
pairs-both P Q (c ∷ cs) [] h k = absurd h
pairs-both P Q (c ∷ cs) (r ∷ rs) h k = ((h.0, k.0), pairs-both P Q cs rs h.1 k.1)

pub look_up-map : (f : ℕ → Entry) (l : List ℕ) (c : ℕ) → 0 < occurs c l → look_up l (map f l) c ≡ f c
unfolding look_up count
look_up-map f [] c h = absurd (omega arith)
look_up-map f (a ∷ l) c h = go (eqb a c) refl (look_up-map f l c)
  where
    go : (b : Bool) → eqb a c ≡ b → (0 < occurs c l → look_up l (map f l) c ≡ f c) → cond (eqb a c) (f a) (look_up l (map f l) c) ≡ f c
    go true e ih = rw e (ap f (eqb-true a c e))
    go false e ih =
        let g : eqb c a ≡ false = ne_eqb c a (λ d. eqb-false a c e (sym d)) in
        let k = rw g at h in
        rw e (ih (omega arith))
