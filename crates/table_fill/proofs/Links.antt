-- A chain that is walked gives its links: the children of a component, and the couplings that end at a node, in file order. Assumes nothing.
use mathlib.Core.Path.{◌≡◌, refl, sym, ap, ap₂, ◌∙◌, subst}
use Prim.Native.Nat.{ℕ, zero, suc, ◌+◌, ◌-◌, ◌<◌, ◌≤◌}
use mathlib.Core.List.{List, [], ◌∷◌, map}
use mathlib.Core.Bool.{Bool, true, false, ◌&&◌, not, cond}
use native.Mathlib.Omega.{arith}
use lib.ListN.{length, get_or}
use lib.Dec.{eqb}
use borrow.Author.Tests.{eq-eqb, ne_eqb}
use Rattle.definition.specs.Lists.{keep, up_from}
use Rattle.definition.specs.Model.{Component, Coupling, no_coupling, component_at, is_child, children}
use Rattle.spec_step.specs.Tables.{links}
use Rattle.table_words.specs.Writes.{linked}
use Rattle.table_words.proofs.Chains.{Chain, having, chain-move, linked-chain}
use Rattle.table_components.specs.declared.Field.TheVariants.{Parent}
use Rattle.table_components.specs.Columns.{field_at}
use Rattle.table_fill.proofs.Rows.{keep-long}

chain-links : (f : ℕ → ℕ) (n j : ℕ) (l : List ℕ) → length l ≤ n → Chain f j l → links f n j ≡ l
unfolding links
chain-links f zero j [] h c = refl
chain-links f zero j (k ∷ l) h c = absurd (omega arith)
chain-links f (suc n) j [] h c = rw (eq-eqb j 0 c)
chain-links f (suc n) j (k ∷ l) h c =
    rw (ne_eqb j 0 (λ e. omega (arith, c.0, c.1)), c.0) (ap (λ r. k ∷ r) (chain-links f n (f k) l (omega arith) c.2))

keep_same : (p q : ℕ → Bool) (i m : ℕ) → ((j : ℕ) → i ≤ j → p j ≡ q j) → keep p (up_from i m) ≡ keep q (up_from i m)
unfolding keep up_from
keep_same p q i zero h = refl
keep_same p q i (suc m) h = rw (h i (omega arith), keep_same p q (suc i) m (λ j l. h j (omega arith)))

-- the links of a key, in a table that holds the links as they were written
pub linked-rows : (first size next : ℕ) → first + size ≤ next → (key : ℕ → ℕ) (n : ℕ) (t s : List ℕ) → next + n < length t → first + size ≤ length t
    → ((x : ℕ) → x < size → get_or t (first + x) 0 ≡ 0)
    → ((x : ℕ) → x < size → get_or s (first + x) 0 ≡ get_or (linked first size next key n t) (first + x) 0)
    → ((k : ℕ) → 0 < k → k ≤ n → get_or (linked first size next key n t) (next + k) 0 ≡ get_or s (next + k) 0)
    → (fuel x : ℕ) → n ≤ fuel → x < size → links (λ k. get_or s (next + k) 0) fuel (get_or s (first + x) 0) ≡ having key x 1 n
unfolding having
linked-rows first size next apart key n t s l f z same after fuel x g h =
    chain-links (λ k. get_or s (next + k) 0) fuel (get_or s (first + x) 0) (keep (λ j. eqb (key j) x) (up_from 1 n)) (le)
    (subst (λ j. Chain (λ k. get_or s (next + k) 0) j (keep (λ j. eqb (key j) x) (up_from 1 n))) (sym (same x h))
    (chain-move (λ k. get_or (linked first size next key n t) (next + k) 0) (λ k. get_or s (next + k) 0) (λ j. eqb (key j) x)
    (get_or (linked first size next key n t) (first + x) 0) 1 n (λ k a b. after k (omega arith) (omega arith)) (linked-chain first size next apart key n t l f z x h)))
  where
    le : length (keep (λ j. eqb (key j) x) (up_from 1 n)) ≤ fuel
    le = omega (arith, keep-long (λ j. eqb (key j) x) 1 n)

-- the links by parent are the children
pub child-links : (cs : List Component) (c : ℕ) → 0 < length cs → having (field_at Parent cs) c 1 (length cs - 1) ≡ children cs c
unfolding having children keep up_from is_child field_at
child-links cs c h =
    let e : length cs ≡ suc (length cs - 1) = omega arith in
    keep_same (λ j. eqb (field_at Parent cs j) c) (is_child cs c) 1 (length cs - 1) (λ j l. sym (ap (λ b. not b && eqb (component_at cs j).parent c) (ne_eqb j 0 (λ z. omega arith))))
    ∙ ap (λ n. keep (is_child cs c) (up_from 0 n)) (sym e)

-- the links by target, as couplings
pub coupling-links : {B : Type 0} (x : ℕ) (S : Coupling → B) (T : Coupling → ℕ) (ks : List Coupling) (i : ℕ) (src : ℕ → B) (tgt : ℕ → ℕ)
    → ((j : ℕ) → j < length ks → src (i + j) ≡ S (get_or ks j no_coupling)) → ((j : ℕ) → j < length ks → tgt (i + j) ≡ T (get_or ks j no_coupling))
    → map src (keep (λ j. eqb (tgt j) x) (up_from i (length ks))) ≡ map S (keep (λ k. eqb (T k) x) ks)
unfolding keep up_from
coupling-links x S T [] i src tgt h g = refl
coupling-links x S T (k ∷ ks) i src tgt h g =
    let z : i + 0 ≡ i = omega arith in
    go (eqb (T k) x) (ap (λ j. src j) (sym z) ∙ h 0 (omega arith)) (ap (λ j. eqb (tgt j) x) (sym z) ∙ ap (λ n. eqb n x) (g 0 (omega arith)))
    (coupling-links x S T ks (suc i) src tgt (λ j l. ap src (omega arith) ∙ h (suc j) (omega arith)) (λ j l. ap tgt (omega arith) ∙ g (suc j) (omega arith)))
  where
    go : (b : Bool) → src i ≡ S k → eqb (tgt i) x ≡ b
        → map src (keep (λ j. eqb (tgt j) x) (up_from (suc i) (length ks))) ≡ map S (keep (λ k. eqb (T k) x) ks)
        → map src (cond (eqb (tgt i) x) (i ∷ keep (λ j. eqb (tgt j) x) (up_from (suc i) (length ks))) (keep (λ j. eqb (tgt j) x) (up_from (suc i) (length ks))))
        ≡ map S (cond b (k ∷ keep (λ k. eqb (T k) x) ks) (keep (λ k. eqb (T k) x) ks))
    go true s e ih = rw e (ap₂ ◌∷◌ s ih)
    go false s e ih = rw e ih
