-- Every atomic is one leaf of the root's tree: parents are earlier coupled components, so that going up from an atomic leads through
-- each of its ancestors once. Assumes nothing.
use mathlib.Core.Path.{◌≡◌, refl, ap, ap₂, ◌∙◌}
use Prim.Native.Nat.{ℕ, zero, suc, ◌+◌, ◌≤◌, ◌<◌}
use mathlib.Core.List.{List, map}
use mathlib.Core.Bool.{Bool, true, false, ◌&&◌, not, cond}
use native.Mathlib.Omega.{arith}
use lib.Dec.{eqb, leb, ltb}
use lib.ListN.{length}
use borrow.Author.Tests.{ltb-true, eqb-true, ne_eqb}
use Rattle.definition.specs.Lists.{up_from, count}
use Rattle.definition.specs.Model.{Component, component_at, is_atomic, is_child, children, leaf, node, forest, tree_at}
use Rattle.law_base.proofs.Sums.{sum_of, sum-add, sum-cong, if-if, sum-keep}
use Rattle.law_nest.proofs.Trees.{leaves_t, forest-occurs}
use Rattle.law_base.proofs.Tests.{clash, and_left, and_right, eqb-sym}
use Rattle.law_nest.proofs.Occurs.{pick-one, occurs, once-up, kept-tests}
use Rattle.law_base.proofs.Lists.{sum-cong-if}

module _ (cs : List Component) where
  unfoldable pub par : ℕ → ℕ
  par c = (component_at cs c).parent

  -- what the decoder has checked of the components
  pub record Rooted : Type 0 where
    pub root_coupled : is_atomic cs 0 ≡ false
    pub parent_below : (c : ℕ) → 0 < c → c < length cs → par c < c
    pub parent_coupled : (c : ℕ) → 0 < c → c < length cs → is_atomic cs (par c) ≡ false

  -- an atomic and a coupled component are two
  apart : (r c : ℕ) → is_atomic cs r ≡ true → is_atomic cs c ≡ false → eqb r c ≡ false
  apart r c e f = ne_eqb r c (λ q. clash e (ap (is_atomic cs) q ∙ f))

  -- how often r stands in the chain of c and its ancestors
  anc : ℕ → ℕ → ℕ → ℕ
  anc zero r c = 0
  anc (suc k) r c = cond (eqb r c) 1 0 + cond (eqb c 0) 0 (anc k r (par c))

  -- one of the children
  only : (r c : ℕ) → c < length cs → sum_of (λ d. cond (eqb d c) 1 0) (children cs r) ≡ cond (is_child cs r c) 1 0
  unfolding children
  only r c l =
      sum-keep _ (is_child cs r) (up_from 0 (length cs))
      ∙ sum-cong _ _ (up_from 0 (length cs)) (λ d. if-if (is_child cs r d) (eqb d c) 1 ∙ ap (λ b. cond b (cond (is_child cs r d) 1 0) 0) (eqb-sym d c))
      ∙ pick-one (λ d. cond (is_child cs r d) 1 0) c (up_from 0 (length cs)) (once-up c 0 (length cs) (omega arith) (omega arith))

  module _ (w : Rooted) where
    root-once : (k c : ℕ) → c < k → c < length cs → anc k 0 c ≡ 1
    unfolding anc
    root-once zero c h l = absurd (omega arith)
    root-once (suc k) zero h l = refl
    root-once (suc k) (suc c) h l =
        let b = w.parent_below (suc c) (omega arith) l in
        let i = root-once k (par (suc c)) (omega arith) (omega arith) in
        rw (ne_eqb 0 (suc c) (omega arith), ne_eqb (suc c) 0 (omega arith)) (omega arith)

    -- an atomic is nobody's ancestor
    atomic-no-ancestor : (k r c : ℕ) → is_atomic cs r ≡ true → c < length cs → is_atomic cs c ≡ false → anc k r c ≡ 0
    unfolding anc
    atomic-no-ancestor zero r c e l f = refl
    atomic-no-ancestor (suc k) r zero e l f = rw (apart r 0 e f)
    atomic-no-ancestor (suc k) r (suc c) e l f =
        let b = w.parent_below (suc c) (omega arith) l in
        let i = atomic-no-ancestor k r (par (suc c)) e (omega arith) (w.parent_coupled (suc c) (omega arith) l) in
        rw (apart r (suc c) e f, ne_eqb (suc c) 0 (omega arith)) (omega arith)

    kids-root : (k r : ℕ) → 0 < length cs → sum_of (λ d. anc (suc k) d 0) (children cs r) ≡ 0
    unfolding anc is_child
    kids-root k r l = sum-cong _ (λ d. cond (eqb d 0) 1 0) (children cs r) (λ d. omega arith) ∙ only r 0 l

    -- the sum over the children of r
    kids : (k r c : ℕ) → c ≤ k → c < length cs → sum_of (λ d. anc (suc k) d c) (children cs r) ≡ cond (eqb c 0) 0 (anc k r (par c))
    unfolding anc is_child par
    kids zero r zero h l = kids-root zero r l
    kids zero r (suc c) h l = absurd (omega arith)
    kids (suc k) r zero h l = kids-root (suc k) r l
    kids (suc k) r (suc c) h l =
        let b = w.parent_below (suc c) (omega arith) l in
        let rest = kids k r (par (suc c)) (omega arith) (omega arith) in
        let first : sum_of (λ d. cond (eqb d (suc c)) 1 0) (children cs r) ≡ cond (eqb r (par (suc c))) 1 0
        = only r (suc c) l ∙ rw (ne_eqb (suc c) 0 (omega arith), eqb-sym (par (suc c)) r) in
        rw (ne_eqb (suc c) 0 (omega arith))
        (sum-add (λ d. cond (eqb d (suc c)) 1 0) (λ d. anc (suc k) d (par (suc c))) (children cs r) ∙ ap₂ ◌+◌ first rest)

    pub above : (a : ℕ) → is_atomic cs a ≡ true → a < length cs → 0 < a
    above zero e l = absurd (clash e w.root_coupled)
    above (suc a) e l = omega arith

    pub child-above : (r d : ℕ) → is_child cs r d ≡ true → d < length cs → r < d
    unfolding is_child par
    child-above r zero p q = absurd (clash p refl)
    child-above r (suc d) p q =
        let e = eqb-true (par (suc d)) r (and_right (not (eqb (suc d) 0)) _ p) in
        let b = w.parent_below (suc d) (omega arith) q in
        omega arith

    -- the tree of r has the atomic a as a leaf as often as r stands above it
    leaves-anc : (fuel k r a : ℕ) → is_atomic cs a ≡ true → a ≤ k → a < length cs → r < length cs → length cs ≤ fuel + r
        → occurs a (leaves_t (tree_at fuel cs r)) ≡ anc (suc k) r a
    unfolding tree_at leaves_t count anc children
    leaves-anc zero k r a e h l b g = absurd (omega arith)
    leaves-anc (suc fuel) k r a e h l b g = go (is_atomic cs r) refl (λ d p q. leaves-anc fuel k d a e h l q (let c = child-above r d p q in omega arith))
      where
        go : (t : Bool) → is_atomic cs r ≡ t
            → ((d : ℕ) → is_child cs r d ≡ true → d < length cs → occurs a (leaves_t (tree_at fuel cs d)) ≡ anc (suc k) d a)
            → occurs a (leaves_t (cond (is_atomic cs r) (leaf r) (node r (forest (map (λ d. tree_at fuel cs d) (children cs r)))))) ≡ anc (suc k) r a
        go true f ih =
            let z = above a e l in
            let b = w.parent_below a z l in
            let i = atomic-no-ancestor k r (par a) f (omega arith) (w.parent_coupled a z l) in
            rw (f, eqb-sym r a, ne_eqb a 0 (omega arith)) (omega arith)
        go false f ih =
            let i = forest-occurs a (λ d. tree_at fuel cs d) (children cs r)
            ∙ sum-cong-if (λ d. is_child cs r d && (leb 0 d && ltb d (0 + length cs))) (λ d. occurs a (leaves_t (tree_at fuel cs d))) (λ d. anc (suc k) d a) (children cs r)
            (kept-tests (is_child cs r) 0 (length cs))
            (λ d e. ih d (and_left (is_child cs r d) _ e) (omega (arith, ltb-true d (0 + length cs) (and_right (leb 0 d) _ (and_right (is_child cs r d) _ e)))))
            ∙ kids k r a h l in
            rw (f, eqb-sym r a, apart a r e f) (omega arith)

    -- every atomic is one leaf of the root's tree
    pub leaf-once : (a : ℕ) → is_atomic cs a ≡ true → a < length cs → occurs a (leaves_t (tree_at (suc (length cs)) cs 0)) ≡ 1
    leaf-once a e l = leaves-anc (suc (length cs)) a 0 a e (omega arith) l (omega arith) (omega arith) ∙ root-once (suc a) a (omega arith) l
