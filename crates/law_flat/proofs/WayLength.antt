-- No way goes along more than 15 couplings: a component has at most 8 ancestors, so at most 7 lead up, one across, and 7 down, or 8 lead
-- up to the root, or 8 down from it. Assumes nothing.
use mathlib.Core.Path.{◌≡◌, refl, ◌∙◌}
use Prim.Native.Nat.{ℕ, zero, suc, ◌+◌, ◌≤◌, ◌<◌, max}
use mathlib.Core.List.{List, [], ◌∷◌, ◌++◌, map}
use mathlib.Core.Bool.{Bool, true, false, ◌&&◌, ◌||◌, not, cond}
use native.Mathlib.Omega.{arith}
use lib.Dec.{leb, ltb, eqb}
use lib.ListN.{length}
use borrow.Author.Tests.{leb-true, le-leb, eqb-true, ltb-true, ltb-false, not-true}
use Rattle.definition.specs.Lists.{concat, all, up_from}
use Rattle.definition.specs.Limits.{max_ancestors, port_count}
use Rattle.definition.specs.Model.{Component, Coupling, Model, component_at, is_atomic, is_child, children, Tree, Forest, leaf, node, stop, more, name_of, forest, tree_at, tree}
use Rattle.definition.specs.Routes.{ports_to}
use Rattle.definition.specs.Pinned.Decoder.{root_within}
use Rattle.law_base.proofs.Tests.{clash, and_left, and_right}
use Rattle.law_base.proofs.Lists.{all_append, all-if, all_map, all-concat}
use Rattle.law_nest.proofs.Occurs.{kept-tests}
use Rattle.law_model.proofs.WellFormed.{WellFormed}
use Rattle.law_nest.proofs.Components.{near-root}
use Rattle.law_flat.proofs.WayShape.{Reached, one_more, down_in, down_from, Counted, counted_from, counted_all, ways_out, ways_out_all, root_reached, counted_routes}

-- ---- how far down a tree goes

unfoldable mutual
  pub height : Tree → ℕ
  height (leaf c) = 0
  height (node c f) = height_all f

  pub height_all : Forest → ℕ
  height_all stop = 0
  height_all (more t f) = max (suc (height t)) (height_all f)

-- ---- the bounds

within : ℕ → Reached → Bool
within n w = leb w.couplings n

short : ℕ → Counted → Bool
short n r = leb r.couplings n

every : {A : Type 0} (l : List A) → all (λ a. true) l ≡ true
unfolding all
every [] = refl
every (a ∷ l) = every l

within_wider : (n k : ℕ) (l : List Reached) → n ≤ k → all (within n) l ≡ true → all (within k) l ≡ true
unfolding within
within_wider n k l h = all-if (within n) (within k) l (λ w e. le-leb w.couplings k (omega (arith, leb-true w.couplings n e)))

module _ (ks : List Coupling) where
  mutual
    unfolding down_in height all within

    down-within : (n k : ℕ) (t : Tree) (q : ℕ) → k + height t ≤ n → all (within n) (down_in ks k t q) ≡ true
    down-within n k (leaf c) q h = rw (le-leb k n (omega arith))
    down-within n k (node c f) q h = down-all-within n k c f q h

    down-all-within : (n k i : ℕ) (f : Forest) (q : ℕ) → k + height_all f ≤ n → all (within n) (down_from ks k i f q) ≡ true
    down-all-within n k i stop q h = refl
    down-all-within n k i (more t f) q h =
        all_append (within n) (concat (map (λ r. down_in ks (suc k) t r) (ports_to ks i (name_of t) q))) (down_from ks k i f q)
        (all-concat (within n) (λ r. true) (λ r. down_in ks (suc k) t r) (ports_to ks i (name_of t) q) (every (ports_to ks i (name_of t) q)) (λ r e. down-within n (suc k) t r (omega arith)))
        (down-all-within n k i f q (omega arith))

  counted-short : (n c : ℕ) (far : ℕ → List Reached) → ((q : ℕ) → all (within n) (far q) ≡ true) → all (short n) (counted_all c far) ≡ true
  unfolding counted_all counted_from short within
  counted-short n c far h =
      all-concat (short n) (λ p. true) (λ p. map (counted_from c p) (far p)) (up_from 0 port_count) (every (up_from 0 port_count)) (λ p e. all_map (short n) (counted_from c p) (far p) ∙ h p)

  more_within : (n : ℕ) (l : List Reached) → all (within n) l ≡ true → all (within (suc n)) (map one_more l) ≡ true
  unfolding within one_more
  more_within n l h = all_map (within (suc n)) one_more l ∙ all-if (within n) (λ w. within (suc n) (one_more w)) l (λ w e. le-leb (suc w.couplings) (suc n) (omega (arith, leb-true w.couplings n e))) h

  -- a tree whose component has d ancestors, and from whose output ports at most 7 + d couplings lead on
  mutual
    unfolding ways_out height all

    out-short : (d : ℕ) (t : Tree) (far : ℕ → List Reached) → d + height t ≤ 8 → ((q : ℕ) → all (within (7 + d)) (far q) ≡ true) → all (short 15) (ways_out ks far t) ≡ true
    out-short d (leaf c) far l h =
        counted-short 15 c far (λ q. within_wider (7 + d) 15 (far q) (omega arith) (h q))
    out-short d (node c f) far l h =
        out-all-short d f (λ i q. down_from ks 0 i f q ++ concat (map (λ r. map one_more (far r)) (ports_to ks i c q))) l
        (λ i q. all_append (within (8 + d)) (down_from ks 0 i f q) _ (down-all-within (8 + d) 0 i f q (omega arith))
        (all-concat (within (8 + d)) (λ r. true) (λ r. map one_more (far r)) (ports_to ks i c q) (every (ports_to ks i c q)) (λ r e. let k : 8 + d ≡ suc (7 + d) = omega arith in rw k (more_within (7 + d) (far r) (h r)))))

    out-all-short : (d : ℕ) (f : Forest) (far : ℕ → ℕ → List Reached) → d + height_all f ≤ 8 → ((i q : ℕ) → all (within (8 + d)) (far i q) ≡ true) → all (short 15) (ways_out_all ks far f) ≡ true
    out-all-short d stop far l h = refl
    out-all-short d (more t f) far l h =
        all_append (short 15) (ways_out ks (far (name_of t)) t) (ways_out_all ks far f)
        (out-short (suc d) t (far (name_of t)) (omega arith) (λ q. let e : 7 + suc d ≡ 8 + d = omega arith in rw e (h (name_of t) q)))
        (out-all-short d f far (omega arith) h)

-- ---- the tree of a model

module _ (m : Model) (w : WellFormed m) where
  abbrev cs : List Component
  cs = m.components

  up_more : (n k c : ℕ) → n ≤ k → root_within n cs c ≡ true → root_within k cs c ≡ true
  unfolding root_within
  up_more zero zero c l h = h
  up_more zero (suc k) c l h = rw h
  up_more (suc n) zero c l h = absurd (omega arith)
  up_more (suc n) (suc k) c l h = go (eqb c 0) (up_more n k (component_at cs c).parent (omega arith)) h
    where
      go : (b : Bool) → (root_within n cs (component_at cs c).parent ≡ true → root_within k cs (component_at cs c).parent ≡ true)
          → b || root_within n cs (component_at cs c).parent ≡ true → b || root_within k cs (component_at cs c).parent ≡ true
      go true ih h = refl
      go false ih h = ih h

  -- who has more than n ancestors has them within 8
  few-above : (n c : ℕ) → c < length m.components → root_within n cs c ≡ false → n < 8
  few-above n c l h = go (ltb n 8) refl
    where
      go : (b : Bool) → ltb n 8 ≡ b → n < 8
      go true e = ltb-true n 8 e
      go false e = absurd (clash (up_more 8 n c (ltb-false n 8 e) (near-root m.components w.components.fit w.some_component c l)) h)

  forest-low : (n : ℕ) (f : ℕ → Tree) (p : ℕ → Bool) (l : List ℕ) → all p l ≡ true → ((d : ℕ) → p d ≡ true → suc n + height (f d) ≤ 8) → n ≤ 8 → n + height_all (forest (map f l)) ≤ 8
  unfolding all forest height
  forest-low n f p [] h k b = omega arith
  forest-low n f p (d ∷ l) h k b = omega (arith, k d (and_left (p d) (all p l) h), forest-low n f p l (and_right (p d) (all p l) h) k b)

  child-test : ℕ → ℕ → Bool
  child-test c d = is_child cs c d && (leb 0 d && ltb d (0 + length m.components))

  child-below : (c d : ℕ) → child-test c d ≡ true → d < length m.components
  unfolding child-test
  child-below c d e = omega (arith, ltb-true d (0 + length m.components) (and_right (leb 0 d) _ (and_right (is_child cs c d) _ e)))

  child-first : (d : ℕ) → child-test 0 d ≡ true → root_within 0 cs d ≡ false
  unfolding child-test is_child root_within
  child-first d e = not-true (eqb d 0) (and_left (not (eqb d 0)) _ (and_left (is_child cs 0 d) _ e))

  child-above : (n c d : ℕ) → root_within n cs c ≡ false → child-test c d ≡ true → root_within (suc n) cs d ≡ false
  unfolding child-test is_child root_within
  child-above n c d h e =
      let k = and_left (is_child cs c d) _ e in
      let z = not-true (eqb d 0) (and_left (not (eqb d 0)) _ k) in
      let q = eqb-true (component_at cs d).parent c (and_right (not (eqb d 0)) _ k) in
      rw (z, q) h

  child-tests : (c : ℕ) → all (child-test c) (children cs c) ≡ true
  unfolding child-test children
  child-tests c = kept-tests (is_child cs c) 0 (length m.components)

  tree-low : (levels n c : ℕ) → c < length m.components → root_within n cs c ≡ false → suc n + height (tree_at levels cs c) ≤ max_ancestors
  unfolding tree_at height
  tree-low zero n c l h = omega (arith, few-above n c l h)
  tree-low (suc levels) n c l h = go (is_atomic cs c) (λ d. tree-low levels (suc n) d)
    where
      child : (d : ℕ) → child-test c d ≡ true → ((d : ℕ) → d < length m.components → root_within (suc n) cs d ≡ false → suc (suc n) + height (tree_at levels cs d) ≤ 8)
          → suc (suc n) + height (tree_at levels cs d) ≤ 8
      child d e ih = ih d (child-below c d e) (child-above n c d h e)

      go : (b : Bool) → ((d : ℕ) → d < length m.components → root_within (suc n) cs d ≡ false → suc (suc n) + height (tree_at levels cs d) ≤ 8)
          → suc n + height (cond b (leaf c) (node c (forest (map (λ d. tree_at levels cs d) (children cs c))))) ≤ 8
      go true ih = omega (arith, few-above n c l h)
      go false ih =
          forest-low (suc n) (λ d. tree_at levels cs d) (child-test c) (children cs c) (child-tests c) (λ d e. child d e ih)
          (omega (arith, few-above n c l h))

  root-low : height (tree m) ≤ max_ancestors
  unfolding tree tree_at height
  root-low = go (is_atomic cs 0)
    where
      n : ℕ
      n = length m.components

      child : (d : ℕ) → child-test 0 d ≡ true → 1 + height (tree_at n cs d) ≤ 8
      child d e = tree-low n 0 d (child-below 0 d e) (child-first d e)

      go : (b : Bool) → height (cond b (leaf 0) (node 0 (forest (map (λ d. tree_at n cs d) (children cs 0))))) ≤ 8
      go true = omega arith
      go false = omega (arith, forest-low 0 (λ d. tree_at n cs d) (child-test 0) (children cs 0) (child-tests 0) child (omega arith))

  -- No route goes along more than 15 couplings.
  pub routes-short : all (λ r. leb r.couplings 15) (counted_routes m) ≡ true
  unfolding counted_routes root_reached short within all
  routes-short =
      all_append (short 15) (counted_all 0 (down_in m.couplings 0 (tree m))) (ways_out m.couplings root_reached (tree m))
      (counted-short m.couplings 15 0 (down_in m.couplings 0 (tree m)) (λ q. down-within m.couplings 15 0 (tree m) q (omega (arith, root-low))))
      (out-short m.couplings 0 (tree m) root_reached (omega (arith, root-low)) (λ q. refl))
