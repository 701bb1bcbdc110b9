-- The routes counted: the ways on from each output port, from the lowest component number up, and the sum over the atomics. Assumes nothing.
use mathlib.Core.Path.{◌≡◌, refl, sym, ap, ap₂, ◌∙◌}
use Prim.Native.Nat.{ℕ, zero, suc, ◌+◌, ◌≤◌, ◌<◌}
use mathlib.Core.List.{List, [], ◌∷◌, ◌++◌, map}
use mathlib.Core.Bool.{Bool, true, false, ◌&&◌, not, cond, true≢false}
use native.Mathlib.Omega.{arith}
use lib.Dec.{eqb, ltb}
use lib.ListN.{length, length-append, length-map, replicate, length-replicate}
use borrow.Author.Tests.{eqb-true, eq-eqb, ne_eqb, lt-ltb}
use Rattle.definition.specs.Lists.{concat, keep, up_from}
use Rattle.definition.specs.Model.{Component, Coupling, Model, component_at, is_atomic, is_child, children, Tree, Forest, leaf, node, stop, more, forest, name_of, tree}
use Rattle.definition.specs.Routes.{ports_to, Port, ends_in, ends_from, joined, joined_all, ways_from, ways_from_all, root_ends, routes}
use Rattle.law_base.proofs.Sums.{sum_of, sum-cong, sum-add, sum-zero, sum-keep, sum-cons, sum-swap, if-both, if-zero}
use Rattle.law_base.proofs.Tests.{eqb-sym, and_right}
use Rattle.law_routes.specs.Ways.{Rising, sub, down, up_in, up}
use Rattle.law_routes.proofs.Counts.{leads, sum-pick}
use Rattle.law_routes.proofs.Nests.{sub-step, sub-name, across, length-concat}

keep-cong : (f g : ℕ → ℕ) (p : ℕ → Bool) (k n : ℕ) → ((d : ℕ) → p d ≡ true → d < k + n → f d ≡ g d) → sum_of f (keep p (up_from k n)) ≡ sum_of g (keep p (up_from k n))
unfolding sum_of keep up_from
keep-cong f g p k zero h = refl
keep-cong f g p k (suc n) h = go (p k) refl (keep-cong f g p (suc k) n (λ d e l. h d e (omega arith)))
  where
    go : (b : Bool) → p k ≡ b → sum_of f (keep p (up_from (suc k) n)) ≡ sum_of g (keep p (up_from (suc k) n))
        → sum_of f (cond b (k ∷ keep p (up_from (suc k) n)) (keep p (up_from (suc k) n))) ≡ sum_of g (cond b (k ∷ keep p (up_from (suc k) n)) (keep p (up_from (suc k) n)))
    go true e ih = ap₂ ◌+◌ (h k e (omega arith)) ih
    go false e ih = ih

-- four ports
abbrev pub ports : (ℕ → ℕ) → ℕ
ports h = h 0 + (h 1 + (h 2 + h 3))

length-joined : (c : ℕ) (e : ℕ → List Port) → length (joined_all c e) ≡ ports (λ q. length (e q))
unfolding joined_all concat sum_of up_from
length-joined c e =
    length-concat (λ p. map (joined c p) (e p)) (0 ∷ 1 ∷ 2 ∷ 3 ∷ [])
    ∙ sum-cong _ (λ b. length (e b)) (0 ∷ 1 ∷ 2 ∷ 3 ∷ []) (λ b. length-map (e b) (joined c b)) ∙ omega arith

module _ (ks : List Coupling) where
  -- only the numbers of ends matter
  length-on : (e : ℕ → List Port) (l : List Port) (ps : List ℕ) → length (l ++ concat (map e ps)) ≡ length l + sum_of (λ r. length (e r)) ps
  length-on e l ps = length-append l (concat (map e ps)) ∙ ap (λ n. length l + n) (length-concat e ps)

  mutual
    unfolding ways_from

    pub ways-cong : (e g : ℕ → List Port) (t : Tree) → ((q : ℕ) → length (e q) ≡ length (g q)) → length (ways_from ks e t) ≡ length (ways_from ks g t)
    ways-cong e g (leaf c) h = length-joined c e ∙ ap₂ ◌+◌ (h 0) (ap₂ ◌+◌ (h 1) (ap₂ ◌+◌ (h 2) (h 3))) ∙ sym (length-joined c g)
    ways-cong e g (node c f) h =
        all-cong _ _ f
        (λ d q. length-on e (ends_from ks d f q) (ports_to ks d c q) ∙ ap (λ n. length (ends_from ks d f q) + n) (sum-cong _ _ (ports_to ks d c q) h)
        ∙ sym (length-on g (ends_from ks d f q) (ports_to ks d c q)))

    all-cong : (e g : ℕ → ℕ → List Port) (f : Forest) → ((d q : ℕ) → length (e d q) ≡ length (g d q)) → length (ways_from_all ks e f) ≡ length (ways_from_all ks g f)
    all-cong e g stop h = refl
    all-cong e g (more t f) h =
        length-append (ways_from ks (e (name_of t)) t) (ways_from_all ks e f)
        ∙ ap₂ ◌+◌ (ways-cong (e (name_of t)) (g (name_of t)) t (h (name_of t))) (all-cong e g f h)
        ∙ sym (length-append (ways_from ks (g (name_of t)) t) (ways_from_all ks g f))

module _ (ks : List Coupling) (cs : List Component) where
  abbrev pub par : ℕ → ℕ
  par c = (component_at cs c).parent

  abbrev pub some : Port
  some = record { component = 0; port = 0 }

  unfoldable pub ways : ℕ → ℕ
  ways c = length (ways_from ks (λ q. replicate (up cs ks c q) some) (sub cs c))

module _ (ks : List Coupling) (cs : List Component) (r : Rising cs) where
  own-child : (c : ℕ) → 0 < c → is_child cs (par ks cs c) c ≡ true
  unfolding is_child
  own-child c h = rw (ne_eqb c 0 (omega arith), eq-eqb (component_at cs c).parent (component_at cs c).parent refl)

  parent_of : (c d : ℕ) → is_child cs c d ≡ true → (par ks cs d ≡ c) × (0 < d)
  unfolding is_child
  parent_of c zero e = absurd (true≢false (sym e))
  parent_of c (suc d) e = (eqb-true _ _ (and_right (not (eqb (suc d) 0)) _ e), omega arith)

  up_same : (f g c q : ℕ) → c < length cs → c ≤ f → c ≤ g → up_in cs ks f c q ≡ up_in cs ks g c q
  unfolding up_in
  up_same zero zero c q b h l = refl
  up_same zero (suc g) zero q b h l = refl
  up_same zero (suc g) (suc c) q b h l = absurd (omega arith)
  up_same (suc f) zero zero q b h l = refl
  up_same (suc f) zero (suc c) q b h l = absurd (omega arith)
  up_same (suc f) (suc g) zero q b h l = refl
  up_same (suc f) (suc g) (suc c) q b h l =
      let s = r (par ks cs (suc c)) (suc c) (own-child (suc c) (omega arith)) b in
      ap (λ n. cond (eqb (suc c) 0) 1 (length (ends_from ks (suc c) (forest (map (sub cs) (children cs (par ks cs (suc c))))) q) + n))
      (sum-cong _ _ (ports_to ks (suc c) (par ks cs (suc c)) q) (λ p. up_same f g (par ks cs (suc c)) p (omega arith) (omega arith) (omega arith)))

  pub up_root : (q : ℕ) → up cs ks 0 q ≡ 1
  unfolding up up_in
  up_root q = refl

  -- from a child of c: across to the children of c, or up to c
  pub up_step : (c d q : ℕ) → is_child cs c d ≡ true → d < length cs
      → up cs ks d q ≡ length (ends_from ks d (forest (map (sub cs) (children cs c))) q) + sum_of (up cs ks c) (ports_to ks d c q)
  unfolding up up_in
  up_step c zero q e b = absurd (omega (arith, (parent_of c 0 e).1))
  up_step c (suc d) q e b =
      let p = (parent_of c (suc d) e).0 in
      let s = r c (suc d) e b in
      rw (ne_eqb (suc d) 0 (omega arith), p)
      (ap (λ n. length (ends_from ks (suc d) (forest (map (sub cs) (children cs c))) q) + n)
      (sum-cong _ _ (ports_to ks (suc d) c q) (λ j. up_same d c c j (omega arith) (omega arith) (omega arith))))

  -- ---- the ways from the atomics below c

  -- with any ends of those numbers
  pub ways-are : (c : ℕ) (e : ℕ → List Port) → ((q : ℕ) → length (e q) ≡ up cs ks c q) → length (ways_from ks e (sub cs c)) ≡ ways ks cs c
  unfolding ways
  ways-are c e h = ways-cong ks e _ (sub cs c) (λ q. h q ∙ sym (length-replicate (up cs ks c q) (some ks cs)))

  forest-ways : (e : ℕ → ℕ → List Port) (ds : List ℕ) → length (ways_from_all ks e (forest (map (sub cs) ds))) ≡ sum_of (λ d. length (ways_from ks (e d) (sub cs d))) ds
  unfolding ways_from forest sum_of
  forest-ways e [] = refl
  forest-ways e (d ∷ ds) =
      length-append (ways_from ks (e (name_of (sub cs d))) (sub cs d)) (ways_from_all ks e (forest (map (sub cs) ds)))
      ∙ ap₂ ◌+◌ (ap (λ n. length (ways_from ks (e n) (sub cs d))) (sub-name cs d)) (forest-ways e ds)

  pub ways-step : (c : ℕ) → ways ks cs c ≡ cond (is_atomic cs c) (ports (up cs ks c)) (sum_of (ways ks cs) (children cs c))
  unfolding ways_from children ways sub
  ways-step c = ap (λ t. length (ways_from ks e t)) (sub-step cs r c) ∙ go (is_atomic cs c)
    where
      e : ℕ → List Port
      e q = replicate (up cs ks c q) (some ks cs)

      long : (q : ℕ) → length (e q) ≡ up cs ks c q
      long q = length-replicate (up cs ks c q) (some ks cs)

      f : Forest
      f = forest (map (sub cs) (children cs c))

      go : (b : Bool) → length (ways_from ks e (cond b (leaf c) (node c f))) ≡ cond b (ports (up cs ks c)) (sum_of (ways ks cs) (children cs c))
      go true = length-joined c e ∙ ap₂ ◌+◌ (long 0) (ap₂ ◌+◌ (long 1) (ap₂ ◌+◌ (long 2) (long 3)))
      go false =
          forest-ways (λ d q. ends_from ks d f q ++ concat (map e (ports_to ks d c q))) (children cs c)
          ∙ keep-cong _ (ways ks cs) (is_child cs c) 0 (length cs)
          (λ d p l. ways-are d _ (λ q. length-on ks e (ends_from ks d f q) (ports_to ks d c q)
          ∙ ap (λ n. length (ends_from ks d f q) + n) (sum-cong _ _ (ports_to ks d c q) long) ∙ sym (up_step c d q p (omega arith))))

-- ---- a sum over the leaves of the nest is a sum over the atomics' numbers

pub up-cong : (f g : ℕ → ℕ) (k n : ℕ) → ((d : ℕ) → d < k + n → f d ≡ g d) → sum_of f (up_from k n) ≡ sum_of g (up_from k n)
unfolding sum_of up_from
up-cong f g k zero h = refl
up-cong f g k (suc n) h = ap₂ ◌+◌ (h k (omega arith)) (up-cong f g (suc k) n (λ d l. h d (omega arith)))

split_root : (b : Bool) (n : ℕ) → n ≡ cond b n 0 + cond (not b) n 0
split_root true n = omega arith
split_root false n = omega arith

module _ (cs : List Component) (r : Rising cs) (coupled : (c d : ℕ) → is_child cs c d ≡ true → d < length cs → is_atomic cs c ≡ false) (h T : ℕ → ℕ)
    (step : (c : ℕ) → c < length cs → T c ≡ cond (is_atomic cs c) (h c) (sum_of T (children cs c))) where
  no-children : (c : ℕ) → is_atomic cs c ≡ true → sum_of T (children cs c) ≡ 0
  unfolding children
  no-children c e =
      keep-cong T (λ d. 0) (is_child cs c) 0 (length cs) (λ d p l. absurd (true≢false (sym e ∙ coupled c d p (omega arith)))) ∙ sum-zero (keep (is_child cs c) (up_from 0 (length cs)))

  one_each : (c : ℕ) → c < length cs → T c ≡ cond (is_atomic cs c) (h c) 0 + sum_of T (children cs c)
  one_each c l = step c l ∙ go (is_atomic cs c) refl
    where
      go : (b : Bool) → is_atomic cs c ≡ b → cond b (h c) (sum_of T (children cs c)) ≡ cond b (h c) 0 + sum_of T (children cs c)
      go true e = omega (arith, no-children c e)
      go false e = omega arith

  -- each component but the root is the child of one
  child-once : (d : ℕ) → d < length cs → sum_of (λ c. cond (is_child cs c d) (T d) 0) (up_from 0 (length cs)) ≡ cond (not (eqb d 0)) (T d) 0
  unfolding is_child
  child-once d l =
      sum-cong _ _ (up_from 0 (length cs)) (λ c. sym (if-both (not (eqb d 0)) (eqb (component_at cs d).parent c) (T d)))
      ∙ sum-pick (λ c. cond (not (eqb d 0)) (T d) 0) (component_at cs d).parent (length cs) ∙ go d l
    where
      go : (d : ℕ) → d < length cs → cond (ltb (component_at cs d).parent (length cs)) (cond (not (eqb d 0)) (T d) 0) 0 ≡ cond (not (eqb d 0)) (T d) 0
      go zero l = if-zero (ltb (component_at cs 0).parent (length cs))
      go (suc d) l =
          let s = r (component_at cs (suc d)).parent (suc d) (rw (ne_eqb (suc d) 0 (omega arith), eq-eqb (component_at cs (suc d)).parent (component_at cs (suc d)).parent refl)) l in
          rw (lt-ltb (component_at cs (suc d)).parent (length cs) (omega arith))

  all-children : sum_of (λ c. sum_of T (children cs c)) (up_from 0 (length cs)) ≡ sum_of (λ d. cond (not (eqb d 0)) (T d) 0) (up_from 0 (length cs))
  unfolding children
  all-children =
      sum-cong _ _ (up_from 0 (length cs)) (λ c. sum-keep T (is_child cs c) (up_from 0 (length cs)))
      ∙ sum-swap (λ c d. cond (is_child cs c d) (T d) 0) (up_from 0 (length cs)) (up_from 0 (length cs))
      ∙ up-cong _ _ 0 (length cs) (λ d l. child-once d (omega arith))

  pub over-atomics : 0 < length cs → T 0 ≡ sum_of (λ c. cond (is_atomic cs c) (h c) 0) (up_from 0 (length cs))
  over-atomics l =
      let n = up_from 0 (length cs) in
      let a = up-cong T (λ c. cond (is_atomic cs c) (h c) 0 + sum_of T (children cs c)) 0 (length cs) (λ c b. one_each c (omega arith)) ∙ sum-add _ _ n in
      let b = sum-cong T (λ d. cond (eqb 0 d) (T d) 0 + cond (not (eqb 0 d)) (T d) 0) n (λ d. split_root (eqb 0 d) (T d)) ∙ sum-add _ _ n in
      let c : sum_of (λ d. cond (eqb 0 d) (T d) 0) n ≡ T 0 = sum-pick T 0 (length cs) ∙ rw (lt-ltb 0 (length cs) l) in
      let e : sum_of (λ d. cond (not (eqb 0 d)) (T d) 0) n ≡ sum_of (λ d. cond (not (eqb d 0)) (T d) 0) n = sum-cong _ _ n (λ d. ap (λ t. cond (not t) (T d) 0) (eqb-sym 0 d)) in
      let f = all-children in
      omega arith

-- The number of routes: the ways on from the root's input ports and from the atomics' output ports.
pub count-routes : (m : Model) → Rising m.components → ((c d : ℕ) → is_child m.components c d ≡ true → d < length m.components → is_atomic m.components c ≡ false)
    → 0 < length m.components
    → length (routes m) ≡ ports (down m.components m.couplings 0)
    + sum_of (λ c. cond (is_atomic m.components c) (ports (up m.components m.couplings c)) 0) (up_from 0 (length m.components))
unfolding routes tree sub down root_ends
count-routes m r p l =
    let cs = m.components in
    let ks = m.couplings in
    length-append (joined_all 0 (ends_in ks (sub cs 0))) (ways_from ks root_ends (sub cs 0))
    ∙ ap₂ ◌+◌ (length-joined 0 (ends_in ks (sub cs 0)))
    (ways-are ks cs r 0 root_ends (λ q. sym (up_root ks cs r q))
    ∙ over-atomics cs r p (λ c. ports (up cs ks c)) (ways ks cs) (λ c b. ways-step ks cs r c) l)

-- the same step, by couplings: across to the children of c, and up to c
pub up-by-coupling : (ks : List Coupling) (cs : List Component) → Rising cs → (c d q : ℕ) → is_child cs c d ≡ true → d < length cs
    → up cs ks d q ≡ sum_of (λ k. cond (leads (is_child cs c) (length cs) d q k) (down cs ks k.target k.target_port) 0
    + cond (eqb k.source d && eqb k.target c && eqb k.source_port q) (up cs ks c k.target_port) 0) ks
unfolding sum_of ports_to
up-by-coupling ks cs r c d q e l =
    up_step ks cs r c d q e l ∙ ap₂ ◌+◌ (across cs ks d c q) (to_one (up cs ks c) ks) ∙ sym (sum-add _ _ ks)
  where
    to_one : (g : ℕ → ℕ) (ks : List Coupling) → sum_of g (ports_to ks d c q) ≡ sum_of (λ k. cond (eqb k.source d && eqb k.target c && eqb k.source_port q) (g k.target_port) 0) ks
    to_one g [] = refl
    to_one g (k ∷ ks) =
        sum-cons g (eqb k.source d && eqb k.target c && eqb k.source_port q) k.target_port (ports_to ks d c q) ∙ ap (λ n. cond (eqb k.source d && eqb k.target c && eqb k.source_port q) (g k.target_port) 0 + n) (to_one g ks)
