-- The tree of a component by its number: a fuel that suffices gives the same tree, and the ends of ways down are counted from the
-- highest number down. Assumes nothing.
use mathlib.Core.Path.{◌≡◌, refl, ap, ap₂, ◌∙◌}
use Prim.Native.Nat.{ℕ, zero, suc, ◌+◌, ◌≤◌, ◌<◌}
use mathlib.Core.List.{List, [], ◌∷◌, map}
use mathlib.Core.Bool.{Bool, true, false, cond}
use native.Mathlib.Omega.{arith}
use lib.ListN.{length, length-append}
use Rattle.definition.specs.Lists.{concat, keep, up_from}
use Rattle.definition.specs.Model.{Component, Coupling, is_atomic, is_child, children, leaf, node, forest, tree_at, name_of}
use Rattle.definition.specs.Routes.{ports_to, ends_in, ends_from}
use Rattle.law_base.proofs.Sums.{sum_of}
use Rattle.law_routes.specs.Ways.{Rising, sub, down}
use Rattle.law_routes.proofs.Counts.{leads, by-coupling}

-- two functions that agree on the kept numbers
map-keep : {A : Type 0} (f g : ℕ → A) (p : ℕ → Bool) (k n : ℕ) → ((d : ℕ) → p d ≡ true → d < k + n → f d ≡ g d)
    → map f (keep p (up_from k n)) ≡ map g (keep p (up_from k n))
unfolding keep up_from
map-keep f g p k zero h = refl
map-keep f g p k (suc n) h = go (p k) refl (map-keep f g p (suc k) n (λ d e l. h d e (omega arith)))
  where
    go : (b : Bool) → p k ≡ b → map f (keep p (up_from (suc k) n)) ≡ map g (keep p (up_from (suc k) n))
        → map f (cond b (k ∷ keep p (up_from (suc k) n)) (keep p (up_from (suc k) n))) ≡ map g (cond b (k ∷ keep p (up_from (suc k) n)) (keep p (up_from (suc k) n)))
    go true e ih = ap₂ ◌∷◌ (h k e (omega arith)) ih
    go false e ih = ih

pub length-concat : {A B : Type 0} (g : B → List A) (l : List B) → length (concat (map g l)) ≡ sum_of (λ b. length (g b)) l
unfolding concat sum_of
length-concat g [] = refl
length-concat g (b ∷ l) = length-append (g b) (concat (map g l)) ∙ ap (λ n. length (g b) + n) (length-concat g l)

module _ (cs : List Component) where
  fuel-same : Rising cs → (f g c : ℕ) → c < length cs → length cs ≤ f + c → length cs ≤ g + c → tree_at f cs c ≡ tree_at g cs c
  unfolding tree_at children
  fuel-same r zero g c b h l = absurd (omega arith)
  fuel-same r (suc f) zero c b h l = absurd (omega arith)
  fuel-same r (suc f) (suc g) c b h l =
      ap (λ ts. cond (is_atomic cs c) (leaf c) (node c (forest ts)))
      (map-keep (λ d. tree_at f cs d) (λ d. tree_at g cs d) (is_child cs c) 0 (length cs)
      (λ d e i. let q = r c d e (omega arith) in fuel-same r f g d (omega arith) (omega arith) (omega arith)))

  pub sub-step : Rising cs → (c : ℕ) → sub cs c ≡ cond (is_atomic cs c) (leaf c) (node c (forest (map (sub cs) (children cs c))))
  unfolding sub tree_at children
  sub-step r c =
      ap (λ ts. cond (is_atomic cs c) (leaf c) (node c (forest ts)))
      (map-keep (λ d. tree_at (length cs) cs d) (sub cs) (is_child cs c) 0 (length cs)
      (λ d e i. let q = r c d e (omega arith) in fuel-same r (length cs) (suc (length cs)) d (omega arith) (omega arith) (omega arith)))

  pub sub-name : (c : ℕ) → name_of (sub cs c) ≡ c
  unfolding sub tree_at
  sub-name c = go (is_atomic cs c)
    where
      go : (b : Bool) → name_of (cond b (leaf c) (node c (forest (map (λ d. tree_at (length cs) cs d) (children cs c))))) ≡ c
      go true = refl
      go false = refl

  module _ (ks : List Coupling) where
    forest-down : (i q : ℕ) (ds : List ℕ) → length (ends_from ks i (forest (map (sub cs) ds)) q) ≡ sum_of (λ d. sum_of (down cs ks d) (ports_to ks i d q)) ds
    unfolding forest ends_in sum_of down
    forest-down i q [] = refl
    forest-down i q (d ∷ ds) =
        length-append (concat (map (λ r. ends_in ks (sub cs d) r) (ports_to ks i (name_of (sub cs d)) q))) (ends_from ks i (forest (map (sub cs) ds)) q)
        ∙ ap₂ ◌+◌ (length-concat (λ r. ends_in ks (sub cs d) r) (ports_to ks i (name_of (sub cs d)) q) ∙ ap (λ e. sum_of (λ r. length (ends_in ks (sub cs d) r)) (ports_to ks i e q)) (sub-name d))
        (forest-down i q ds)

    -- to the children of j, by couplings
    pub across : (i j q : ℕ) → length (ends_from ks i (forest (map (sub cs) (children cs j))) q)
        ≡ sum_of (λ k. cond (leads (is_child cs j) (length cs) i q k) (down cs ks k.target k.target_port) 0) ks
    unfolding children
    across i j q = forest-down i q (children cs j) ∙ by-coupling (down cs ks) (is_child cs j) (length cs) i q ks

    pub down_step : Rising cs → (c q : ℕ)
        → down cs ks c q ≡ cond (is_atomic cs c) 1 (sum_of (λ k. cond (leads (is_child cs c) (length cs) c q k) (down cs ks k.target k.target_port) 0) ks)
    unfolding down ends_in
    down_step r c q = ap (λ t. length (ends_in ks t q)) (sub-step r c) ∙ go (is_atomic cs c)
      where
        go : (b : Bool) → length (ends_in ks (cond b (leaf c) (node c (forest (map (sub cs) (children cs c))))) q)
            ≡ cond b 1 (sum_of (λ k. cond (leads (is_child cs c) (length cs) c q k) (down cs ks k.target k.target_port) 0) ks)
        go true = refl
        go false = across c c q
