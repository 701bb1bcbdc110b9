-- An atomic's bag in the nest is the bag that it is given, level by level from the root; so it is what is pulled at its inputs.
-- Assumes nothing.
use mathlib.Core.Path.{◌≡◌, refl, sym, ap, ap₂, ◌∙◌}
use Prim.Native.Nat.{ℕ, zero, suc, ◌+◌, ◌-◌, ◌<◌}
use mathlib.Core.List.{List, [], ◌∷◌, ◌++◌, map}
use mathlib.Core.Bool.{Bool, true, false, ◌&&◌, not, cond, true≢false}
use native.Mathlib.Omega.{arith}
use lib.Dec.{eqb, leb, ltb}
use lib.ListN.{length}
use borrow.Author.Tests.{eqb-true, ltb-true, lt-ltb}
use Rattle.definition.specs.Lists.{up_from}
use Rattle.definition.specs.Limits.{max_ancestors}
use Rattle.definition.specs.Model.{Message, Bag, Model, component_at, is_atomic, is_child, children, leaf, node, forest, name_of}
use Rattle.definition.specs.Pinned.Decoder.{root_within}
use Rattle.definition.specs.Devs.{translate}
use Rattle.definition.specs.SavedRun.{Entry}
use Rattle.law_base.proofs.Tests.{and_left, and_right, eqb-sym, or-second}
use Rattle.law_base.proofs.Sums.{sum_of, sum-append, sum-cong, sum-cond, if-if}
use Rattle.law_base.proofs.Lists.{sum-cong-if}
use Rattle.law_nest.proofs.Occurs.{kept-tests}
use Rattle.law_nest.proofs.Nest.{out_to, bag_at, bag_at_all}
use Rattle.law_routes.specs.Ways.{Rising, sub}
use Rattle.law_routes.proofs.Nests.{sub-step, sub-name}
use Rattle.law_routes.proofs.Counts.{sum-pick}
use Rattle.law_routes.proofs.Routed.{over-atomics}
use Rattle.law_step.proofs.Pulled.{in_bag}

module _ (m : Model) (at : ℕ → Entry) (now : ℕ) (x : Bag) where
  -- a level that suffices
  in-same : (d c : ℕ) → root_within d m.components c ≡ true → in_bag m at now x (suc d) c ≡ in_bag m at now x d c
  unfolding in_bag root_within
  in-same zero c r = rw r
  in-same (suc d) c r = go (eqb c 0) refl (in-same d (component_at m.components c).parent)
    where
      go : (b : Bool) → eqb c 0 ≡ b
          → (root_within d m.components (component_at m.components c).parent ≡ true
          → in_bag m at now x (suc d) (component_at m.components c).parent ≡ in_bag m at now x d (component_at m.components c).parent)
          → in_bag m at now x (suc (suc d)) c ≡ in_bag m at now x (suc d) c
      go true e ih = rw e
      go false e ih =
          let h = ih (or-second (eqb c 0) (root_within d m.components (component_at m.components c).parent) r e) in
          rw e (ap (λ b. out_to m at now (forest (map (sub m.components) (children m.components (component_at m.components c).parent))) c
          ++ translate m.couplings (component_at m.components c).parent c b) h)

  -- what a child is given
  child-bag : (d c e : ℕ) → is_child m.components c e ≡ true → root_within (suc d) m.components e ≡ true
      → out_to m at now (forest (map (sub m.components) (children m.components c))) e ++ translate m.couplings c e (in_bag m at now x (suc d) c) ≡ in_bag m at now x (suc d) e
  unfolding is_child
  child-bag d c e h r =
      let p = eqb-true (component_at m.components e).parent c (and_right (not (eqb e 0)) (eqb (component_at m.components e).parent c) h) in
      go (eqb e 0) refl p
    where
      go : (b : Bool) → eqb e 0 ≡ b → (component_at m.components e).parent ≡ c
          → out_to m at now (forest (map (sub m.components) (children m.components c))) e ++ translate m.couplings c e (in_bag m at now x (suc d) c) ≡ in_bag m at now x (suc d) e
      go true k p = absurd (true≢false (sym (ap not (sym k) ∙ and_left (not (eqb e 0)) (eqb (component_at m.components e).parent c) h)))
      go false k p =
          let s : root_within d m.components c ≡ true = up k p in
          ap (λ b. out_to m at now (forest (map (sub m.components) (children m.components c))) e ++ translate m.couplings c e b) (in-same d c s)
          ∙ given k p
        where
          up : eqb e 0 ≡ false → (component_at m.components e).parent ≡ c → root_within d m.components c ≡ true
          up k p = unfold root_within in ap (root_within d m.components) (sym p) ∙ or-second (eqb e 0) (root_within d m.components (component_at m.components e).parent) r k

          given : eqb e 0 ≡ false → (component_at m.components e).parent ≡ c
              → out_to m at now (forest (map (sub m.components) (children m.components c))) e ++ translate m.couplings c e (in_bag m at now x d c) ≡ in_bag m at now x (suc d) e
          given k p = unfold in_bag in (rw (k, p) refl)

  module _ (w : Message → ℕ) (a : ℕ) where
    bag-forest : (input : ℕ → Bag) (ds : List ℕ) → sum_of w (bag_at_all m at now a (forest (map (sub m.components) ds)) input)
        ≡ sum_of (λ d. sum_of w (bag_at m at now a (sub m.components d) (input d))) ds
    unfolding bag_at forest sum_of
    bag-forest input [] = refl
    bag-forest input (d ∷ ds) =
        sum-append w (bag_at m at now a (sub m.components d) (input (name_of (sub m.components d)))) (bag_at_all m at now a (forest (map (sub m.components) ds)) input)
        ∙ ap₂ ◌+◌ (ap (λ e. sum_of w (bag_at m at now a (sub m.components d) (input e))) (sub-name m.components d)) (bag-forest input ds)

    -- what reaches a below c
    reaching : ℕ → ℕ
    reaching c = sum_of w (bag_at m at now a (sub m.components c) (in_bag m at now x max_ancestors c))

    module _ (rising : Rising m.components) (shallow : (c : ℕ) → c < length m.components → root_within max_ancestors m.components c ≡ true) where
      reaching-step : (c : ℕ) → reaching c ≡ cond (is_atomic m.components c) (cond (eqb c a) (sum_of w (in_bag m at now x max_ancestors c)) 0) (sum_of reaching (children m.components c))
      unfolding reaching bag_at
      reaching-step c =
          ap (λ t. sum_of w (bag_at m at now a t (in_bag m at now x max_ancestors c))) (sub-step m.components rising c) ∙ go (is_atomic m.components c)
        where
          below : sum_of w (bag_at_all m at now a (forest (map (sub m.components) (children m.components c)))
              (λ d. out_to m at now (forest (map (sub m.components) (children m.components c))) d ++ translate m.couplings c d (in_bag m at now x max_ancestors c)))
              ≡ sum_of reaching (children m.components c)
          below = unfold children in
              (bag-forest _ (children m.components c)
              ∙ sum-cong-if (λ d. is_child m.components c d && (leb 0 d && ltb d (0 + length m.components))) _ reaching (children m.components c) (kept-tests (is_child m.components c) 0 (length m.components))
              (λ e h. ap (λ b. sum_of w (bag_at m at now a (sub m.components e) b))
              (child-bag (max_ancestors - 1) c e (and_left (is_child m.components c e) _ h)
              (shallow e (omega (arith, ltb-true e (0 + length m.components) (and_right (leb 0 e) _ (and_right (is_child m.components c e) _ h))))))))

          go : (b : Bool) → sum_of w (bag_at m at now a (cond b (leaf c) (node c (forest (map (sub m.components) (children m.components c))))) (in_bag m at now x max_ancestors c))
              ≡ cond b (cond (eqb c a) (sum_of w (in_bag m at now x max_ancestors c)) 0) (sum_of reaching (children m.components c))
          go true = sum-cond w (eqb c a) (in_bag m at now x max_ancestors c)
          go false = below

      -- the nest's bag of the atomic a is the bag that it is given
      pub bag-right : 0 < length m.components → a < length m.components → is_atomic m.components a ≡ true
          → ((c d : ℕ) → is_child m.components c d ≡ true → d < length m.components → is_atomic m.components c ≡ false)
          → sum_of w (bag_at m at now a (sub m.components 0) x) ≡ sum_of w (in_bag m at now x max_ancestors a)
      unfolding in_bag reaching
      bag-right some l e coupled =
          over-atomics m.components rising coupled (λ c. cond (eqb c a) (sum_of w (in_bag m at now x max_ancestors c)) 0) reaching (λ c b. reaching-step c) some
          ∙ sum-cong _ _ (up_from 0 (length m.components))
          (λ c. if-if (is_atomic m.components c) (eqb c a) (sum_of w (in_bag m at now x max_ancestors c))
          ∙ ap (λ b. cond b (cond (is_atomic m.components c) (sum_of w (in_bag m at now x max_ancestors c)) 0) 0) (eqb-sym c a))
          ∙ sum-pick (λ c. cond (is_atomic m.components c) (sum_of w (in_bag m at now x max_ancestors c)) 0) a (length m.components)
          ∙ rw (lt-ltb a (length m.components) l, e)
