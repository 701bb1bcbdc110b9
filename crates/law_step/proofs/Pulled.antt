-- What is pulled from a port is what the nest's own account puts there, port by port, counted with any weight on values. As many levels as a
-- component may have ancestors are enough. Assumes nothing.
use mathlib.Core.Path.{◌≡◌, refl, sym, ap, ap₂, ◌∙◌, subst}
use Prim.Native.Nat.{ℕ, zero, suc, ◌+◌, ◌≤◌, ◌<◌}
use mathlib.Core.List.{List, [], ◌∷◌, ◌++◌, map}
use mathlib.Core.Bool.{Bool, true, false, ◌&&◌, ◌||◌, not, cond, true≢false}
use native.Mathlib.Omega.{arith}
use lib.Dec.{eqb, ltb}
use lib.ListN.{length}
use borrow.Author.Tests.{eqb-true, eqb-false, ne_eqb, ltb-true}
use Rattle.definition.specs.Lists.{all}
use Rattle.definition.specs.Limits.{max_ancestors}
use Rattle.definition.specs.Model.{Message, Bag, Component, Model, component_at, is_atomic, is_child, children, leaf, node, forest, name_of}
use Rattle.definition.specs.Pinned.Decoder.{root_within, coupling_fields}
use Rattle.definition.specs.Devs.{translate}
use Rattle.definition.specs.SavedRun.{Entry}
use Rattle.law_base.proofs.Tests.{and_left, and_right, or-second}
use Rattle.law_base.proofs.Sums.{sum_of, sum-append, sum-cong, sum-add, if-cong}
use Rattle.law_nest.proofs.Nest.{Ready, due, out_of, out_to, out_due, out-due}
use Rattle.spec_step.specs.Pull.{joined, child_out, coupled_out, source_in, input_in}
use Rattle.spec_step.specs.Put.{values_on}
use Rattle.law_routes.specs.Ways.{Rising, sub}
use Rattle.law_routes.proofs.Nests.{sub-step, sub-name}
use Rattle.law_step.proofs.Flow.{on, values-on, joined-sum, joined-none, translate-on, by-source}
use Rattle.law_step.proofs.Nodes.{Node, inn, out, rows_at, atomic_at, sent_at, given_at, root_at, output_at, pulled_out, pulled_in, own-child, out-rows, in_rows}

-- ---- levels

within_more : (cs : List Component) (n c : ℕ) → root_within n cs c ≡ true → root_within (suc n) cs c ≡ true
unfolding root_within
within_more cs zero c h = rw h
within_more cs (suc n) c h = go (eqb c 0) (within_more cs n (component_at cs c).parent) h
  where
    go : (b : Bool) → (root_within n cs (component_at cs c).parent ≡ true → root_within (suc n) cs (component_at cs c).parent ≡ true)
        → b || root_within n cs (component_at cs c).parent ≡ true → b || root_within (suc n) cs (component_at cs c).parent ≡ true
    go true ih e = refl
    go false ih e = ih e

within-le : (cs : List Component) (k n c : ℕ) → n ≤ k → root_within n cs c ≡ true → root_within k cs c ≡ true
within-le cs zero n c l h = let e : n ≡ 0 = omega arith in rw e at h
within-le cs (suc k) n c l h = go (eqb n (suc k)) refl (λ l. within-le cs k n c l h)
  where
    go : (b : Bool) → eqb n (suc k) ≡ b → (n ≤ k → root_within k cs c ≡ true) → root_within (suc k) cs c ≡ true
    go true e ih = rw (eqb-true n (suc k) e) at h
    go false e ih = within_more cs k c (ih (let d = eqb-false n (suc k) e in omega arith))

module _ (m : Model) (at : ℕ → Entry) (now : ℕ) where
  -- the bag that component c is given, at most d levels up: what its siblings send, and its parent's input
  unfoldable pub in_bag : Bag → ℕ → ℕ → Bag
  in_bag x zero c = cond (eqb c 0) x []
  in_bag x (suc d) c =
      let p = (component_at m.components c).parent in
      cond (eqb c 0) x (out_to m at now (forest (map (sub m.components) (children m.components p))) c ++ translate m.couplings p c (in_bag x d p))

  module _ (g : ℕ → ℕ) (rising : Rising m.components) (fit : all (coupling_fields m.components) m.couplings ≡ true) where
    out-forest : (to q : ℕ) (ds : List ℕ) → on q g (out_to m at now (forest (map (sub m.components) ds)) to)
        ≡ sum_of (λ d. sum_of (λ k. cond (eqb k.source d && eqb k.target to && eqb q k.target_port) (on k.source_port g (out_due m at now (sub m.components d))) 0) m.couplings) ds
    unfolding out_to forest sum_of out_due
    out-forest to q [] = refl
    out-forest to q (d ∷ ds) =
        let t = sub m.components d in
        let w : Message → ℕ = λ y. cond (eqb q y.port) (g y.value) 0 in
        sum-append w (cond (due m at now t) (translate m.couplings (name_of t) to (out_of m at now t)) []) (out_to m at now (forest (map (sub m.components) ds)) to)
        ∙ ap₂ ◌+◌ (ap (λ e. sum_of w (cond (due m at now t) (translate m.couplings e to (out_of m at now t)) [])) (sub-name m.components d)
        ∙ ap (sum_of w) (translate-cond (due m at now t)) ∙ translate-on m.couplings d to q g (out_due m at now t)) (out-forest to q ds)
      where
        translate-cond : (b : Bool) → cond b (translate m.couplings d to (out_of m at now (sub m.components d))) []
            ≡ translate m.couplings d to (cond b (out_of m at now (sub m.components d)) [])
        translate-cond true = refl
        translate-cond false = unfold translate in refl

    -- from the children of c to c or to a child
    pub from-children : (c to q : ℕ) → on q g (out_to m at now (forest (map (sub m.components) (children m.components c))) to)
        ≡ sum_of (λ k. cond (eqb k.target to && eqb q k.target_port && (is_child m.components c k.source && ltb k.source (length m.components)))
        (on k.source_port g (out_due m at now (sub m.components k.source))) 0) m.couplings
    unfolding children
    from-children c to q =
        out-forest to q (children m.components c)
        ∙ by-source (λ d r. on r g (out_due m at now (sub m.components d))) (is_child m.components c) (length m.components) to q m.couplings

    -- the pulled values of a coupled component's output port, where those of its children are right
    pub coupled-right : (below : Node → List ℕ) (c q : ℕ)
        → ((e r : ℕ) → is_child m.components c e ≡ true → e < length m.components → sum_of g (below (out e r)) ≡ on r g (out_due m at now (sub m.components e)))
        → sum_of g (joined below (rows_at m (out c q))) ≡ on q g (out_to m at now (forest (map (sub m.components) (children m.components c))) c)
    coupled-right below c q h =
        let p : ℕ → Bool = λ d. is_child m.components c d && ltb d (length m.components) in
        joined-sum g below (rows_at m (out c q))
        ∙ out-rows m rising fit (λ x. sum_of g (below x)) c q
        ∙ sum-cong _ _ m.couplings (λ k. if-cong (eqb k.target c && eqb q k.target_port && p k.source) _ _
        (λ e. let b = and_right (eqb k.target c && eqb q k.target_port) (p k.source) e in
        h k.source k.source_port (and_left (is_child m.components c k.source) _ b)
        (ltb-true _ _ (and_right (is_child m.components c k.source) _ b))))
        ∙ sym (from-children c c q)

    -- a child's root is one level further
    child-further : (j c e : ℕ) → is_child m.components c e ≡ true → root_within j m.components c ≡ false → root_within (suc j) m.components e ≡ false
    unfolding is_child root_within
    child-further j c e h r = go (eqb e 0) refl
      where
        go : (b : Bool) → eqb e 0 ≡ b → eqb e 0 || root_within j m.components (component_at m.components e).parent ≡ false
        go true k = absurd (true≢false (sym (ap not (sym k) ∙ and_left (not (eqb e 0)) (eqb (component_at m.components e).parent c) h)))
        go false k = let p = eqb-true (component_at m.components e).parent c (and_right (not (eqb e 0)) (eqb (component_at m.components e).parent c) h) in rw (k, p, r)

    module _ (ready : (c : ℕ) → c < length m.components → Ready m at now (sub m.components c))
        (shallow : (c : ℕ) → c < length m.components → root_within max_ancestors m.components c ≡ true) where
      abbrev below : ℕ → Node → List ℕ
      below d = pulled_out m at now d

      abbrev pulled : ℕ → Node → List ℕ
      pulled d = child_out (rows_at m) (atomic_at m) (sent_at m at now) (below d)

      -- one component: its own outputs, or those of its children
      one-level : (d c q : ℕ) → c < length m.components
          → (is_atomic m.components c ≡ false → sum_of g (below d (out c q)) ≡ on q g (out_to m at now (forest (map (sub m.components) (children m.components c))) c))
          → sum_of g (pulled d (out c q)) ≡ on q g (out_due m at now (sub m.components c))
      unfolding child_out atomic_at sent_at
      one-level d c q l h = go (is_atomic m.components c) refl
        where
          go : (b : Bool) → is_atomic m.components c ≡ b → sum_of g (cond (is_atomic m.components c) (values_on q (out_due m at now (leaf c))) (below d (out c q))) ≡ on q g (out_due m at now (sub m.components c))
          go true e = let s : sub m.components c ≡ leaf c = sub-step m.components rising c ∙ rw e in rw (e, s) (values-on q g (out_due m at now (leaf c)))
          go false e =
              let s : sub m.components c ≡ node c (forest (map (sub m.components) (children m.components c))) = sub-step m.components rising c ∙ rw e in
              rw e (h e ∙ ap (on q g) (sym (out-due m at now c _ (subst (Ready m at now) s (ready c l))) ∙ ap (out_due m at now) (sym s)))

      no-children : (c q : ℕ) → ((x : ℕ) → is_child m.components c x ≡ true → x < length m.components → ⊥)
          → sum_of g [] ≡ on q g (out_to m at now (forest (map (sub m.components) (children m.components c))) c)
      no-children c q h =
          ap (sum_of g) (sym (joined-none (rows_at m (out c q)))) ∙ coupled-right (λ x. []) c q (λ x r b i. absurd (h x b i))

      -- one level less than the ancestors allowed is enough for a component that is not the root
      pub out-right : (d j c q : ℕ) → max_ancestors ≤ suc (j + d) → c < length m.components → root_within j m.components c ≡ false
          → sum_of g (pulled d (out c q)) ≡ on q g (out_due m at now (sub m.components c))
      unfolding coupled_out
      out-right zero j c q s l r =
          one-level zero c q l (λ e. no-children c q (λ x b i.
          true≢false (sym (within-le m.components (suc j) max_ancestors x (omega arith) (shallow x i)) ∙ child-further j c x b r)))
      out-right (suc d) j c q s l r =
          one-level (suc d) c q l (λ e. coupled-right (pulled d) c q (λ x p b i. out-right d (suc j) x p (omega arith) i (child-further j c x b r)))

      not_root : (c e : ℕ) → is_child m.components c e ≡ true → root_within 0 m.components e ≡ false
      unfolding is_child root_within
      not_root c zero h = absurd (true≢false (sym h))
      not_root c (suc e) h = ne_eqb (suc e) 0 (omega arith)

      -- all are enough for the root
      pub root-right : (q : ℕ) → sum_of g (below max_ancestors (out 0 q)) ≡ on q g (out_to m at now (forest (map (sub m.components) (children m.components 0))) 0)
      unfolding coupled_out
      root-right q = coupled-right (pulled 7) 0 q (λ e r b i. out-right 7 0 e r (omega arith) i (not_root 0 e b))

      -- ---- inputs

      module _ (x : Bag) where
        abbrev into : ℕ → Node → List ℕ
        into d = pulled_in m at now x d

        abbrev from : ℕ → Node → List ℕ
        from d = source_in (rows_at m) (atomic_at m) (sent_at m at now) (given_at x) root_at output_at (into d)

        -- the pulled values of an input port, where those of the siblings and of the parent are right
        input-step : (F : Node → List ℕ) (c q : ℕ) (y : Bag) → eqb c 0 ≡ false
            → ((e r : ℕ) → is_child m.components (component_at m.components c).parent e ≡ true → e < length m.components
            → sum_of g (F (out e r)) ≡ on r g (out_due m at now (sub m.components e)))
            → ((r : ℕ) → sum_of g (F (inn (component_at m.components c).parent r)) ≡ on r g y)
            → sum_of g (joined F (rows_at m (inn c q)))
            ≡ on q g (out_to m at now (forest (map (sub m.components) (children m.components (component_at m.components c).parent))) c
            ++ translate m.couplings (component_at m.components c).parent c y)
        input-step F c q y z h i =
            let p = (component_at m.components c).parent in
            let s : ℕ → Bool = λ d. is_child m.components p d && ltb d (length m.components) in
            let w : Message → ℕ = λ y. cond (eqb q y.port) (g y.value) 0 in
            joined-sum g F (rows_at m (inn c q))
            ∙ in_rows m rising fit (λ n. sum_of g (F n)) c q z
            ∙ sum-add _ _ m.couplings
            ∙ ap₂ ◌+◌
            (sum-cong _ _ m.couplings (λ k. if-cong (eqb k.target c && eqb q k.target_port && s k.source) _ _
            (λ e. let b = and_right (eqb k.target c && eqb q k.target_port) (s k.source) e in
            h k.source k.source_port (and_left (is_child m.components p k.source) _ b)
            (ltb-true _ _ (and_right (is_child m.components p k.source) _ b))))
            ∙ sym (from-children p c q))
            (sum-cong _ _ m.couplings (λ k. ap (λ n. cond (eqb k.source p && eqb k.target c && eqb q k.target_port) n 0) (i k.source_port))
            ∙ sym (translate-on m.couplings p c q g y))
            ∙ sym (sum-append w (out_to m at now (forest (map (sub m.components) (children m.components p))) c) (translate m.couplings p c y))

        from_out : (d e r p : ℕ) → is_child m.components p e ≡ true → e < length m.components → sum_of g (from d (out e r)) ≡ on r g (out_due m at now (sub m.components e))
        unfolding source_in output_at
        from_out d e r p b l = out-right max_ancestors 0 e r (omega arith) l (not_root p e b)

        from_in : (d p r : ℕ) → sum_of g (from d (inn p r)) ≡ sum_of g (into d (inn p r))
        unfolding source_in output_at
        from_in d p r = refl

        pub in_right : (d c q : ℕ) → c < length m.components → root_within d m.components c ≡ true → sum_of g (into d (inn c q)) ≡ on q g (in_bag x d c)
        unfolding input_in in_bag root_at given_at root_within
        in_right zero c q l r = rw r (values-on q g x)
        in_right (suc d) c q l r =
            go (eqb c 0) refl
            (λ i s j. in_right d (component_at m.components c).parent j i s)
          where
            p : ℕ
            p = (component_at m.components c).parent

            go : (b : Bool) → eqb c 0 ≡ b
                → ((component_at m.components c).parent < length m.components → root_within d m.components (component_at m.components c).parent ≡ true → (j : ℕ)
                → sum_of g (into d (inn (component_at m.components c).parent j)) ≡ on j g (in_bag x d (component_at m.components c).parent))
                → sum_of g (cond (eqb c 0) (values_on q x) (joined (from d) (rows_at m (inn c q))))
                ≡ on q g (cond (eqb c 0) x (out_to m at now (forest (map (sub m.components) (children m.components (component_at m.components c).parent))) c
                ++ translate m.couplings (component_at m.components c).parent c (in_bag x d (component_at m.components c).parent)))
            go true e ih = rw e (values-on q g x)
            go false e ih =
                let b = own-child m.components c e in
                let up : p < c = rising p c b l in
                let in_p = or-second (eqb c 0) (root_within d m.components p) r e in
                rw e (input-step (from d) c q (in_bag x d p) e (λ k j o n. from_out d k j p o n) (λ j. from_in d p j ∙ ih (omega arith) in_p j))
