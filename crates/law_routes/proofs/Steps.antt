-- The ways on from a port, one coupling further: the number at a node is its own end, if it is one, and the numbers at the nodes where
-- the couplings that begin there end. One equation for inputs and outputs. Assumes nothing.
use mathlib.Core.Path.{◌≡◌, refl, sym, ap, ap₂, ◌∙◌}
use mathlib.Core.List.{List}
use mathlib.Core.Bool.{Bool, true, false, ◌&&◌, ◌||◌, not, cond}
use Prim.Native.Nat.{ℕ, zero, suc, ◌+◌, ◌*◌, ◌-◌, ◌/◌, ◌%◌, ◌<◌}
use native.Mathlib.Omega.{arith}
use native.Mathlib.Nat.{zero-add}
use lib.Dec.{eqb, ltb}
use lib.ListN.{length}
use borrow.Author.Tests.{eqb-true, eq-eqb, ne_eqb, lt-ltb, ltb-true, ltb-false}
use Rattle.definition.specs.Lists.{all}
use Rattle.definition.specs.Model.{Component, Coupling, component_at, is_atomic, is_child, is_sibling}
use Rattle.definition.specs.Pinned.Decoder.{related, coupling_fields}
use Rattle.law_base.proofs.Tests.{clash, and_left, and_right}
use Rattle.law_base.proofs.Sums.{sum_of, sum-zero}
use Rattle.law_base.proofs.Lists.{sum-cong-if}
use Rattle.law_routes.specs.Nodes.{port_nodes, input_node, output_node, source_number, target_number}
use Rattle.law_routes.specs.Ways.{down, up, ways_on, end_at, Rising}
use Rattle.law_routes.proofs.Counts.{leads}
use Rattle.law_routes.proofs.Nests.{down_step}
use Rattle.law_routes.proofs.Routed.{up_root, up-by-coupling}
use Rattle.law_model.proofs.WellFormed.{Kept, kept}
use Rattle.law_routes.proofs.PortNodes.{inputs-same, outputs-same, input-output, output-input, node_in, node-out, ways-input, ways-output, end-input, end-output}

-- ---- one coupling

module _ (cs : List Component) (ks : List Coupling) (r : Rising cs) (coupled : (c d : ℕ) → is_child cs c d ≡ true → d < length cs → is_atomic cs c ≡ false) where
  -- what a coupling adds to node x
  abbrev adds : ℕ → Coupling → ℕ
  adds x k = cond (eqb (source_number cs k) x) (ways_on cs ks (target_number cs k)) 0

  -- nobody is a child and a parent of the same
  no-turn : (s t : ℕ) → s < length cs → t < length cs → is_child cs s t ≡ true → is_child cs t s ≡ false
  no-turn s t h l e = go (is_child cs t s) refl
    where
      go : (b : Bool) → is_child cs t s ≡ b → is_child cs t s ≡ false
      go true f = absurd (omega (arith, r s t e l, r t s f h))
      go false f = f

  no_own : (c : ℕ) → c < length cs → is_child cs c c ≡ false
  no_own c l = go (is_child cs c c) refl
    where
      go : (b : Bool) → is_child cs c c ≡ b → is_child cs c c ≡ false
      go true f = absurd (omega (arith, r c c f l))
      go false f = f

  -- a way down: the coupling's two nodes
  down-nodes : (k : Coupling) → Kept cs k → is_child cs k.source k.target ≡ true
      → (source_number cs k ≡ input_node k.source k.source_port) × (ways_on cs ks (target_number cs k) ≡ down cs ks k.target k.target_port)
  unfolding source_number target_number
  down-nodes k w e =
      (rw e, rw (no-turn k.source k.target w.source w.target e) (ways-input cs ks k.target k.target_port w.target_port_lem))

  up-source : (k : Coupling) → is_child cs k.source k.target ≡ false → source_number cs k ≡ output_node k.source k.source_port
  unfolding source_number
  up-source k e = rw e

  -- at an input
  in-term : (c q : ℕ) → q < 4 → (k : Coupling) → Kept cs k → adds (input_node c q) k ≡ cond (leads (is_child cs c) (length cs) c q k) (down cs ks k.target k.target_port) 0
  in-term c q h k w = go (is_child cs k.source k.target) refl
    where
      same : (a : Bool) → eqb k.source c ≡ a → is_child cs k.source k.target ≡ true
          → cond (a && eqb k.source_port q) (down cs ks k.target k.target_port) 0
          ≡ cond (a && eqb k.source_port q && is_child cs c k.target && ltb k.target (length cs)) (down cs ks k.target k.target_port) 0
      same true f e =
          let g : is_child cs c k.target ≡ true = ap (λ x. is_child cs x k.target) (sym (eqb-true _ _ f)) ∙ e in
          rw (g, lt-ltb k.target (length cs) w.target) (ports (eqb k.source_port q))
        where
          ports : (b : Bool) → cond b (down cs ks k.target k.target_port) 0 ≡ cond (b && true && true) (down cs ks k.target k.target_port) 0
          ports true = refl
          ports false = refl
      same false f e = refl

      none : (a : Bool) → eqb k.source c ≡ a → is_child cs k.source k.target ≡ false
          → 0 ≡ cond (a && eqb k.source_port q && is_child cs c k.target && ltb k.target (length cs)) (down cs ks k.target k.target_port) 0
      none true f e =
          let g : is_child cs c k.target ≡ false = ap (λ x. is_child cs x k.target) (sym (eqb-true _ _ f)) ∙ e in
          rw g (ports (eqb k.source_port q))
        where
          ports : (b : Bool) → 0 ≡ cond (b && false && ltb k.target (length cs)) (down cs ks k.target k.target_port) 0
          ports true = refl
          ports false = refl
      none false f e = refl

      go : (b : Bool) → is_child cs k.source k.target ≡ b → adds (input_node c q) k ≡ cond (leads (is_child cs c) (length cs) c q k) (down cs ks k.target k.target_port) 0
      go true e =
          let n = down-nodes k w e in
          rw (n.0, n.1, inputs-same k.source k.source_port c q w.source_port_lem h) (same (eqb k.source c) refl e)
      go false e = rw (up-source k e, output-input k.source k.source_port c q w.source_port_lem h) (none (eqb k.source c) refl e)

  parent_is : (c d : ℕ) → is_child cs c d ≡ true → (component_at cs d).parent ≡ c
  unfolding is_child
  parent_is c d e = eqb-true _ _ (and_right (not (eqb d 0)) _ e)

  own-parent : (d : ℕ) → 0 < d → is_child cs (component_at cs d).parent d ≡ true
  unfolding is_child
  own-parent d h = rw (ne_eqb d 0 (omega arith), eq-eqb (component_at cs d).parent (component_at cs d).parent refl)

  -- a sibling's parent is the same
  sibling-child : (c s t : ℕ) → is_child cs c s ≡ true → related cs s t ≡ true → is_child cs s t ≡ false → is_child cs t s ≡ false → is_child cs c t ≡ true
  unfolding related is_sibling
  sibling-child c s t e f g h =
      let u : (not (eqb s t) && not (eqb s 0) && is_child cs (component_at cs s).parent t) ≡ true = or-middle _ (rw (g, h) at f) in
      rw (parent_is c s e) at (and_right (not (eqb s t) && not (eqb s 0)) _ u)
    where
      or-middle : (b : Bool) → (false || b || false) ≡ true → b ≡ true
      or-middle true w = refl
      or-middle false w = w

  source-out : (d q : ℕ) → q < 4 → (k : Coupling) → Kept cs k
      → eqb (source_number cs k) (output_node d q) ≡ cond (is_child cs k.source k.target) false (eqb k.source d && eqb k.source_port q)
  source-out d q h k w = go (is_child cs k.source k.target) refl
    where
      go : (x : Bool) → is_child cs k.source k.target ≡ x → eqb (source_number cs k) (output_node d q) ≡ cond x false (eqb k.source d && eqb k.source_port q)
      go true e = rw (down-nodes k w e).0 (input-output k.source k.source_port d q w.source_port_lem h)
      go false e = rw (up-source k e) (outputs-same k.source k.source_port d q w.source_port_lem h)

  -- at an output of a child d of c
  module _ (c d q : ℕ) (h : q < 4) (own : is_child cs c d ≡ true) (lc : c < length cs) (ld : d < length cs) (k : Coupling) (w : Kept cs k) where
    abbrev across : ℕ
    across = down cs ks k.target k.target_port

    abbrev upward : ℕ
    upward = up cs ks c k.target_port

    -- from d itself
    from-own : k.source ≡ d → eqb k.source_port q ≡ true
        → cond (cond (is_child cs k.source k.target) false true) (ways_on cs ks (target_number cs k)) 0
        ≡ cond (is_child cs c k.target) across 0 + cond (eqb k.target c) upward 0
    unfolding target_number
    from-own s p = go (is_child cs k.source k.target) refl (is_child cs k.target k.source) refl
      where
        own-s : is_child cs c k.source ≡ true
        own-s = ap (is_child cs c) s ∙ own

        -- the target is not c, unless d is its child
        not-c : is_child cs k.target k.source ≡ false → eqb k.target c ≡ false
        not-c f = ne_eqb k.target c (λ e. clash (ap (λ x. is_child cs x k.source) e ∙ own-s) f)

        -- the target is not a child of c, if it is c
        not-child : k.target ≡ c → is_child cs c k.target ≡ false
        not-child e = ap (is_child cs c) e ∙ no_own c lc

        go : (x : Bool) → is_child cs k.source k.target ≡ x → (y : Bool) → is_child cs k.target k.source ≡ y
            → cond (cond x false true) (ways_on cs ks (cond y (output_node k.target k.target_port) (input_node k.target k.target_port))) 0
            ≡ cond (is_child cs c k.target) across 0 + cond (eqb k.target c) upward 0
        go true e y f =
            let g = no-turn k.source k.target w.source w.target e in
            let z : is_child cs c k.target ≡ false = other (is_child cs c k.target) refl in
            rw (not-c g, z)
          where
            other : (b : Bool) → is_child cs c k.target ≡ b → is_child cs c k.target ≡ false
            other true u =
                let a = parent_is c k.target u in
                let b = parent_is k.source k.target e in
                absurd (omega (arith, r c d own ld))
            other false u = u
        go false e true f =
            let a : k.target ≡ c = sym (parent_is k.target k.source f) ∙ parent_is c k.source own-s in
            rw (not-child a, eq-eqb k.target c a) (ways-output cs ks k.target k.target_port w.target_port_lem ∙ ap (λ x. up cs ks x k.target_port) a ∙ sym (zero-add upward))
        go false e false f =
            rw (not-c f, sibling-child c k.source k.target own-s w.kin e f)
            (ways-input cs ks k.target k.target_port w.target_port_lem ∙ omega arith)

    out-term : adds (output_node d q) k
        ≡ cond (leads (is_child cs c) (length cs) d q k) across 0 + cond (eqb k.source d && eqb k.target c && eqb k.source_port q) upward 0
    out-term = rw (source-out d q h k w, lt-ltb k.target (length cs) w.target) (go (eqb k.source d) refl (eqb k.source_port q) refl)
      where
        go : (a : Bool) → eqb k.source d ≡ a → (b : Bool) → eqb k.source_port q ≡ b
            → cond (cond (is_child cs k.source k.target) false (a && b)) (ways_on cs ks (target_number cs k)) 0
            ≡ cond (a && b && is_child cs c k.target && true) across 0 + cond (a && eqb k.target c && b) upward 0
        go true e true f =
            from-own (eqb-true _ _ e) f ∙ ap₂ ◌+◌ (tail (is_child cs c k.target)) (tail-up (eqb k.target c))
          where
            tail : (x : Bool) → cond x across 0 ≡ cond (x && true) across 0
            tail true = refl
            tail false = refl

            tail-up : (x : Bool) → cond x upward 0 ≡ cond (x && true) upward 0
            tail-up true = refl
            tail-up false = refl
        go true e false f = off (is_child cs k.source k.target) (eqb k.target c)
          where
            off : (x y : Bool) → cond (cond {A = Bool} x false false) (ways_on cs ks (target_number cs k)) 0 ≡ 0 + cond (y && false) upward 0
            off true true = refl
            off true false = refl
            off false true = refl
            off false false = refl
        go false e b f = off (is_child cs k.source k.target)
          where
            off : (x : Bool) → cond (cond {A = Bool} x false false) (ways_on cs ks (target_number cs k)) 0 ≡ 0 + 0
            off true = refl
            off false = refl

  -- the root is nobody's child or sibling
  root-kin : (t : ℕ) → is_child cs 0 t ≡ false → related cs 0 t ≡ false
  unfolding related is_sibling is_child
  root-kin t e = rw e (go (eqb 0 t))
    where
      go : (b : Bool) → (false || (not b && false && is_child cs (component_at cs 0).parent t) || false) ≡ false
      go true = refl
      go false = refl

  -- from the root's output no coupling begins
  root-term : (q : ℕ) → q < 4 → (k : Coupling) → Kept cs k → adds (output_node 0 q) k ≡ 0
  root-term q h k w = rw (source-out 0 q h k w) (go (is_child cs k.source k.target) refl (eqb k.source 0) refl)
    where
      go : (x : Bool) → is_child cs k.source k.target ≡ x → (a : Bool) → eqb k.source 0 ≡ a
          → cond (cond x false (a && eqb k.source_port q)) (ways_on cs ks (target_number cs k)) 0 ≡ 0
      go true e a f = refl
      go false e false f = refl
      go false e true f = absurd (clash (ap (λ s. related cs s k.target) (sym (eqb-true _ _ f)) ∙ w.kin) (root-kin k.target (ap (λ s. is_child cs s k.target) (sym (eqb-true _ _ f)) ∙ e)))

  -- ---- the equation

  module _ (keep : all (coupling_fields cs) ks ≡ true) where
    unfoldable pub added : ℕ → ℕ
    added x = sum_of (λ k. cond (eqb (source_number cs k) x) (ways_on cs ks (target_number cs k)) 0) ks

    input-step : (c q : ℕ) → c < length cs → q < 4 → ways_on cs ks (input_node c q) ≡ end_at cs (input_node c q) + added (input_node c q)
    unfolding added
    input-step c q l h =
        ways-input cs ks c q h ∙ down_step cs ks r c q ∙ go (is_atomic cs c) refl
        ∙ ap₂ ◌+◌ (sym (end-input cs c q h)) (sym (sum-cong-if (coupling_fields cs) _ _ ks keep (λ k e. in-term c q h k (kept cs k e))))
      where
        S : ℕ
        S = sum_of (λ k. cond (leads (is_child cs c) (length cs) c q k) (down cs ks k.target k.target_port) 0) ks

        childless : is_atomic cs c ≡ true → S ≡ 0
        childless e = sum-cong-if (coupling_fields cs) _ (λ k. 0) ks keep (λ k f. none k (leads (is_child cs c) (length cs) c q k) refl) ∙ sum-zero ks
          where
            none : (k : Coupling) (b : Bool) → leads (is_child cs c) (length cs) c q k ≡ b → cond b (down cs ks k.target k.target_port) 0 ≡ 0
            none k true f =
                let u = and_left (eqb k.source c && eqb k.source_port q && is_child cs c k.target) _ f in
                let v = and_right (eqb k.source c && eqb k.source_port q && is_child cs c k.target) _ f in
                absurd (clash e (coupled c k.target (and_right (eqb k.source c && eqb k.source_port q) _ u) (ltb-true _ _ v)))
            none k false f = refl

        go : (b : Bool) → is_atomic cs c ≡ b → cond b 1 S ≡ cond b 1 0 + S
        go true e = omega (arith, childless e)
        go false e = omega arith

    output-step : (c q : ℕ) → c < length cs → q < 4 → ways_on cs ks (output_node c q) ≡ end_at cs (output_node c q) + added (output_node c q)
    unfolding added
    output-step zero q l h =
        ways-output cs ks 0 q h ∙ up_root ks cs r q ∙ rw (end-output cs 0 q h) (one (sum-cong-if (coupling_fields cs) _ (λ k. 0) ks keep (λ k e. root-term q h k (kept cs k e)) ∙ sum-zero ks))
      where
        one : {n : ℕ} → n ≡ 0 → 1 ≡ 1 + n
        one e = omega arith
    output-step (suc d) q l h =
        let c = (component_at cs (suc d)).parent in
        let own = own-parent (suc d) (omega arith) in
        let lt = r c (suc d) own l in
        ways-output cs ks (suc d) q h ∙ up-by-coupling ks cs r c (suc d) q own l
        ∙ sym (sum-cong-if (coupling_fields cs) _ _ ks keep (λ k e. out-term c (suc d) q h own (omega arith) l k (kept cs k e)))
        ∙ sym (ap (λ n. n + added (output_node (suc d) q)) (end-output cs (suc d) q h ∙ rw (ne_eqb (suc d) 0 (omega arith))) ∙ zero-add (added (output_node (suc d) q)))

    -- The ways on from node x: one where it is an end, and those of the couplings that begin there.
    pub ways-step : (x : ℕ) → x < port_nodes * length cs → ways_on cs ks x ≡ end_at cs x + added x
    ways-step x l = go (ltb (x % 8) 4) refl
      where
        go : (b : Bool) → ltb (x % 8) 4 ≡ b → ways_on cs ks x ≡ end_at cs x + added x
        go true e =
            let h = ltb-true (x % 8) 4 e in
            let f : input_node (x / 8) (x % 8) ≡ x = node_in (x / 8) (x % 8) x (omega arith) in
            rw f at (input-step (x / 8) (x % 8) (omega arith) h)
        go false e =
            let h = ltb-false (x % 8) 4 e in
            let f : output_node (x / 8) (x % 8 - 4) ≡ x = node-out (x / 8) (x % 8 - 4) x (omega arith) in
            rw f at (output-step (x / 8) (x % 8 - 4) (omega arith) (omega arith))
