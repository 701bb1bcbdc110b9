-- Port nodes told apart, the ways and the ends at a node, and the nodes where a coupling begins and ends. Assumes nothing.
use mathlib.Core.Path.{◌≡◌, refl, sym, ◌∙◌}
use mathlib.Core.List.{List}
use mathlib.Core.Bool.{Bool, true, false, ◌&&◌, cond}
use Prim.Native.Nat.{ℕ, ◌+◌, ◌*◌, ◌-◌, ◌/◌, ◌%◌, ◌≤◌, ◌<◌}
use native.Mathlib.Omega.{arith}
use lib.Dec.{eqb, ltb}
use lib.ListN.{length}
use borrow.Author.Tests.{eqb-true, eqb-false, eq-eqb, ne_eqb, lt-ltb, le-ltb}
use Rattle.definition.specs.Model.{Component, Coupling, is_atomic, is_child}
use Rattle.law_base.proofs.Tests.{clash, and_left}
use Rattle.law_routes.specs.Nodes.{port_nodes, input_node, output_node, source_number, target_number}
use Rattle.law_routes.specs.Ways.{down, up, ways_on, end_at}
use Rattle.law_model.proofs.WellFormed.{Kept}

-- ---- nodes told apart

same-node : (a b c d : ℕ) (x y : ℕ) → (x ≡ y → (a ≡ c) × (b ≡ d)) → (a ≡ c → b ≡ d → x ≡ y) → eqb x y ≡ (eqb a c && eqb b d)
same-node a b c d x y f g = go (eqb a c) refl (eqb b d) refl
  where
    go : (p : Bool) → eqb a c ≡ p → (q : Bool) → eqb b d ≡ q → eqb x y ≡ (p && q)
    go true u true v = eq-eqb x y (g (eqb-true a c u) (eqb-true b d v))
    go true u false v = ne_eqb x y (λ e. eqb-false b d v (f e).1)
    go false u q v = ne_eqb x y (λ e. eqb-false a c u (f e).0)

pub inputs-same : (s p c q : ℕ) → p < 4 → q < 4 → eqb (input_node s p) (input_node c q) ≡ (eqb s c && eqb p q)
unfolding input_node
inputs-same s p c q h l = same-node s p c q (8 * s + p) (8 * c + q) (λ e. (omega arith, omega arith)) (λ a b. omega arith)

pub outputs-same : (s p c q : ℕ) → p < 4 → q < 4 → eqb (output_node s p) (output_node c q) ≡ (eqb s c && eqb p q)
unfolding output_node
outputs-same s p c q h l = same-node s p c q (8 * s + (4 + p)) (8 * c + (4 + q)) (λ e. (omega arith, omega arith)) (λ a b. omega arith)

pub input-output : (s p c q : ℕ) → p < 4 → q < 4 → eqb (input_node s p) (output_node c q) ≡ false
unfolding input_node output_node
input-output s p c q h l = ne_eqb (8 * s + p) (8 * c + (4 + q)) (λ e. omega arith)

pub output-input : (s p c q : ℕ) → p < 4 → q < 4 → eqb (output_node s p) (input_node c q) ≡ false
unfolding input_node output_node
output-input s p c q h l = ne_eqb (8 * s + (4 + p)) (8 * c + q) (λ e. omega arith)

pub node_in : (c q x : ℕ) → 8 * c + q ≡ x → input_node c q ≡ x
unfolding input_node
node_in c q x e = e

pub node-out : (c q x : ℕ) → 8 * c + (4 + q) ≡ x → output_node c q ≡ x
unfolding output_node
node-out c q x e = e

module _ (cs : List Component) (ks : List Coupling) where
  pub ways-input : (c q : ℕ) → q < 4 → ways_on cs ks (input_node c q) ≡ down cs ks c q
  unfolding ways_on input_node
  ways-input c q h =
      let a : (8 * c + q) % 8 ≡ q = omega arith in
      let b : (8 * c + q) / 8 ≡ c = omega arith in
      rw (a, b, lt-ltb q 4 h)

  pub ways-output : (c q : ℕ) → q < 4 → ways_on cs ks (output_node c q) ≡ up cs ks c q
  unfolding ways_on output_node
  ways-output c q h =
      let a : (8 * c + (4 + q)) % 8 ≡ 4 + q = omega arith in
      let b : (8 * c + (4 + q)) / 8 ≡ c = omega arith in
      let d : 4 + q - 4 ≡ q = omega arith in
      rw (a, b, le-ltb (4 + q) 4 (omega arith), d)

pub end-input : (cs : List Component) (c q : ℕ) → q < 4 → end_at cs (input_node c q) ≡ cond (is_atomic cs c) 1 0
unfolding end_at input_node
end-input cs c q h =
    let a : (8 * c + q) % 8 ≡ q = omega arith in
    let b : (8 * c + q) / 8 ≡ c = omega arith in
    rw (a, b, lt-ltb q 4 h)

pub end-output : (cs : List Component) (c q : ℕ) → q < 4 → end_at cs (output_node c q) ≡ cond (eqb c 0) 1 0
unfolding end_at output_node
end-output cs c q h =
    let a : (8 * c + (4 + q)) % 8 ≡ 4 + q = omega arith in
    let b : (8 * c + (4 + q)) / 8 ≡ c = omega arith in
    rw (a, b, le-ltb (4 + q) 4 (omega arith))

-- ---- where a coupling begins and ends

pub target_at : (cs : List Component) (k : Coupling) → Kept cs k → target_number cs k < port_nodes * length cs
unfolding target_number input_node output_node
target_at cs k w = go (is_child cs k.target k.source)
  where
    go : (b : Bool) → cond b (8 * k.target + (4 + k.target_port)) (8 * k.target + k.target_port) < 8 * length cs
    go true = omega (arith, w.target, w.target_port_lem)
    go false = omega (arith, w.target, w.target_port_lem)

pub source-below : (cs : List Component) (k : Coupling) → Kept cs k → source_number cs k < port_nodes * length cs
unfolding source_number input_node output_node
source-below cs k w = go (is_child cs k.source k.target)
  where
    go : (b : Bool) → cond b (8 * k.source + k.source_port) (8 * k.source + (4 + k.source_port)) < 8 * length cs
    go true = omega (arith, w.source, w.source_port_lem)
    go false = omega (arith, w.source, w.source_port_lem)

-- A coupling that begins at an input leads down from its component.
pub source-at-input : (cs : List Component) (k : Coupling) (c q : ℕ) → Kept cs k → q < 4 → eqb (source_number cs k) (input_node c q) ≡ true
    → (is_child cs k.source k.target ≡ true) × (k.source ≡ c)
unfolding source_number
source-at-input cs k c q w h e = go (is_child cs k.source k.target) refl e
  where
    go : (b : Bool) → is_child cs k.source k.target ≡ b
        → eqb (cond b (input_node k.source k.source_port) (output_node k.source k.source_port)) (input_node c q) ≡ true
        → (is_child cs k.source k.target ≡ true) × (k.source ≡ c)
    go true f e = (f, eqb-true _ _ (and_left (eqb k.source c) _ (sym (inputs-same k.source k.source_port c q w.source_port_lem h) ∙ e)))
    go false f e = absurd (clash e (output-input k.source k.source_port c q w.source_port_lem h))

-- One that begins at an output leads elsewhere.
pub source-at-output : (cs : List Component) (k : Coupling) (c q : ℕ) → Kept cs k → q < 4 → eqb (source_number cs k) (output_node c q) ≡ true → k.source ≡ c
unfolding source_number
source-at-output cs k c q w h e = go (is_child cs k.source k.target) e
  where
    go : (b : Bool) → eqb (cond b (input_node k.source k.source_port) (output_node k.source k.source_port)) (output_node c q) ≡ true → k.source ≡ c
    go true e = absurd (clash e (input-output k.source k.source_port c q w.source_port_lem h))
    go false e = eqb-true _ _ (and_left (eqb k.source c) _ (sym (outputs-same k.source k.source_port c q w.source_port_lem h) ∙ e))

-- A node is at most one end.
pub small : (cs : List Component) (x : ℕ) → end_at cs x ≤ 1
unfolding end_at
small cs x = go (ltb (x % 8) 4) (is_atomic cs (x / 8)) (eqb (x / 8) 0)
  where
    go : (a b c : Bool) → cond a (cond b 1 0) (cond c 1 0) ≤ 1
    go true true c = omega arith
    go true false c = omega arith
    go false b true = omega arith
    go false b false = omega arith
