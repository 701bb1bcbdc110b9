-- The number of a node says which it is, and the tables of a model have the same rows by number as the model has by node. With this the account on
-- numbers, which the code follows, is the account on the model's ports. Assumes nothing.
use mathlib.Core.Path.{◌≡◌, refl, sym, ap, ◌∙◌}
use Prim.Native.Nat.{ℕ, ◌+◌, ◌*◌, ◌/◌, ◌%◌, ◌<◌}
use mathlib.Core.List.{List, [], ◌∷◌, map, map-map}
use mathlib.Core.Bool.{Bool, true, false, ◌&&◌, not, cond, and-false}
use mathlib.Core.Bool as B
use native.Mathlib.Omega.{arith}
use lib.Dec.{eqb, ltb}
use lib.ListN.{length, get_or}
use borrow.Author.Tests.{eqb-true, eqb-false, ltb-true, lt-ltb, le-ltb}
use Rattle.definition.specs.Lists.{all, keep}
use Rattle.definition.specs.Limits.{port_count}
use Rattle.definition.specs.Model.{Component, Coupling, Model, is_atomic, is_child}
use Rattle.definition.specs.Pinned.Decoder.{coupling_fields}
use Rattle.law_base.proofs.Tests.{and_left, and_right, and-true, eqb-sym}
use Rattle.law_base.proofs.Lists.{all-if, all-and, all-every, all_keep, all_map, map-cong-if}
use Rattle.law_model.proofs.WellFormed.{WellFormed, couplings-fit, kept}
use Rattle.law_routes.proofs.PortNodes.{inputs-same, outputs-same, input-output, output-input}
use Rattle.law_routes.specs.Nodes.{port_nodes, input_node, output_node, source_number, target_number}
use Rattle.spec_step.specs.Tables.{node_component, node_port, is_output, is_root_node, kinds_at, chain_rows, atomic_at, atomic_node}
use Rattle.spec_step.specs.Tabled.{Tabled}
use Rattle.law_step.proofs.Nodes.{Node, source_node, ends_at, rows_at, root_at}
use Rattle.law_step.proofs.Nodes as N

-- ---- numbers of nodes

unfoldable pub code : Node → ℕ
code y = cond y.output (output_node y.component y.port) (input_node y.component y.port)

pub code-component : (y : Node) → y.port < port_count → node_component (code y) ≡ y.component
unfolding code node_component output_node input_node
code-component y l = go y.output
  where
    go : (b : Bool) → cond b (port_nodes * y.component + (port_count + y.port)) (port_nodes * y.component + y.port) / port_nodes ≡ y.component
    go true = omega arith
    go false = omega arith

pub code-port : (y : Node) → y.port < port_count → node_port (code y) ≡ y.port
unfolding code node_port output_node input_node
code-port y l = go y.output
  where
    go : (b : Bool) → cond b (port_nodes * y.component + (port_count + y.port)) (port_nodes * y.component + y.port) % port_count ≡ y.port
    go true = omega arith
    go false = omega arith

pub code-output : (y : Node) → y.port < port_count → is_output (code y) ≡ y.output
unfolding code is_output output_node input_node
code-output y l = go y.output
  where
    go : (b : Bool) → not (ltb (cond b (port_nodes * y.component + (port_count + y.port)) (port_nodes * y.component + y.port) % port_nodes) port_count) ≡ b
    go true = ap not (le-ltb ((port_nodes * y.component + (port_count + y.port)) % port_nodes) port_count (omega arith))
    go false = ap not (lt-ltb ((port_nodes * y.component + y.port) % port_nodes) port_count (omega arith))

pub code-root : (y : Node) → y.port < port_count → is_root_node (code y) ≡ root_at y
unfolding code is_root_node output_node input_node root_at
code-root y l = go y.output (eqb y.component 0) refl
  where
    go : (b z : Bool) → eqb y.component 0 ≡ z → ltb (cond b (port_nodes * y.component + (port_count + y.port)) (port_nodes * y.component + y.port)) port_nodes ≡ eqb y.component 0
    go true true e = let c = eqb-true y.component 0 e in rw e (lt-ltb (port_nodes * y.component + (port_count + y.port)) port_nodes (omega arith))
    go false true e = let c = eqb-true y.component 0 e in rw e (lt-ltb (port_nodes * y.component + y.port) port_nodes (omega arith))
    go true false e = let c = eqb-false y.component 0 e in rw e (le-ltb (port_nodes * y.component + (port_count + y.port)) port_nodes (omega arith))
    go false false e = let c = eqb-false y.component 0 e in rw e (le-ltb (port_nodes * y.component + y.port) port_nodes (omega arith))

-- ---- rows by number

pub keep-cong-if : {A : Type 0} (q f g : A → Bool) (l : List A) → all q l ≡ true → ((a : A) → q a ≡ true → f a ≡ g a) → keep f l ≡ keep g l
unfolding keep all
keep-cong-if q f g [] e h = refl
keep-cong-if q f g (a ∷ l) e h = rw (h a (and_left (q a) _ e), keep-cong-if q f g l (and_right (q a) _ e) h)

all-kept : {A : Type 0} (q f : A → Bool) (l : List A) → all q l ≡ true → all q (keep f l) ≡ true
unfolding keep all
all-kept q f [] e = refl
all-kept q f (a ∷ l) e = go (f a) (all-kept q f l (and_right (q a) _ e))
  where
    go : (b : Bool) → all q (keep f l) ≡ true → all q (cond b (a ∷ keep f l) (keep f l)) ≡ true
    go true h = and-true (q a) _ (and_left (q a) _ e) h
    go false h = h

source-code : (cs : List Component) (k : Coupling) → source_number cs k ≡ code (source_node cs k)
unfolding source_number source_node code
source-code cs k = go (is_child cs k.source k.target)
  where
    go : (b : Bool) → cond b (input_node k.source k.source_port) (output_node k.source k.source_port)
        ≡ cond (not b) (output_node k.source k.source_port) (input_node k.source k.source_port)
    go true = refl
    go false = refl

target_code : (cs : List Component) (x : Node) → x.port < port_count → (k : Coupling) → coupling_fields cs k ≡ true → eqb (target_number cs k) (code x) ≡ ends_at cs x k
unfolding target_number ends_at code
target_code cs x l k h = go (is_child cs k.target k.source) x.output
  where
    p : k.target_port < port_count
    p = (kept cs k h).target_port_lem

    test : Bool
    test = eqb k.target x.component && eqb x.port k.target_port

    both : eqb k.target x.component && eqb k.target_port x.port ≡ test && true
    both = ap (λ b. eqb k.target x.component && b) (eqb-sym k.target_port x.port) ∙ sym (B.and-true test)

    go : (b o : Bool) → eqb (cond b (output_node k.target k.target_port) (input_node k.target k.target_port)) (cond o (output_node x.component x.port) (input_node x.component x.port))
        ≡ test && cond o b (not b)
    go true true = outputs-same k.target k.target_port x.component x.port p l ∙ both
    go true false = output-input k.target k.target_port x.component x.port p l ∙ sym (and-false test)
    go false true = input-output k.target k.target_port x.component x.port p l ∙ sym (and-false test)
    go false false = inputs-same k.target k.target_port x.component x.port p l ∙ both

module _ (m : Model) (w : WellFormed m) where
  -- the nodes that there are
  unfoldable pub good : Node → Bool
  good y = ltb y.component (length m.components) && ltb y.port port_count

  pub good-in : (y : Node) → good y ≡ true → (y.component < length m.components) × (y.port < port_count)
  unfolding good
  good-in y h = (ltb-true _ _ (and_left (ltb y.component (length m.components)) _ h), ltb-true _ _ (and_right (ltb y.component (length m.components)) _ h))

  pub good-node : (y : Node) → y.component < length m.components → y.port < port_count → good y ≡ true
  unfolding good
  good-node y a b = rw (lt-ltb _ _ a, lt-ltb _ _ b)

  pub code_below : (y : Node) → good y ≡ true → code y < port_nodes * length m.components
  unfolding code output_node input_node
  code_below y h = go y.output
    where
      go : (b : Bool) → cond b (port_nodes * y.component + (port_count + y.port)) (port_nodes * y.component + y.port) < port_nodes * length m.components
      go true = omega (arith, (good-in y h).0, (good-in y h).1)
      go false = omega (arith, (good-in y h).0, (good-in y h).1)

  -- what holds of every fitting coupling holds of those that end at a node
  pub rows_all : (p : Node → Bool) (x : Node) → ((k : Coupling) → coupling_fields m.components k ≡ true → ends_at m.components x k ≡ true → p (source_node m.components k) ≡ true)
      → all p (rows_at m x) ≡ true
  unfolding rows_at
  rows_all p x h =
      all_map p (source_node m.components) (keep (ends_at m.components x) m.couplings)
      ∙ all-if (λ k. coupling_fields m.components k && ends_at m.components x k) (λ k. p (source_node m.components k)) _
      (λ k e. h k (and_left (coupling_fields m.components k) _ e) (and_right (coupling_fields m.components k) _ e))
      (all-and (coupling_fields m.components) (ends_at m.components x) _ (all-kept (coupling_fields m.components) _ m.couplings (couplings-fit m w)) (all_keep (ends_at m.components x) m.couplings))

  pub rows-good : (x : Node) → all good (rows_at m x) ≡ true
  unfolding source_node
  rows-good x = rows_all good x (λ k h e. let i = kept m.components k h in good-node (source_node m.components k) i.source i.source_port_lem)

  module _ (t : List ℕ) (h : Tabled m t) where
    pub rows_are : (x : Node) → good x ≡ true → chain_rows t (code x) ≡ map code (rows_at m x)
    unfolding rows_at
    rows_are x g =
        let cs = m.components in
        h.rows (code x) (code_below x g)
        ∙ ap (map (source_number cs)) (keep-cong-if (coupling_fields cs) (λ k. eqb (target_number cs k) (code x)) (ends_at cs x) m.couplings (couplings-fit m w) (λ k f. target_code cs x (good-in x g).1 k f))
        ∙ map-cong-if (λ k. true) (source_number cs) (λ k. code (source_node cs k)) (keep (ends_at cs x) m.couplings) (all-every (λ k. true) _ (λ k. refl)) (λ k e. source-code cs k)
        ∙ sym (map-map code (source_node cs) (keep (ends_at cs x) m.couplings))

    pub atomic-is : (x : Node) → good x ≡ true → atomic_node t (code x) ≡ N.atomic_at m x
    unfolding atomic_node atomic_at N.atomic_at is_atomic
    atomic-is x g = ap (λ c. eqb (get_or t (kinds_at + c) 0) 1) (code-component x (good-in x g).1) ∙ ap (λ k. eqb k 1) (h.kinds x.component (good-in x g).0)
