-- The nodes of a coupling that keeps its lines: each has its component and its side, and there is room for it. Assumes nothing.
use mathlib.Core.Path.{◌≡◌, ap}
use Prim.Native.Nat.{ℕ, ◌+◌, ◌-◌, ◌*◌, ◌%◌, ◌<◌, ◌≤◌}
use mathlib.Core.List.{List}
use mathlib.Core.Bool.{Bool, true, false, not, cond}
use native.Mathlib.Omega.{arith}
use lib.ListN.{length, get_or}
use borrow.Author.Tests.{lt-ltb, le-ltb}
use Rattle.definition.specs.Limits.{max_components, port_count}
use Rattle.definition.specs.Model.{Component, Coupling, no_coupling, is_child}
use Rattle.definition.specs.Pinned.Decoder.{coupling_fits}
use Rattle.law_routes.proofs.Placed.{kept_at}
use Rattle.law_model.proofs.WellFormed.{Kept}
use Rattle.law_routes.proofs.PortNodes.{target_at, source-below}
use Rattle.spec_step.specs.Tables.{port_nodes, input_node, output_node, source_number, target_number, node_component, is_output}
use Rattle.table_couplings.specs.declared.End.TheVariants.{Source, Target}
use Rattle.table_couplings.specs.Links.{link_end, OnNodes}

module _ (c q : ℕ) (l : q < port_count) where
  input-component : node_component (input_node c q) ≡ c
  unfolding node_component input_node
  input-component = omega arith

  output-component : node_component (output_node c q) ≡ c
  unfolding node_component output_node
  output-component = omega arith

  input-side : is_output (input_node c q) ≡ false
  unfolding is_output input_node
  input-side = ap not (lt-ltb ((port_nodes * c + q) % port_nodes) port_count (omega arith))

  output-side : is_output (output_node c q) ≡ true
  unfolding is_output output_node
  output-side = ap not (le-ltb ((port_nodes * c + (port_count + q)) % port_nodes) port_count (omega arith))

module _ (cs : List Component) (k : Coupling) (w : Kept cs k) where
  pub source-component : node_component (source_number cs k) ≡ k.source
  unfolding source_number
  source-component = go (is_child cs k.source k.target)
    where
      go : (b : Bool) → node_component (cond b (input_node k.source k.source_port) (output_node k.source k.source_port)) ≡ k.source
      go true = input-component k.source k.source_port w.source_port_lem
      go false = output-component k.source k.source_port w.source_port_lem

  pub target-component : node_component (target_number cs k) ≡ k.target
  unfolding target_number
  target-component = go (is_child cs k.target k.source)
    where
      go : (b : Bool) → node_component (cond b (output_node k.target k.target_port) (input_node k.target k.target_port)) ≡ k.target
      go true = output-component k.target k.target_port w.target_port_lem
      go false = input-component k.target k.target_port w.target_port_lem

  pub source-side : is_output (source_number cs k) ≡ not (is_child cs k.source k.target)
  unfolding source_number
  source-side = go (is_child cs k.source k.target)
    where
      go : (b : Bool) → is_output (cond b (input_node k.source k.source_port) (output_node k.source k.source_port)) ≡ not b
      go true = input-side k.source k.source_port w.source_port_lem
      go false = output-side k.source k.source_port w.source_port_lem

  pub target-side : is_output (target_number cs k) ≡ is_child cs k.target k.source
  unfolding target_number
  target-side = go (is_child cs k.target k.source)
    where
      go : (b : Bool) → is_output (cond b (output_node k.target k.target_port) (input_node k.target k.target_port)) ≡ b
      go true = output-side k.target k.target_port w.target_port_lem
      go false = input-side k.target k.target_port w.target_port_lem

-- ---- by link

module _ (cs : List Component) (ks : List Coupling) (fit : (i : ℕ) → i < length ks → coupling_fits cs ks i ≡ true) where
  pub kept-link : (j : ℕ) → 0 < j → j ≤ length ks → Kept cs (get_or ks (j - 1) no_coupling)
  kept-link j a b = kept_at cs ks fit (j - 1) (omega arith)

  pub src-in : (j : ℕ) → 0 < j → j ≤ length ks → link_end Source cs ks j < port_nodes * length cs
  unfolding link_end
  src-in j a b = source-below cs (get_or ks (j - 1) no_coupling) (kept-link j a b)

  pub tgt-in : (j : ℕ) → 0 < j → j ≤ length ks → link_end Target cs ks j < port_nodes * length cs
  unfolding link_end
  tgt-in j a b = target_at cs (get_or ks (j - 1) no_coupling) (kept-link j a b)

  pub on-nodes : length cs ≤ max_components → OnNodes (link_end Source cs ks) (link_end Target cs ks) (length ks)
  on-nodes few j a b = (omega (arith, src-in j a b), omega (arith, tgt-in j a b))
