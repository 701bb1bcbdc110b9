-- What is collected in a step, from what the code has: the bytes of phases and given messages, the tables of a call, and the flags of the step.
-- Assumes nothing.
use Rattle.std.specs.Prelude.{◌≡◌, ℕ, ◌≤◌, ◌<◌, List, Bool, true}
use Rattle.definition.specs.Bytes.{Bytes}
use Rattle.definition.specs.Limits.{max_ancestors, max_components, port_count}
use Rattle.definition.specs.Engine.{to_bag}
use Rattle.law_routes.specs.Nodes.{input_node, output_node}
use Rattle.model_records.specs.Values.{phases_in}
use Rattle.spec_step.specs.Put.{put_ports}
use Rattle.spec_step.specs.Tables.{port_nodes}
use Rattle.spec_step.specs.Ranges.{max_nodes, InRange}
use Rattle.spec_step.specs.TableStep.{may_come, is_open, sent_by, pulled_below, pulled_into, keys_into, root_keys}
use Rattle.spec_step.specs.Flags.{marks_in, reached_in}
use Rattle.step_collect.specs.Turns.{pulled_child, pulled_from}

-- Something may come from a node, and a node is open, in the step with these flags.
abbrev pub comes_from : List ℕ → ℕ → Bool
comes_from flags source = may_come (marks_in flags) (reached_in flags) source

abbrev pub open_in : List ℕ → List ℕ → ℕ → Bool
open_in tables flags node = is_open tables (marks_in flags) (reached_in flags) node

-- What the atomic of an output node puts out there.
abbrev pub sent_from : Bytes → List ℕ → ℕ → List ℕ
sent_from phases flags source = sent_by (phases_in phases) (marks_in flags) source

-- ---- what is collected at a node

module _ (phases : Bytes) (tables flags : List ℕ) where
  -- What leaves at an output node of a coupled component, at most so many levels down, and what a child adds to it.
  abbrev pub leaving : ℕ → ℕ → List ℕ
  leaving depth target = pulled_below (phases_in phases) tables (marks_in flags) (reached_in flags) depth target

  abbrev pub leaving_child : ℕ → ℕ → List ℕ
  leaving_child depth source = pulled_child (phases_in phases) tables (marks_in flags) (reached_in flags) depth source

  -- The keys of the root's output bag, and a buffer with them.
  abbrev pub root_keys_for : List ℕ
  root_keys_for = root_keys (phases_in phases) tables (marks_in flags) (reached_in flags)

  abbrev pub root_put : List ℕ → List ℕ × ℕ
  root_put buf = put_ports (λ q. leaving max_ancestors (output_node 0 q)) port_count 0 (buf, 0)

  module _ (given : Bytes) where
    -- What arrives at an input node, at most so many levels up, and what comes there from one node.
    abbrev pub arriving : ℕ → ℕ → List ℕ
    arriving depth target = pulled_into (phases_in phases) tables (marks_in flags) (reached_in flags) (to_bag given) depth target

    abbrev pub arriving_from : ℕ → ℕ → List ℕ
    arriving_from depth source = pulled_from (phases_in phases) tables (marks_in flags) (reached_in flags) (to_bag given) depth source

    -- The keys of the bag of component c, and a buffer with them.
    abbrev pub keys_for : ℕ → List ℕ
    keys_for c = keys_into (phases_in phases) tables (marks_in flags) (reached_in flags) (to_bag given) c

    abbrev pub bag_put : ℕ → List ℕ → List ℕ × ℕ
    bag_put c buf = put_ports (λ q. arriving max_ancestors (input_node c q)) port_count 0 (buf, 0)

-- ---- what is asked

-- A component, and a node, of tables that are in range.
pub record ComponentOf (tables : List ℕ) (c : ℕ) : Type 0 where
  pub below : c < max_components
  pub in_range : InRange tables

pub record NodeOf (tables : List ℕ) (node : ℕ) : Type 0 where
  pub below : node < max_nodes
  pub in_range : InRange tables

-- A node that is open, and one that is an input of another component than the root.
pub record OpenNode (tables flags : List ℕ) (node : ℕ) : Type 0 where
  pub below : node < max_nodes
  pub in_range : InRange tables
  pub enters : open_in tables flags node ≡ true

pub record OpenInput (tables flags : List ℕ) (node : ℕ) : Type 0 where
  pub below : node < max_nodes
  pub in_range : InRange tables
  pub enters : open_in tables flags node ≡ true
  pub not_root : port_nodes ≤ node
