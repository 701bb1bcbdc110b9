-- What the tables of a call hold for a model, region by region: what the code that fills them has to show, and all that the step's laws take of
-- them. Assumes nothing.
use Rattle.std.specs.Prelude.{◌≡◌, ℕ, ◌+◌, ◌*◌, ◌≤◌, ◌<◌, List, map, Bool, true, false, ◌||◌, not, cond, length, get_or, eqb}
use Rattle.definition.specs.Lists.{keep}
use Rattle.definition.specs.Limits.{port_count}
use Rattle.definition.specs.Model.{Model, no_rule, component_at, is_atomic, atomics, phases_before, children}
use Rattle.definition.specs.Flatten.{place_in}
use Rattle.law_routes.specs.Nodes.{port_nodes, input_node, source_number, target_number}
use Rattle.spec_step.specs.Tables.{is_output, numbers_at, positions_at, kinds_at, orders_at, phases_at, parents_at, rules_from_at, rules_to_at, live_at, count_at, atomics_in, ranges_in, chain_rows, child_rows, atomic_node}
use Rattle.spec_step.specs.TableStep.{any_of}

-- Node x is live: some source may lead there.
unfoldable pub is_live : List ℕ → ℕ → Bool
is_live t x = not (eqb (get_or t (live_at + x) 0) 0)

-- Something may come from node y, ever: from an atomic's output, or from a live node.
unfoldable pub may_lead : List ℕ → ℕ → Bool
may_lead t y = cond (is_output y) (atomic_node t y || is_live t y) (is_live t y)

pub record Tabled (m : Model) (t : List ℕ) : Type 0 where
  pub count : get_or t count_at 0 ≡ length m.components
  pub atomic_count_lem : atomics_in t ≡ length (atomics m.components)
  pub ranges : ranges_in t ≡ m.ranges
  -- by position
  pub numbers : (i : ℕ) → i < length (atomics m.components) → get_or t (numbers_at + i) 0 ≡ get_or (atomics m.components) i 0
  -- by component
  pub positions : (c : ℕ) → is_atomic m.components c ≡ true → get_or t (positions_at + c) 0 ≡ place_in c (atomics m.components)
  pub kinds : (c : ℕ) → c < length m.components → get_or t (kinds_at + c) 0 ≡ (component_at m.components c).kind
  pub orders : (c : ℕ) → c < length m.components → get_or t (orders_at + c) 0 ≡ (component_at m.components c).order
  pub phases : (c : ℕ) → c < length m.components → get_or t (phases_at + c) 0 ≡ phases_before m.components c
  pub parents : (c : ℕ) → c < length m.components → get_or t (parents_at + c) 0 ≡ (component_at m.components c).parent
  pub childs : (c : ℕ) → c < length m.components → child_rows t c ≡ children m.components c
  -- the rules that name component c lie between two positions
  pub rules_in_lem : (c : ℕ) → c < length m.components → get_or t (rules_to_at + c) 0 ≤ length m.rules
  pub rules_from : (c i : ℕ) → c < length m.components → i < length m.rules → (get_or m.rules i no_rule).component ≡ c → get_or t (rules_from_at + c) 0 ≤ i
  pub rules_to : (c i : ℕ) → c < length m.components → i < length m.rules → (get_or m.rules i no_rule).component ≡ c → i < get_or t (rules_to_at + c) 0
  -- by node
  pub rows : (x : ℕ) → x < port_nodes * length m.components
      → chain_rows t x ≡ map (source_number m.components) (keep (λ k. eqb (target_number m.components k) x) m.couplings)
  -- where nothing is live, nothing leads; the root's inputs are live
  pub live : (x : ℕ) → x < port_nodes * length m.components → is_live t x ≡ false → any_of (may_lead t) (chain_rows t x) ≡ false
  pub given_live : (q : ℕ) → q < port_count → is_live t (input_node 0 q) ≡ true
