-- What may stand at each place of the tables: a component, a position, a node or a link, as its region asks. Assumes nothing.
use mathlib.Core.Path.{◌≡◌, refl}
use Prim.Native.Nat.{ℕ, ◌+◌, ◌<◌, ◌≤◌}
use native.Mathlib.Omega.{arith}
use Rattle.definition.specs.Limits.{max_components, max_couplings}
use Rattle.spec_step.specs.Tables.{kinds_at, orders_at, parents_at, rules_from_at, child_at, sibling_at, first_at, live_at, next_at, source_at, count_at}
use Rattle.spec_step.specs.Ranges.{max_nodes}

-- What may stand at place x of tables of m components.
pub record Allowed (m x v : ℕ) : Type 0 where
  pub numbers : x < kinds_at → v < max_components
  pub kinds : kinds_at + m ≤ x → x < orders_at → v ≡ 0
  pub parents : parents_at ≤ x → x < rules_from_at → v < max_components
  pub children : child_at ≤ x → x < sibling_at → (v < max_components) × (0 < v → x < child_at + v)
  pub siblings : sibling_at ≤ x → x < first_at → (v < max_components) × (0 < v → x < sibling_at + v)
  pub firsts : first_at ≤ x → x < live_at → v ≤ max_couplings
  pub nexts : next_at ≤ x → x < source_at → v ≤ max_couplings
  pub sources : source_at ≤ x → x < count_at → v < max_nodes
  pub counts : count_at ≤ x → v ≤ max_components

module _ (m : ℕ) where
  pub none : (x : ℕ) → Allowed m x 0
  none x = record {
    numbers = λ a. omega arith;
    kinds = λ a b. refl;
    parents = λ a b. omega arith;
    children = λ a b. (omega arith, λ p. absurd (omega arith));
    siblings = λ a b. (omega arith, λ p. absurd (omega arith));
    firsts = λ a b. omega arith;
    nexts = λ a b. omega arith;
    sources = λ a b. omega arith;
    counts = λ e. omega arith;
  }

  -- a component or a position, by component or by position
  pub small : (x v : ℕ) → x < rules_from_at → (kinds_at ≤ x → parents_at ≤ x) → v < max_components → Allowed m x v
  small x v l h b = record {
    numbers = λ a. b;
    kinds = λ a c. absurd (omega (arith, h (omega arith)));
    parents = λ a c. b;
    children = λ a c. absurd (omega arith);
    siblings = λ a c. absurd (omega arith);
    firsts = λ a c. absurd (omega arith);
    nexts = λ a c. absurd (omega arith);
    sources = λ a c. absurd (omega arith);
    counts = λ e. absurd (omega arith);
  }

  -- a place of which nothing is asked
  pub free : (x v : ℕ) → kinds_at ≤ x → (kinds_at + m ≤ x → orders_at ≤ x) → (parents_at ≤ x → rules_from_at ≤ x) → (child_at ≤ x → live_at ≤ x) → x < next_at → Allowed m x v
  free x v l k p c h = record {
    numbers = λ a. absurd (omega arith);
    kinds = λ a b. absurd (omega (arith, k a));
    parents = λ a b. absurd (omega (arith, p a));
    children = λ a b. absurd (omega (arith, c a));
    siblings = λ a b. absurd (omega (arith, c (omega arith)));
    firsts = λ a b. absurd (omega (arith, c (omega arith)));
    nexts = λ a b. absurd (omega arith);
    sources = λ a b. absurd (omega arith);
    counts = λ e. absurd (omega arith);
  }

  -- a link, first or next
  pub linking : (x v : ℕ) → first_at ≤ x → x < source_at → v ≤ max_couplings → Allowed m x v
  linking x v l h b = record {
    numbers = λ a. absurd (omega arith);
    kinds = λ a c. absurd (omega arith);
    parents = λ a c. absurd (omega arith);
    children = λ a c. absurd (omega arith);
    siblings = λ a c. absurd (omega arith);
    firsts = λ a c. b;
    nexts = λ a c. b;
    sources = λ a c. absurd (omega arith);
    counts = λ e. absurd (omega arith);
  }

  -- a child or a sibling, above its row
  pub kin : (at c v : ℕ) → child_at ≤ at → at ≤ sibling_at → (at < sibling_at → at ≡ child_at) → c < max_components → v < max_components → (0 < v → c < v) → Allowed m (at + c) v
  kin at c v l h e k b r = record {
    numbers = λ a. absurd (omega arith);
    kinds = λ a d. absurd (omega arith);
    parents = λ a d. absurd (omega arith);
    children = λ a d. (b, λ p. omega (arith, r p, e (omega arith)));
    siblings = λ a d. (b, λ p. omega (arith, r p));
    firsts = λ a d. absurd (omega arith);
    nexts = λ a d. absurd (omega arith);
    sources = λ a d. absurd (omega arith);
    counts = λ q. absurd (omega arith);
  }

  pub begin : (x v : ℕ) → source_at ≤ x → x < count_at → v < max_nodes → Allowed m x v
  begin x v l h b = record {
    numbers = λ a. absurd (omega arith);
    kinds = λ a d. absurd (omega arith);
    parents = λ a d. absurd (omega arith);
    children = λ a d. absurd (omega arith);
    siblings = λ a d. absurd (omega arith);
    firsts = λ a d. absurd (omega arith);
    nexts = λ a d. absurd (omega arith);
    sources = λ a d. b;
    counts = λ q. absurd (omega arith);
  }

  -- a number of components
  pub total : (x v : ℕ) → count_at ≤ x → v ≤ max_components → Allowed m x v
  total x v l b = record {
    numbers = λ a. absurd (omega arith);
    kinds = λ a d. absurd (omega arith);
    parents = λ a d. absurd (omega arith);
    children = λ a d. absurd (omega arith);
    siblings = λ a d. absurd (omega arith);
    firsts = λ a d. absurd (omega arith);
    nexts = λ a d. absurd (omega arith);
    sources = λ a d. absurd (omega arith);
    counts = λ q. b;
  }
