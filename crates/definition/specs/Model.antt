-- The model that a file stands for: its records, who is whose child and sibling, and the tree of components. Assumes nothing.
use Rattle.std.specs.Prelude.{ℕ, zero, suc, ◌+◌, List, [], ◌∷◌, map, Bool, ◌&&◌, not, cond, eqb, length, take, get_or}
use Rattle.definition.specs.Lists.{sum, keep, up_from, lex_le}

-- ---- records

pub record Message : Type 0 where
  pub port : ℕ
  pub value : ℕ

-- A bag of messages: a list whose order means nothing.
abbrev pub Bag : Type 0
Bag = List Message

-- "kind (0 coupled, 1 atomic), parent, phase count, initial phase, order"
pub record Component : Type 0 where
  pub kind : ℕ
  pub parent : ℕ
  pub phases : ℕ
  pub initial : ℕ
  pub order : ℕ

-- "advance .., next phase (1), output count .., four slots of port (1) and value (2)"
pub record Phase : Type 0 where
  pub advance : ℕ
  pub next : ℕ
  pub output_count : ℕ
  pub slot0 : Message
  pub slot1 : Message
  pub slot2 : Message
  pub slot3 : Message

-- "atomic component (1), phase (1), next phase (1), port (1), low and high value .., least count (2), low and high elapsed .."
pub record Rule : Type 0 where
  pub component : ℕ
  pub phase : ℕ
  pub next : ℕ
  pub port : ℕ
  pub low : ℕ
  pub high : ℕ
  pub least : ℕ
  pub low_elapsed : ℕ
  pub high_elapsed : ℕ

-- "source component, source port, target component, target port"
pub record Coupling : Type 0 where
  pub source : ℕ
  pub source_port : ℕ
  pub target : ℕ
  pub target_port : ℕ

-- How the elapsed ranges of a model's rules are read: "Four-section files keep the inclusive reading"; with a fifth section the "high end is
-- excluded".
pub data RangeReading : Type 0 where
  inclusive : RangeReading
  half_open : RangeReading

pub record Model : Type 0 where
  pub components : List Component
  pub phases : List Phase
  pub rules : List Rule
  pub couplings : List Coupling
  pub ranges : RangeReading

-- The model with its ranges read so.
abbrev pub read_as : Model → RangeReading → Model
read_as m r = record { components = m.components; phases = m.phases; rules = m.rules; couplings = m.couplings; ranges = r }

-- ---- what stands where no record does: zeros

unfoldable pub no_message : Message
no_message = record { port = 0; value = 0 }

unfoldable pub no_component : Component
no_component = record { kind = 0; parent = 0; phases = 0; initial = 0; order = 0 }

unfoldable pub no_phase : Phase
no_phase = record { advance = 0; next = 0; output_count = 0; slot0 = no_message; slot1 = no_message; slot2 = no_message; slot3 = no_message }

unfoldable pub no_rule : Rule
no_rule = record { component = 0; phase = 0; next = 0; port = 0; low = 0; high = 0; least = 0; low_elapsed = 0; high_elapsed = 0 }

unfoldable pub no_coupling : Coupling
no_coupling = record { source = 0; source_port = 0; target = 0; target_port = 0 }

-- ---- components and phases by number

unfoldable pub component_at : List Component → ℕ → Component
component_at cs c = get_or cs c no_component

unfoldable pub is_atomic : List Component → ℕ → Bool
is_atomic cs c = eqb (component_at cs c).kind 1

-- The atomics' component numbers in file order.
unfoldable pub atomics : List Component → List ℕ
atomics cs = keep (is_atomic cs) (up_from 0 (length cs))

-- The phase records of the components before c: "atomic by atomic in file order".
unfoldable pub phases_before : List Component → ℕ → ℕ
phases_before cs c = sum (map (λ k. k.phases) (take c cs))

-- Phase p of component c.
unfoldable pub phase_at : Model → ℕ → ℕ → Phase
phase_at m c p = get_or m.phases (phases_before m.components c + p) no_phase

unfoldable pub slots : Phase → Bag
slots p = p.slot0 ∷ p.slot1 ∷ p.slot2 ∷ p.slot3 ∷ []

-- The bag that the phase puts out: its used slots.
unfoldable pub outputs : Phase → Bag
outputs p = take p.output_count (slots p)

-- ---- kinship

-- d is a child of c; the root "is nobody's child or sibling".
unfoldable pub is_child : List Component → ℕ → ℕ → Bool
is_child cs c d = not (eqb d 0) && eqb (component_at cs d).parent c

unfoldable pub is_sibling : List Component → ℕ → ℕ → Bool
is_sibling cs c d = not (eqb c d) && not (eqb c 0) && is_child cs (component_at cs c).parent d

unfoldable pub children : List Component → ℕ → List ℕ
children cs c = keep (is_child cs c) (up_from 0 (length cs))

-- ---- orders

-- "in rising order of port, then value"
unfoldable pub message_le : Message → Message → Bool
message_le x y = lex_le (x.port ∷ x.value ∷ []) (y.port ∷ y.value ∷ [])

-- "as four-byte rows"
unfoldable pub coupling_row : Coupling → List ℕ
coupling_row k = k.source ∷ k.source_port ∷ k.target ∷ k.target_port ∷ []

unfoldable pub coupling_le : Coupling → Coupling → Bool
coupling_le k l = lex_le (coupling_row k) (coupling_row l)

-- ---- the tree of components

mutual
  pub data Tree : Type 0 where
    leaf : ℕ → Tree
    node : ℕ → Forest → Tree

  pub data Forest : Type 0 where
    stop : Forest
    more : Tree → Forest → Forest

abbrev pub name_of : Tree → ℕ
name_of (leaf c) = c
name_of (node c f) = c

unfoldable pub forest : List Tree → Forest
forest [] = stop
forest (t ∷ ts) = more t (forest ts)

-- The tree of component c, at most `levels` deep.
unfoldable pub tree_at : ℕ → List Component → ℕ → Tree
tree_at zero cs c = leaf c
tree_at (suc levels) cs c =
    let below = node c (forest (map (λ d. tree_at levels cs d) (children cs c))) in
    cond (is_atomic cs c) (leaf c) below

-- The root's tree: a child is numbered above its parent, so it is less deep than there are components.
unfoldable pub tree : Model → Tree
tree m = tree_at (suc (length m.components)) m.components 0
