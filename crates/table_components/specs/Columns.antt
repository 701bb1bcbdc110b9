-- The tables by component, by position and the ranges of rules, as they are written. Assumes nothing.
use Rattle.std.specs.Prelude.{ℕ, zero, suc, ◌+◌, ◌-◌, List, map, cond, length, get_or, set, take, eqb}
use Rattle.definition.specs.Limits.{max_components}
use Rattle.definition.specs.Lists.{sum}
use Rattle.definition.specs.Model.{Component, Rule, no_rule, component_at, is_atomic}
use Rattle.spec_step.specs.Tables.{numbers_at, positions_at, kinds_at, orders_at, phases_at, parents_at, rules_from_at, rules_to_at, child_at, sibling_at}
use Rattle.table_words.specs.Writes.{column, put_in, linked}
use Rattle.table_components.specs.declared.Field.{Field}
use Rattle.table_components.specs.declared.Field.TheVariants.{Kind, Parent, Order, Phases, Atomic}

-- What a table by component is made of: a field of its record, or 1 for an atomic.
abbrev pub field_of : Field → Component → ℕ
field_of Kind k = k.kind
field_of Parent k = k.parent
field_of Order k = k.order
field_of Phases k = k.phases
field_of Atomic k = cond (eqb k.kind 1) 1 0

-- A field by component, and its sum over the components before c.
unfoldable pub field_at : Field → List Component → ℕ → ℕ
field_at which cs c = field_of which (component_at cs c)

unfoldable pub fields_before : Field → List Component → ℕ → ℕ
fields_before which cs c = sum (map (field_of which) (take c cs))

-- Component c at the next position, where it is an atomic: the table and how many positions are taken.
unfoldable pub number_at : List Component → ℕ → List ℕ × ℕ → List ℕ × ℕ
number_at cs c st = cond (is_atomic cs c) (set st.0 (numbers_at + st.1) c, st.1 + 1) st

-- The atomics among m components from c on.
unfoldable pub numbered : List Component → ℕ → ℕ → List ℕ × ℕ → List ℕ × ℕ
numbered cs zero c st = st
numbered cs (suc m) c st = numbered cs m (c + 1) (number_at cs c st)

-- The tables by component from its record.
unfoldable pub by_component : List Component → List ℕ → List ℕ
by_component cs t =
    let n = length cs in
    let numbers = (numbered cs n 0 (t, 0)).0 in
    let positions = column positions_at (fields_before Atomic cs) n 0 numbers in
    let kinds = column kinds_at (field_at Kind cs) n 0 positions in
    let orders = column orders_at (field_at Order cs) n 0 kinds in
    let phases = column phases_at (fields_before Phases cs) n 0 orders in
    column parents_at (field_at Parent cs) n 0 phases

unfoldable pub rule_names : List Rule → ℕ → ℕ
rule_names rs i = (get_or rs i no_rule).component

-- The first rule that names each component: rules i - 1 down to 0, each over those after it.
unfoldable pub rule_starts : List Rule → ℕ → List ℕ → List ℕ
rule_starts rs zero t = t
rule_starts rs (suc i) t = rule_starts rs i (put_in rules_from_at max_components (rule_names rs i) i t)

-- One past the last: m rules from i on, each over those before it.
unfoldable pub rule_ends : List Rule → ℕ → ℕ → List ℕ → List ℕ
rule_ends rs zero i t = t
rule_ends rs (suc m) i t = rule_ends rs m (i + 1) (put_in rules_to_at max_components (rule_names rs i) (i + 1) t)

unfoldable pub by_rule : List Rule → List ℕ → List ℕ
by_rule rs t = rule_ends rs (length rs) 0 (rule_starts rs (length rs) t)

-- First child and next sibling: the root is nobody's child, so the links are the components from 1 on, and their keys the parents.
unfoldable pub by_parent : List Component → List ℕ → List ℕ
by_parent cs t = linked child_at max_components sibling_at (field_at Parent cs) (length cs - 1) t
