use Prim.Native.Nat.{◌≤◌, ◌-◌, ◌*◌}
use mathlib.Core.Path.{◌≡◌}
use Rattle.model_records.specs.Values.{components_in}
use Rattle.table_words.specs.Writes.{column}
use Rattle.table_components.specs.Columns.{fields_before}
use Rattle.table_components.proofs.put_sums.Given as goal

-- the total is the sum of the components passed; the rows left to write, over what stands now, make the whole column
abbrev pub invariant-loop-c : goal.invariant-loop-c
invariant-loop-c l = (l.total ≤ 255 * l.c) × (l.total ≡ fields_before l.which (components_in l.components) l.c) × (column l.at (fields_before l.which (components_in l.components)) (l.n - l.c) l.c l.t ≡ column l.at (fields_before l.which (components_in l.components)) l.n 0 l.initial.t)
