use Prim.Native.Nat.{◌-◌}
use mathlib.Core.Path.{◌≡◌}
use Rattle.model_records.specs.Values.{components_in}
use Rattle.table_words.specs.Writes.{column}
use Rattle.table_components.specs.Columns.{field_at}
use Rattle.table_components.proofs.put_fields.Given as goal

-- the rows left to write, over what stands now, make the whole column
abbrev pub invariant-loop-c : goal.invariant-loop-c
invariant-loop-c l = column l.at (field_at l.which (components_in l.components)) (l.n - l.c) l.c l.t ≡ column l.at (field_at l.which (components_in l.components)) l.n 0 l.initial.t
