-- The tables of a call, as they are filled from a model's records: over zeros, first the nodes where links begin, then by component, by rule, by
-- parent, by coupling, the numbers of components and of atomics, and the reading of ranges. Assumes nothing.
use Rattle.std.specs.Prelude.{ℕ, List, length, set}
use Rattle.definition.specs.Model.{Component, Rule, Coupling, RangeReading, inclusive, half_open, atomics}
use Rattle.spec_step.specs.Tables.{count_at, atomics_at, ranges_at}
use Rattle.table_components.specs.Columns.{by_component, by_rule, by_parent}
use Rattle.table_couplings.specs.Links.{zeros, begun, by_coupling}

-- The word of a reading of ranges.
abbrev pub ranges_word : RangeReading → ℕ
ranges_word inclusive = 0
ranges_word half_open = 1

unfoldable pub filled : List Component → List Rule → List Coupling → RangeReading → List ℕ
filled cs rs ks r =
    let sources = begun cs ks zeros in
    let components = by_component cs sources in
    let rules = by_rule rs components in
    let children = by_parent cs rules in
    let counted = set (by_coupling cs ks children) count_at (length cs) in
    set (set counted atomics_at (length (atomics cs))) ranges_at (ranges_word r)
