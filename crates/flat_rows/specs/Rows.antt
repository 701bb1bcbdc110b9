-- The rows of the flat form, found by the probing step: what is pulled at an end has one message for each route that ends there, and its value
-- names the port where the route begins. Assumes nothing.
use Rattle.std.specs.Prelude.{ℕ, zero, suc, ◌+◌, ◌*◌, ◌/◌, ◌%◌, List, [], ◌++◌, map, get_or}
use Rattle.definition.specs.Model.{Bag, Phase}
use Rattle.law_base.specs.Keys.{value_range}
use Rattle.spec_step.specs.Tables.{node_component, node_port, numbers_at}
use Rattle.spec_step.specs.TableStep.{keys_into, root_keys}
use Rattle.spec_step.specs.Flags.{marks_in, reached_in}
use Rattle.flat_ranks.specs.Ranks.{rank_of}
use Rattle.flat_probe.specs.Probe.{probes, probe_flags, probe_given}

-- A row of four bytes as one number, the first byte highest.
unfoldable pub row_number : ℕ → ℕ → ℕ → ℕ → ℕ
row_number source source_port target target_port = source % 256 * 16777216 + source_port % 256 * 65536 + target % 256 * 256 + target_port % 256

-- The row of a message that came to an end: from the port that its value names.
unfoldable pub row_of : List ℕ → ℕ → ℕ → ℕ
row_of t end key =
    let node = key % value_range in
    row_number (rank_of t (node_component node)) (node_port node) end (key / value_range)

-- The rows of a step with phases ps and these flags.
module _ (ps : List Phase) (t flags : List ℕ) where
  -- Those that end at the root.
  unfoldable pub rows_at_root : List ℕ
  rows_at_root = map (row_of t 0) (root_keys ps t (marks_in flags) (reached_in flags))

  -- With the given bag x.
  module _ (x : Bag) where
    -- Those that end at the atomic at position i, and at n atomics from there on.
    unfoldable pub rows_at_position : ℕ → List ℕ
    rows_at_position i = map (row_of t (i + 1)) (keys_into ps t (marks_in flags) (reached_in flags) x (get_or t (numbers_at + i) 0))

    unfoldable pub rows_from : ℕ → ℕ → List ℕ
    rows_from zero i = []
    rows_from (suc n) i = rows_at_position i ++ rows_from n (i + 1)

    unfoldable pub rows_of : ℕ → List ℕ
    rows_of n = rows_at_root ++ rows_from n 0

-- All rows of a model with n atomics.
abbrev pub probe_rows : List ℕ → ℕ → List ℕ
probe_rows t n = rows_of probes t probe_flags probe_given n
