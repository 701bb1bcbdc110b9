-- The rows that the code puts, from what it has: the bytes of phases and given messages, the tables of a call and the flags of a step. What it
-- asks for them, and what it leaves. Assumes nothing.
use Rattle.std.specs.Prelude.{◌≡◌, ℕ, ◌+◌, ◌/◌, ◌≤◌, List, length, take}
use Rattle.definition.specs.Bytes.{Bytes}
use Rattle.definition.specs.Limits.{max_components}
use Rattle.definition.specs.Engine.{to_bag}
use Rattle.model_records.specs.Values.{phases_in}
use Rattle.spec_step.specs.Ranges.{InRange}
use Rattle.flat_rows.specs.Rows.{rows_at_root, rows_at_position, rows_of, probe_rows}

module _ (phases : Bytes) (tables flags : List ℕ) where
  abbrev pub root_rows : List ℕ
  root_rows = rows_at_root (phases_in phases) tables flags

  abbrev pub position_rows : Bytes → ℕ → List ℕ
  position_rows given i = rows_at_position (phases_in phases) tables flags (to_bag given) i

  abbrev pub all_rows : Bytes → ℕ → List ℕ
  all_rows given n = rows_of (phases_in phases) tables flags (to_bag given) n

-- Tables in range, and room for the rows.
pub record CanAdd (tables rows : List ℕ) (room : ℕ) : Type 0 where
  pub in_range : InRange tables
  pub fits : length rows ≤ room

-- The first r words of a buffer are xs; what stands behind them is left open.
pub record Held (xs buffer : List ℕ) (r : ℕ) : Type 0 where
  pub count : r ≡ length xs
  pub front : take r buffer ≡ xs
  pub room : r ≤ length buffer

-- What finding all rows of n atomics asks of the tables and the room: they are sorted, with half as many words behind them.
pub record CanProbe (tables : List ℕ) (n room : ℕ) : Type 0 where
  pub few : n ≤ max_components
  pub in_range : InRange tables
  pub fits : length (probe_rows tables n) + length (probe_rows tables n) / 2 ≤ room
