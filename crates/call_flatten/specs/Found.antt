-- What the call flatten has of an accepted file, and what it finds before it writes. Assumes nothing.
use Rattle.std.specs.Prelude.{◌≡◌, List, ℕ, ◌+◌, ◌/◌, leb, length}
use Rattle.definition.specs.Lists.{sort_by}
use Rattle.definition.specs.Bytes.{Bytes, ok}
use Rattle.definition.specs.Limits.{max_routes}
use Rattle.definition.specs.File.{model_bytes}
use Rattle.definition.specs.Flatten.{flat}
use Rattle.definition.specs.Pinned.Decoder.{accepted}
use Rattle.model_file.specs.Checked.{model_of}
use Rattle.model_file.specs.declared.Counts.{Counts}
use Rattle.spec_step.specs.Tables.{atomics_in}
use Rattle.spec_step.specs.TablesOf.{TablesOf}
use Rattle.flat_rows.specs.Rows.{probe_rows}
use Rattle.flat_rows.specs.Put.{Held}
use Rattle.call_flatten.specs.declared.Found.{Found}

-- An accepted file with so many records, the tables of its model, and room for the rows and their sort.
pub record CanFlatten (file : Bytes) (n : Counts) (t : List ℕ) (room : ℕ) : Type 0 where
  pub accepts : ok (model_of file n) ≡ accepted file
  pub tabled : TablesOf (model_of file n) t
  pub rooms : room ≡ max_routes + max_routes / 2

-- The flat form that was found: its rows stand sorted at the front of a buffer, and it has so many bytes.
pub record FlatFound (file : Bytes) (n : Counts) (t rows : List ℕ) (found : Found) : Type 0 where
  pub can : CanFlatten file n t (length rows)
  pub held : Held (sort_by leb (probe_rows t (atomics_in t))) rows found.rows
  pub sized : found.size ≡ length (model_bytes (flat (model_of file n)))
