-- Request (iii) of document 02, "Traces stored by column", as statements about the definitions; crate `theory` proves them. The rows of 17
-- and 18 stand in demand 1. Assumes nothing.
use Rattle.std.specs.Prelude.{◌≡◌, ◌≤◌, ◌<◌, List, [], ◌∷◌, ◌++◌, map, length}
use Rattle.definition.specs.Bytes.{Bytes, AllBytes, stored}
use Rattle.definition.specs.Limits.{max_records}
use Rattle.definition.specs.Pinned.TraceReader.{trace_to_columns, columns_to_trace}
use Rattle.definition.specs.Sound.{Every}
use Rattle.definition.specs.SavedRun.{open_moment}
use Rattle.definition.specs.Instant.{TraceRecord}
use Rattle.definition.specs.Calls.{AdvanceCall, Machine, answers, engine}
use Rattle.definition.specs.Columns.{Recorded, IsTrace, Rearranges}
use Rattle.definition.specs.Demands.{written, traced_by}

-- "the traces of successive advances, each given the run buffer as the one before left it, joined in turn": whatever model each one runs.
unfoldable pub joined_traces : Bytes → List (Machine × AdvanceCall) → Bytes
joined_traces run [] = []
joined_traces run (c ∷ cs) = let a = answers c.0 run c.1 in traced_by a ++ joined_traces a.run cs

-- The bytes are records in a row, in order: one trace, "up to 4,294,967,295 records".
abbrev pub OneTrace : Bytes → Type 0
OneTrace s = (rs : List TraceRecord) × Recorded s rs × (length rs ≤ max_records → IsTrace s rs)

pub record TracesByColumn : Type 0 where
  -- "Rearrange a trace into columns": where the calls answer 0, what they were lent and what they wrote are a trace and its columns.
  pub there : (trace out : Bytes) → AllBytes trace → (trace_to_columns trace out).number ≡ 0 → Rearranges trace (written (trace_to_columns trace out))
  pub back : (columns out : Bytes) → AllBytes columns → (columns_to_trace columns out).number ≡ 0 → Rearranges (written (columns_to_trace columns out)) columns
  -- "The inverse gives the trace back byte for byte"
  pub inverse : (trace out again : Bytes) → AllBytes trace → (trace_to_columns trace out).number ≡ 0 → length trace ≤ length again
      → columns_to_trace (written (trace_to_columns trace out)) again ≡ record { number = 0; written = length trace; buffer = stored trace again }
  -- "and columns made of a trace are the only ones that do": what goes back to a trace is its columns.
  pub only : (columns out again : Bytes) → AllBytes columns → (columns_to_trace columns out).number ≡ 0 → length columns ≤ length again
      → trace_to_columns (written (columns_to_trace columns out)) again ≡ record { number = 0; written = length columns; buffer = stored columns again }
  -- "A trace's pairs of moment and step rise strictly": whatever an advance is given, what it writes is one trace.
  pub advance_trace : (file run : Bytes) (c : AdvanceCall) → AllBytes file → OneTrace (traced_by (answers (engine file) run c))
  -- Its moments lie at or after the open moment before it, and before the open moment after it.
  pub advance_span : (file run : Bytes) (c : AdvanceCall) → AllBytes file → (rs : List TraceRecord) → Recorded (traced_by (answers (engine file) run c)) rs
      → Every (λ r. (open_moment run ≤ r.moment) × (r.moment < open_moment (answers (engine file) run c).run)) rs
  -- "the traces of successive advances .. joined in turn are one trace": any advances, refused ones too, from any run buffer.
  pub joined_trace : (run : Bytes) (calls : List (Bytes × AdvanceCall)) → Every (λ c. AllBytes c.0) calls
      → OneTrace (joined_traces run (map (λ c. (engine c.0, c.1)) calls))
