-- Request (iii): a trace and its columns give each other back, and no other columns do; an advance writes one trace, within its open moments, and
-- successive advances write one trace. Assumes nothing.
use mathlib.Core.Path.{◌≡◌, subst}
use Prim.Native.Nat.{◌≤◌, ◌<◌}
use mathlib.Core.List.{List}
use lib.ListN.{length}
use Rattle.definition.specs.Bytes.{Bytes, AllBytes, stored}
use Rattle.definition.specs.Pinned.TraceReader.{trace_to_columns, columns_to_trace}
use Rattle.definition.specs.Sound.{Every}
use Rattle.definition.specs.SavedRun.{open_moment}
use Rattle.definition.specs.Instant.{TraceRecord}
use Rattle.definition.specs.Calls.{AdvanceCall, answers, engine}
use Rattle.definition.specs.Columns.{Recorded}
use Rattle.definition.specs.Demands.{written, traced_by}
use Rattle.definition.specs.TracesByColumn.{TracesByColumn}
use Rattle.law_columns.proofs.WholeTraces.{one-reading}
use Rattle.theory.proofs.Spans.{Within, span-recorded}
use Rattle.theory.proofs.ColumnRows.{columns_done, columns-made, trace_done, trace-made}
use Rattle.theory.proofs.Joined.{passes, one_of, joined-traces, advance-traces}

-- ---- there and back, back and there

inverse : (trace out again : Bytes) → AllBytes trace → (trace_to_columns trace out).number ≡ 0 → length trace ≤ length again
    → columns_to_trace (written (trace_to_columns trace out)) again ≡ record { number = 0; written = length trace; buffer = stored trace again }
inverse trace out again b fine = trace_done (written (trace_to_columns trace out)) trace again (columns-made trace out b fine)

only : (columns out again : Bytes) → AllBytes columns → (columns_to_trace columns out).number ≡ 0 → length columns ≤ length again
    → trace_to_columns (written (columns_to_trace columns out)) again ≡ record { number = 0; written = length columns; buffer = stored columns again }
only columns out again b fine = columns_done (written (columns_to_trace columns out)) columns again (trace-made columns out b fine)

-- ---- advances

-- the records that an advance wrote are those that its bytes hold, so that theirs is the span
advance_span : (file run : Bytes) (c : AdvanceCall) → AllBytes file → (rs : List TraceRecord) → Recorded (traced_by (answers (engine file) run c)) rs
    → Every (λ r. (open_moment run ≤ r.moment) × (r.moment < open_moment (answers (engine file) run c).run)) rs
advance_span file run c b rs r =
    let p = passes file run c b in
    let after = open_moment (answers (engine file) run c).run in
    let same = one-reading _ p.new rs (span-recorded (open_moment run) after _ p.new p.bytes p.span) r in
    subst (Within (open_moment run) after) same p.span.within

pub traces-by-column : TracesByColumn
traces-by-column = record {
  there = columns-made;
  back = trace-made;
  inverse = inverse;
  only = only;
  advance_trace = λ file run c b. one_of _ (advance-traces file run c b);
  advance_span = advance_span;
  joined_trace = λ run calls b. one_of _ (joined-traces run calls b);
}
