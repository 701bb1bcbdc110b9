-- From what going over a trace found to the outcome of the call. Assumes nothing.
use mathlib.Core.Path.{◌≡◌, sym, ap, ◌∙◌}
use Prim.Native.Nat.{ℕ, ◌+◌, ◌*◌, ◌≤◌, ◌<◌}
use mathlib.Core.List.{List}
use native.Mathlib.Omega.{arith}
use lib.ListN.{length}
use lib.Seq.{sets}
use borrow.Author.Tests.{lt-ltb, le-ltb}
use Rattle.definition.specs.Bytes.{Bytes, AllBytes, ok, refused, ◌>>=◌, bytes_of, stored}
use Rattle.definition.specs.Instant.{TraceRecord}
use Rattle.definition.specs.Engine.{wrote}
use Rattle.definition.specs.Columns.{messages_of, column_bytes}
use Rattle.definition.specs.Pinned.TraceReader.{trace_of, rearranged, trace_to_columns}
use Rattle.law_base.proofs.Results.{ok_same, never-ok, only-refused, bind_ok}
use Rattle.law_columns.specs.ByPosition.{Scan, none_yet, scanned}
use Rattle.law_columns.proofs.WholeTraces.{read-trace, no-trace, length-trace}
use Rattle.law_columns.proofs.ColumnPlaces.{four-longer}
use Rattle.law_columns.proofs.Scanning.{scan_over, over-records, over-messages, scanned-trace, trace-by}
use Rattle.law_columns.proofs.Filling.{columns-put}
use Rattle.columns_forms.specs.Forms.{columns_from, row_messages, into_columns}
use Rattle.columns_forms.proofs.InColumns.{from_start}
use Rattle.columns_forms.proofs.Wholes.{row-messages, into-columns}
use Rattle.columns_scan.specs.Scans.{sizes_of}

-- ---- no trace

no-records : (s : Bytes) → AllBytes s → sizes_of (scanned s) ≡ refused 17 → trace_of s ≡ refused 17
unfolding sizes_of
no-records s b h = only-refused 17 (trace_of s) (λ rs e. never-ok 17 _ (sym h ∙ seen rs e)) (no-trace s)
  where
    seen : (rs : List TraceRecord) → trace_of s ≡ ok rs → sizes_of (scanned s) ≡ sizes_of (ok (scan_over none_yet rs))
    seen rs e = ap sizes_of (scanned-trace s b ∙ ap (λ r. r >>= λ rs. ok (scan_over none_yet rs)) e)

pub there-refused : (s out : Bytes) → AllBytes s → sizes_of (scanned s) ≡ refused 17 → trace_to_columns s out ≡ record { number = 17; written = 0; buffer = out }
unfolding trace_to_columns rearranged wrote
there-refused s out b h = rw (no-records s b h)

-- ---- a trace

-- Its records, as many as were counted.
record Counted (s : Bytes) (n k : ℕ) : Type 0 where
  pub records : List TraceRecord
  pub read : trace_of s ≡ ok records
  pub number : n ≡ length records
  pub messages : k ≡ length (messages_of records)

counted : (s : Bytes) (n k : ℕ) → AllBytes s → sizes_of (scanned s) ≡ ok (n, k) → Counted s n k
unfolding sizes_of none_yet
counted s n k b h =
    let x = bind_ok (scanned s) (λ c. ok (c.records, c.messages)) (n, k) h in
    let c = x.0 in
    let y = bind_ok (trace_of s) (λ rs. ok (scan_over none_yet rs)) c (sym (scanned-trace s b) ∙ x.1) in
    let rs = y.0 in
    let same = ok_same (scan_over none_yet rs) c y.2 in
    let pair = ok_same (c.records, c.messages) (n, k) x.2 in
    let number : n ≡ length rs = sym (ap (λ p. p.0) pair) ∙ sym (ap (λ (z : Scan). z.records) same) ∙ omega (arith, over-records none_yet rs) in
    let messages : k ≡ length (messages_of rs) = sym (ap (λ p. p.1) pair) ∙ sym (ap (λ (z : Scan). z.messages) same) ∙ omega (arith, over-messages none_yet rs) in
    record { records = rs; read = y.1; number = number; messages = messages }

filled : (s out : Bytes) (n k : ℕ) (rs : List TraceRecord) → trace_of s ≡ ok rs → n ≡ length rs → k ≡ length (messages_of rs) → length (column_bytes rs) ≤ length out
    → into_columns n 0 (columns_from n k) s (sets out 0 (bytes_of 4 n)) ≡ stored (column_bytes rs) out
filled s out n k rs read e f l =
    ap (λ at. into_columns n 0 at s (sets out 0 (bytes_of 4 n))) (from_start n k)
    ∙ into-columns n k n 0 0 0 s (sets out 0 (bytes_of 4 n))
    ∙ rw (e, f, trace-by s rs read) (columns-put rs out l)

module _ (s : Bytes) (n k : ℕ) (b : AllBytes s) (h : sizes_of (scanned s) ≡ ok (n, k)) where
  abbrev all : Counted s n k
  all = counted s n k b h

  -- How long the trace is, and how many messages the loop over it meets.
  pub trace-size : length s ≡ 12 * n + 3 * k
  trace-size =
      let z : Counted s n k = counted s n k b h in
      ap length (read-trace s z.records b z.read).recorded.whole ∙ omega (arith, length-trace z.records, z.number, z.messages)

  pub trace-messages : row_messages n 0 s ≡ k
  trace-messages =
      let z : Counted s n k = counted s n k b h in
      ap (λ i. row_messages i 0 s) z.number ∙ row-messages (length z.records) 0 s ∙ ap (λ rs. length (messages_of rs)) (trace-by s z.records z.read) ∙ sym z.messages

  columns-long : length (column_bytes all.records) ≡ length s + 4
  columns-long = four-longer all.records ∙ ap (λ t. length t + 4) (sym (read-trace s all.records b all.read).recorded.whole)

  module _ (out : Bytes) where
    pub there-short : length out < length s + 4 → trace_to_columns s out ≡ record { number = 15; written = 0; buffer = out }
    unfolding trace_to_columns rearranged wrote
    there-short l = rw (all.read, lt-ltb (length out) (length (column_bytes all.records)) (omega (arith, columns-long)))

    pub there-done : length s + 4 ≤ length out
        → trace_to_columns s out ≡ record { number = 0; written = length s + 4; buffer = into_columns n 0 (columns_from n k) s (sets out 0 (bytes_of 4 n)) }
    unfolding trace_to_columns rearranged wrote
    there-done l =
        rw (
          all.read,
          le-ltb (length out) (length (column_bytes all.records)) (omega (arith, columns-long)),
          columns-long,
          filled s out n k all.records all.read all.number all.messages (omega (arith, columns-long)),
        )
