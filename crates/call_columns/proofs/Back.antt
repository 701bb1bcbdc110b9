-- From what going over columns found to the outcome of the call. Assumes nothing.
use mathlib.Core.Path.{◌≡◌, sym, ap, ◌∙◌}
use Prim.Native.Nat.{ℕ, ◌+◌, ◌*◌, ◌-◌, ◌≤◌, ◌<◌}
use mathlib.Core.List.{List}
use mathlib.Core.Bool.{not}
use native.Mathlib.Omega.{arith}
use lib.Dec.{ltb, eqb}
use lib.ListN.{length}
use borrow.Author.Tests.{eqb-true, not-false, lt-ltb, le-ltb}
use Rattle.definition.specs.Bytes.{Bytes, AllBytes, ok, refused, ◌>>=◌, stored}
use Rattle.definition.specs.Instant.{TraceRecord, trace_bytes}
use Rattle.definition.specs.Engine.{wrote}
use Rattle.definition.specs.Pinned.TraceReader.{record_count, messages_in, is_trace, column_records, columns_of, restored, columns_to_trace}
use Rattle.law_base.proofs.Results.{ok_same, never-ok, only-refused, bind_ok, refuse-ok}
use Rattle.law_columns.specs.ByPosition.{columns_scanned, records_at}
use Rattle.law_columns.proofs.WholeColumns.{read-columns, no-columns}
use Rattle.law_columns.proofs.ColumnPlaces.{four-longer}
use Rattle.law_columns.proofs.Positions.{counted, total-at, columns-at, columns-scanned}
use Rattle.law_columns.proofs.Filling.{trace-put}
use Rattle.columns_forms.specs.Forms.{columns_from, counts_by, into_row}
use Rattle.columns_forms.proofs.InColumns.{from_start, counts-by}
use Rattle.columns_forms.proofs.Wholes.{into-row}

-- ---- no columns

no-records : (s : Bytes) → AllBytes s → columns_scanned s ≡ refused 18 → columns_of s ≡ refused 18
no-records s b h = only-refused 18 (columns_of s) (λ rs e. never-ok 18 _ (sym h ∙ columns-scanned s b ∙ ap (λ r. r >>= counted s) e)) (no-columns s)

pub back-refused : (s out : Bytes) → AllBytes s → columns_scanned s ≡ refused 18 → columns_to_trace s out ≡ record { number = 18; written = 0; buffer = out }
unfolding columns_to_trace restored wrote
back-refused s out b h = rw (no-records s b h)

-- ---- columns of a trace

-- Their records, and the numbers that they begin with and have.
record Counted (s : Bytes) (n k : ℕ) : Type 0 where
  pub records : List TraceRecord
  pub read : columns_of s ≡ ok records
  pub number : n ≡ record_count s
  pub messages : k ≡ messages_in s

counts : (s : Bytes) (n k : ℕ) → AllBytes s → columns_scanned s ≡ ok (n, k) → Counted s n k
counts s n k b h =
    let x = bind_ok (columns_of s) (counted s) (n, k) (sym (columns-scanned s b) ∙ h) in
    let pair = ok_same (record_count s, messages_in s) (n, k) x.2 in
    record { records = x.0; read = x.1; number = sym (ap (λ p. p.0) pair); messages = sym (ap (λ p. p.1) pair) }

-- The tests that columns with records have passed.
lengths : (s : Bytes) (rs : List TraceRecord) → columns_of s ≡ ok rs → (length s ≡ 4 + 12 * record_count s + 3 * messages_in s) × (column_records s ≡ rs)
unfolding columns_of
lengths s rs e =
    let a = refuse-ok (ltb (length s) (4 + 12 * record_count s)) 18 _ rs e in
    let c = refuse-ok (not (eqb (length s) (4 + 12 * record_count s + 3 * messages_in s))) 18 _ rs a.1 in
    let d = refuse-ok (not (is_trace (column_records s))) 18 _ rs c.1 in
    (eqb-true (length s) (4 + 12 * record_count s + 3 * messages_in s) (not-false _ c.0), ok_same (column_records s) rs d.1)

filled : (s out : Bytes) (n k : ℕ) (rs : List TraceRecord) → columns_of s ≡ ok rs → n ≡ record_count s → k ≡ messages_in s → length (trace_bytes rs) ≤ length out
    → into_row n (columns_from n k) 0 s out ≡ stored (trace_bytes rs) out
filled s out n k rs read e f l =
    let them : records_at n k s n 0 0 ≡ rs = rw (e, f) (sym (columns-at s) ∙ (lengths s rs read).1) in
    ap (λ at. into_row n at 0 s out) (from_start n k) ∙ into-row n k n 0 0 0 s out ∙ rw them (trace-put rs out l)

module _ (s : Bytes) (n k : ℕ) (b : AllBytes s) (h : columns_scanned s ≡ ok (n, k)) where
  abbrev all : Counted s n k
  all = counts s n k b h

  -- How long the columns are, and how many messages a loop over them meets.
  pub columns-size : length s ≡ 4 + 12 * n + 3 * k
  columns-size = let z : Counted s n k = counts s n k b h in omega (arith, (lengths s z.records z.read).0, z.number, z.messages)

  pub columns-messages : counts_by n (4 + 10 * n) s ≡ k
  columns-messages =
      let z : Counted s n k = counts s n k b h in
      sym (counts-by n s n 0 (4 + 10 * n) (omega arith)) ∙ rw (z.number, z.messages) (sym (total-at s))

  trace-long : length (trace_bytes all.records) ≡ length s - 4
  trace-long = omega (arith, four-longer all.records, ap length (read-columns s all.records b all.read).0)

  module _ (out : Bytes) where
    pub back-short : length out < length s - 4 → columns_to_trace s out ≡ record { number = 15; written = 0; buffer = out }
    unfolding columns_to_trace restored wrote
    back-short l = rw (all.read, lt-ltb (length out) (length (trace_bytes all.records)) (omega (arith, trace-long)))

    pub back_done : length s - 4 ≤ length out → columns_to_trace s out ≡ record { number = 0; written = length s - 4; buffer = into_row n (columns_from n k) 0 s out }
    unfolding columns_to_trace restored wrote
    back_done l = rw (
      all.read,
      le-ltb (length out) (length (trace_bytes all.records)) (omega (arith, trace-long)),
      trace-long,
      filled s out n k all.records all.read all.number all.messages (omega (arith, trace-long)),
    )
