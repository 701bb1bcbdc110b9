-- A trace rearranged gives its columns and columns give their trace back, so that the one undoes the other; anything else is refused, by 17
-- and by 18. Assumes nothing.
use mathlib.Core.Path.{◌≡◌, sym, ap, subst}
use Prim.Native.Nat.{ℕ}
use Rattle.definition.specs.Bytes.{Bytes, AllBytes, ok, refused}
use Rattle.definition.specs.Instant.{trace_bytes}
use Rattle.definition.specs.Columns.{IsTrace, column_bytes, Rearranges}
use Rattle.definition.specs.Pinned.TraceReader.{trace_of, columns_of, rearranged, restored}
use Rattle.law_base.proofs.Results.{ok_same, bind_ok}
use Rattle.law_columns.proofs.Refusals.{only-bind, only-number}
use Rattle.law_columns.proofs.WholeTraces.{read-trace, write-trace, trace-only}
use Rattle.law_columns.proofs.WholeColumns.{read-columns, write-columns, columns-only}

-- ---- there

pub rearranges-there : (trace columns : Bytes) → AllBytes trace → rearranged trace ≡ ok columns → Rearranges trace columns
unfolding rearranged
rearranges-there trace columns b e =
    let x = bind_ok (trace_of trace) _ columns e in
    record { records = x.0; is_trace_lem = read-trace trace x.0 b x.1; its_columns = sym (ok_same (column_bytes x.0) columns x.2) }

pub there-rearranges : (trace columns : Bytes) → Rearranges trace columns → rearranged trace ≡ ok columns
unfolding rearranged
there-rearranges trace columns h = rw (write-trace trace h.records h.is_trace_lem) (ap ok (sym h.its_columns))

pub none_there : (s : Bytes) (n : ℕ) → rearranged s ≡ refused n → n ≡ 17
unfolding rearranged
none_there s n e = only-number 17 n (rearranged s) (only-bind 17 (trace_of s) (λ rs. ok (column_bytes rs)) (trace-only s) (λ rs. tt)) e

-- ---- and back

pub rearranges-back : (trace columns : Bytes) → AllBytes columns → restored columns ≡ ok trace → Rearranges trace columns
unfolding restored
rearranges-back trace columns b e =
    let x = bind_ok (columns_of columns) _ trace e in
    let r = read-columns columns x.0 b x.1 in
    record {
      records = x.0;
      is_trace_lem = subst (λ s. IsTrace s x.0) (ok_same (trace_bytes x.0) trace x.2) r.1;
      its_columns = r.0;
    }

pub back-rearranges : (trace columns : Bytes) → Rearranges trace columns → restored columns ≡ ok trace
unfolding restored
back-rearranges trace columns h =
    let rs = h.records in
    let whole = h.is_trace_lem.recorded.whole in
    let back = write-columns rs (subst (λ s. IsTrace s rs) whole h.is_trace_lem) in
    rw (h.its_columns, back) (ap ok (sym whole))

pub none-back : (s : Bytes) (n : ℕ) → restored s ≡ refused n → n ≡ 18
unfolding restored
none-back s n e = only-number 18 n (restored s) (only-bind 18 (columns_of s) (λ rs. ok (trace_bytes rs)) (columns-only s) (λ rs. tt)) e
