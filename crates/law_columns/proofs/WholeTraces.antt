-- A trace is the bytes of its records: what is read of bytes is the records that make them, what makes a trace is read back, and the
-- records are the only ones that do. Assumes nothing.
use mathlib.Core.Path.{◌≡◌, refl, sym, ap, ◌∙◌, subst}
use Prim.Native.Nat.{ℕ, zero, suc, ◌+◌, ◌*◌}
use mathlib.Core.List.{List, [], ◌∷◌}
use mathlib.Core.Bool.{true, not}
use native.Mathlib.Omega.{arith}
use lib.Dec.{leb, ltb}
use lib.ListN.{length, drop, length-append}
use borrow.Author.Tests.{leb-true, le-leb, not-false}
use Rattle.definition.specs.Lists.{concat, all, rises}
use Rattle.definition.specs.Bytes.{Bytes, AllBytes, ok, refused, ◌>>=◌, refuse_if}
use Rattle.definition.specs.Limits.{max_records}
use Rattle.definition.specs.Sound.{Every}
use Rattle.definition.specs.Instant.{TraceRecord, record_bytes, trace_bytes}
use Rattle.definition.specs.Columns.{pair_below, record_fits, RecordHeld, Recorded, IsTrace, messages_of}
use Rattle.definition.specs.Pinned.TraceReader.{is_in_order, is_trace, to_record, record_length, trace_records, trace_of}
use Rattle.law_base.proofs.Tests.{and_left, and_right, and-true}
use Rattle.law_base.proofs.Results.{ok_same, bind_ok, refuse-ok}
use Rattle.law_text.proofs.Records.{record_length_lem}
use Rattle.law_columns.proofs.Refusals.{Only, only_if, only-bind, only-number}
use Rattle.law_columns.proofs.RecordBytes.{records-back, records-written}

-- ---- what the reader's test says

pub tested-trace : (s : Bytes) (rs : List TraceRecord) → s ≡ trace_bytes rs → Every RecordHeld rs → is_trace rs ≡ true → IsTrace s rs
unfolding is_trace is_in_order
tested-trace s rs e h t =
    let order = and_left (is_in_order rs) _ t in
    record {
      recorded = record { whole = e; held = h; records = and_left (all record_fits rs) _ order; pairs = and_right (all record_fits rs) _ order };
      few = leb-true (length rs) max_records (and_right (is_in_order rs) _ t);
    }

pub trace-tested : (s : Bytes) (rs : List TraceRecord) → IsTrace s rs → is_trace rs ≡ true
unfolding is_trace is_in_order
trace-tested s rs h =
    and-true (is_in_order rs) (leb (length rs) max_records) (and-true (all record_fits rs) (rises pair_below rs) h.recorded.records h.recorded.pairs)
    (le-leb (length rs) max_records h.few)

-- ---- reading and writing are inverse

pub read-trace : (s : Bytes) (rs : List TraceRecord) → AllBytes s → trace_of s ≡ ok rs → IsTrace s rs
unfolding trace_of
read-trace s rs b e =
    let x = bind_ok (trace_records (length s) s) _ rs e in
    let y = refuse-ok (not (is_trace x.0)) 17 _ rs x.2 in
    let w = records-written (length s) s x.0 b x.1 in
    subst (IsTrace s) (ok_same x.0 rs y.1) (tested-trace s x.0 (sym w.0) w.1 (not-false (is_trace x.0) y.0))

reads-back : (s : Bytes) (rs : List TraceRecord) → s ≡ trace_bytes rs → Every RecordHeld rs → trace_records (length s) s ≡ ok rs
reads-back s rs e h = ap (λ t. trace_records (length t) t) e ∙ records-back (length (trace_bytes rs)) rs h (omega arith)

pub write-trace : (s : Bytes) (rs : List TraceRecord) → IsTrace s rs → trace_of s ≡ ok rs
unfolding trace_of
write-trace s rs h = rw (reads-back s rs h.recorded.whole h.recorded.held, trace-tested s rs h)

-- However many records there are, no others are held by the same bytes.
pub one-reading : (s : Bytes) (rs qs : List TraceRecord) → Recorded s rs → Recorded s qs → rs ≡ qs
one-reading s rs qs h k = ok_same rs qs (sym (reads-back s rs h.whole h.held) ∙ reads-back s qs k.whole k.held)

-- ---- the number of a refusal

pub records-only : (turns : ℕ) (s : Bytes) → Only 17 (trace_records turns s)
unfolding trace_records
records-only zero [] = tt
records-only zero (b ∷ s) = refl
records-only (suc n) [] = tt
records-only (suc n) (b ∷ s) =
    let l = record_length (b ∷ s) in
    only_if (ltb (length (b ∷ s)) l) 17 _
    (only-bind 17 (trace_records n (drop l (b ∷ s))) (λ rs. ok (to_record (b ∷ s) ∷ rs)) (records-only n (drop l (b ∷ s))) (λ rs. tt))

pub trace-only : (s : Bytes) → Only 17 (trace_of s)
unfolding trace_of
trace-only s =
    only-bind 17 (trace_records (length s) s) (λ rs. refuse_if (not (is_trace rs)) 17 >>= λ _. ok rs) (records-only (length s) s)
    (λ rs. only_if (not (is_trace rs)) 17 (λ _. ok rs) tt)

pub no-trace : (s : Bytes) (n : ℕ) → trace_of s ≡ refused n → n ≡ 17
no-trace s n e = only-number 17 n (trace_of s) (trace-only s) e

-- ---- lengths

pub length-trace : (rs : List TraceRecord) → length (trace_bytes rs) ≡ 12 * length rs + 3 * length (messages_of rs)
unfolding trace_bytes messages_of concat
length-trace [] = refl
length-trace (r ∷ rs) =
    omega (arith, length-trace rs, record_length_lem r, length-append (record_bytes r) (trace_bytes rs), length-append r.messages (messages_of rs))
