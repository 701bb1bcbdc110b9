-- A scan by positions is the trace's definition: it refuses what is no trace, and else has counted its records and messages; and as many
-- records as it has, by position from the front, are the trace's. Assumes nothing.
use mathlib.Core.Path.{◌≡◌, refl, sym, ap, ap₂, ◌∙◌, subst}
use Prim.Native.Nat.{ℕ, zero, suc, ◌+◌, ◌*◌, ◌≤◌, ◌<◌}
use mathlib.Core.List.{List, [], ◌∷◌}
use mathlib.Core.Bool.{Bool, true, false, ◌&&◌, ◌||◌, not, cond}
use native.Mathlib.Omega.{arith}
use lib.Dec.{leb, ltb, eqb}
use lib.ListN.{length, drop, length-drop, length-append, drop_of_length-le}
use lib.Seq.{drop-drop}
use borrow.Author.Tests.{ltb-true, ltb-false}
use Rattle.definition.specs.Lists.{concat, all, rises}
use Rattle.definition.specs.Bytes.{Bytes, AllBytes, Result, ok, refused, ◌>>=◌, refuse_if, number_at}
use Rattle.definition.specs.Limits.{message_size, record_head, max_records}
use Rattle.definition.specs.Instant.{TraceRecord}
use Rattle.definition.specs.Columns.{pair_below, record_fits, messages_of}
use Rattle.definition.specs.Pinned.TraceReader.{is_in_order, is_trace, to_record, record_length, trace_records, trace_of}
use Rattle.law_base.proofs.Results.{ok_same, bind_ok, refuse-ok}
use Rattle.law_columns.specs.ByPosition.{Scan, none_yet, pair_next, scan_next, records_by, record_next, scan_from, scanned}
use Rattle.law_columns.proofs.Refusals.{Only}
use Rattle.law_columns.proofs.RecordBytes.{records-more, records-none}
use Rattle.law_columns.proofs.WholeTraces.{records-only}
use Rattle.law_columns.proofs.RecordTests.{ltb-leb, moment-at, step-at, messages-at, length_at, count_at, record-by, test-is}

-- Records that make a trace, behind what a scan carries; and what it carries behind them.
unfoldable pub rises_after : Scan → List TraceRecord → Bool
rises_after c [] = true
rises_after c (r ∷ rs) = pair_next c r.moment r.step && rises_after (scan_next c r.moment r.step (length r.messages)) rs

unfoldable pub scan_over : Scan → List TraceRecord → Scan
scan_over c [] = c
scan_over c (r ∷ rs) = scan_over (scan_next c r.moment r.step (length r.messages)) rs

-- What a scan makes of the records that are there.
abbrev pub judged : Scan → List TraceRecord → Result Scan
judged c rs = refuse_if (not (all record_fits rs && rises_after c rs)) 17 >>= λ _. ok (scan_over c rs)

-- ---- the records from a position on

module _ (s : Bytes) (bytes : AllBytes s) where
  past_end : (turns at : ℕ) (c : Scan) → length s ≤ at → (trace_records turns (drop at s) >>= judged c) ≡ ok c
  unfolding all rises_after scan_over
  past_end turns at c l = rw (drop_of_length-le s l, records-none turns)

  none_left : (at : ℕ) (c : Scan) → at < length s → (trace_records zero (drop at s) >>= judged c) ≡ refused 17
  unfolding trace_records
  none_left at c l = go (drop at s) (let n : 0 < length (drop at s) = omega (arith, length-drop at s) in n)
    where
      go : (h : Bytes) → 0 < length h → (trace_records zero h >>= judged c) ≡ refused 17
      go [] n = absurd (omega arith)
      go (b ∷ h) n = refl

  -- one record, and the rest
  one_more : (c : Scan) (r : TraceRecord) (x : Result (List TraceRecord)) → Only 17 x → (cut fits pair : Bool)
      → record_fits r ≡ fits → pair_next c r.moment r.step ≡ pair
      → (refuse_if (not (not cut && (fits && pair))) 17 >>= λ _. x >>= judged (scan_next c r.moment r.step (length r.messages)))
      ≡ ((refuse_if cut 17 >>= λ _. x >>= λ rs. ok (r ∷ rs)) >>= judged c)
  unfolding all rises_after scan_over
  one_more c r x o true fits pair f p = refl
  one_more c r (refused j) o false true true f p = refl
  one_more c r (refused j) o false true false f p = ap refused (sym o)
  one_more c r (refused j) o false false pair f p = ap refused (sym o)
  one_more c r (ok rs) o false true true f p = rw (f, p)
  one_more c r (ok rs) o false true false f p = rw (f, p) (both (all record_fits rs))
    where
      both : (a : Bool) → refused 17 ≡ (refuse_if (not (a && false)) 17 >>= λ _. ok (scan_over (scan_next c r.moment r.step (length r.messages)) rs))
      both true = refl
      both false = refl
  one_more c r (ok rs) o false false pair f p = rw f

  pub scan-is : (turns at : ℕ) (c : Scan) → scan_from turns at c s ≡ (trace_records turns (drop at s) >>= judged c)
  unfolding scan_from
  scan-is zero at c = go (ltb at (length s)) refl
    where
      go : (t : Bool) → ltb at (length s) ≡ t → (refuse_if t 17 >>= λ _. ok c) ≡ (trace_records zero (drop at s) >>= judged c)
      go true e = sym (none_left at c (ltb-true at (length s) e))
      go false e = sym (past_end zero at c (ltb-false at (length s) e))
  scan-is (suc n) at c = go (ltb at (length s)) refl (λ c'. scan-is n (at + (record_head + number_at 2 (at + 10) s * message_size)) c')
    where
      long : ℕ
      long = record_head + number_at 2 (at + 10) s * message_size

      h : Bytes
      h = drop at s

      r : TraceRecord
      r = to_record (drop at s)

      next : Scan
      next = scan_next c (number_at 8 at s) (number_at 2 (at + 8) s) (number_at 2 (at + 10) s)

      next-is : next ≡ scan_next c r.moment r.step (length r.messages)
      next-is =
          ap₂ (λ (t k : ℕ). scan_next c t k (number_at 2 (at + 10) s)) (sym (moment-at at s)) (sym (step-at at s))
          ∙ ap (scan_next c r.moment r.step) (sym (ap length (messages-at at s) ∙ count_at at s))

      rest-is : drop (at + long) s ≡ drop (record_length h) h
      rest-is = ap (λ i. drop (at + i) s) (sym (length_at at s)) ∙ sym (drop-drop (record_length h) at s)

      go : (t : Bool) → ltb at (length s) ≡ t → ((c' : Scan) → scan_from n (at + long) c' s ≡ (trace_records n (drop (at + long) s) >>= judged c'))
          → cond t (refuse_if (not (record_next c at s)) 17 >>= λ _. scan_from n (at + long) next s) (ok c) ≡ (trace_records (suc n) (drop at s) >>= judged c)
      go false e ih = sym (past_end (suc n) at c (ltb-false at (length s) e))
      go true e ih =
          ap₂ (λ (t : Bool) (x : Result Scan). refuse_if (not t) 17 >>= λ _. x) (test-is c at s bytes)
          (ih next ∙ ap₂ (λ (c' : Scan) (b : Bytes). trace_records n b >>= judged c') next-is rest-is)
          ∙ one_more c r (trace_records n (drop (record_length h) h)) (records-only n (drop (record_length h) h))
          (ltb (length h) (record_length h)) (record_fits r) (pair_next c r.moment r.step) refl refl
          ∙ ap (λ (x : Result (List TraceRecord)). x >>= judged c)
          (sym (records-more n (drop at s) (omega (arith, length-drop at s, ltb-true at (length s) e))))

-- ---- what a scan has carried over the records

after-some : (c : Scan) (r : TraceRecord) (rs : List TraceRecord)
    → rises_after (scan_next c r.moment r.step (length r.messages)) rs ≡ rises pair_below (r ∷ rs)
unfolding rises_after rises pair_next pair_below scan_next
after-some c r [] = refl
after-some c r (q ∷ rs) =
    ap (λ t. (ltb r.moment q.moment || (eqb r.moment q.moment && ltb r.step q.step)) && t)
    (after-some (scan_next c r.moment r.step (length r.messages)) q rs)

pub after_none : (rs : List TraceRecord) → rises_after none_yet rs ≡ rises pair_below rs
unfolding rises_after none_yet pair_next
after_none [] = unfold rises in refl
after_none (r ∷ rs) = after-some none_yet r rs

pub over-records : (c : Scan) (rs : List TraceRecord) → (scan_over c rs).records ≡ c.records + length rs
unfolding scan_over scan_next
over-records c [] = omega arith
over-records c (r ∷ rs) = omega (arith, over-records (scan_next c r.moment r.step (length r.messages)) rs)

pub over-messages : (c : Scan) (rs : List TraceRecord) → (scan_over c rs).messages ≡ c.messages + length (messages_of rs)
unfolding scan_over scan_next messages_of concat
over-messages c [] = omega arith
over-messages c (r ∷ rs) =
    omega (arith, over-messages (scan_next c r.moment r.step (length r.messages)) rs, length-append r.messages (messages_of rs))

-- ---- the whole trace

pub scanned-trace : (s : Bytes) → AllBytes s → scanned s ≡ (trace_of s >>= λ rs. ok (scan_over none_yet rs))
unfolding scanned trace_of is_trace is_in_order
scanned-trace s b = ap (λ (x : Result Scan). x >>= few) (scan-is s b (length s) 0 none_yet) ∙ go (trace_records (length s) s)
  where
    few : Scan → Result Scan
    few c = refuse_if (ltb max_records c.records) 17 >>= λ _. ok c

    tests : (a o l : Bool) (rs : List TraceRecord) → ltb max_records (scan_over none_yet rs).records ≡ not l
        → (refuse_if (not (a && o)) 17 >>= λ _. ok (scan_over none_yet rs)) >>= few
        ≡ ((refuse_if (not (a && o && l)) 17 >>= λ _. ok rs) >>= λ qs. ok (scan_over none_yet qs))
    tests true true true rs e = rw e
    tests true true false rs e = rw e
    tests true false l rs e = refl
    tests false o l rs e = refl

    none : (rs : List TraceRecord) → (scan_over none_yet rs).records ≡ length rs
    none rs = over-records none_yet rs ∙ unfold none_yet in (let q : 0 + length rs ≡ length rs = omega arith in q)

    go : (r : Result (List TraceRecord)) → (r >>= judged none_yet) >>= few
        ≡ ((r >>= λ rs. refuse_if (not (all record_fits rs && rises pair_below rs && leb (length rs) max_records)) 17 >>= λ _. ok rs) >>= λ rs. ok (scan_over none_yet rs))
    go (refused n) = refl
    go (ok rs) =
        rw (after_none rs)
        (tests (all record_fits rs) (rises pair_below rs) (leb (length rs) max_records) rs (ap (ltb max_records) (none rs) ∙ ltb-leb max_records (length rs)))

-- ---- the records by position

records-by : (turns at : ℕ) (s : Bytes) (rs : List TraceRecord) → trace_records turns (drop at s) ≡ ok rs → records_by (length rs) at s ≡ rs
unfolding records_by
records-by zero at s rs e = go (drop at s) e
  where
    go : (h : Bytes) → trace_records zero h ≡ ok rs → records_by (length rs) at s ≡ rs
    go [] e = subst (λ qs. records_by (length qs) at s ≡ qs) (ok_same [] rs (unfold trace_records in e)) (unfold records_by in refl)
    go (b ∷ h) e = absurd (let z : ◌≡◌ {A = ℕ} 0 1 = unfold trace_records in cc in omega arith)
records-by (suc n) at s rs e = go (ltb at (length s)) refl (λ qs. records-by n (at + (record_head + number_at 2 (at + 10) s * message_size)) s qs)
  where
    long : ℕ
    long = record_head + number_at 2 (at + 10) s * message_size

    go : (t : Bool) → ltb at (length s) ≡ t
        → ((qs : List TraceRecord) → trace_records n (drop (at + long) s) ≡ ok qs → records_by (length qs) (at + long) s ≡ qs) → records_by (length rs) at s ≡ rs
    go false f ih =
        let none = sym (records-none (suc n)) ∙ ap (trace_records (suc n)) (sym (drop_of_length-le s (ltb-false at (length s) f))) ∙ e in
        subst (λ qs. records_by (length qs) at s ≡ qs) (ok_same [] rs none) (unfold records_by in refl)
    go true f ih =
        let h = drop at s in
        let m = sym (records-more n h (omega (arith, length-drop at s, ltb-true at (length s) f))) ∙ e in
        let x = refuse-ok (ltb (length h) (record_length h)) 17 _ rs m in
        let y = bind_ok (trace_records n (drop (record_length h) h)) _ rs x.1 in
        let there : drop (record_length h) h ≡ drop (at + long) s = drop-drop (record_length h) at s ∙ ap (λ i. drop (at + i) s) (length_at at s) in
        subst (λ qs. records_by (length qs) at s ≡ qs) (ok_same (to_record h ∷ y.0) rs y.2)
        (unfold records_by in (ap₂ ◌∷◌ (sym (record-by at s)) (ih y.0 (ap (trace_records n) (sym there) ∙ y.1))))

-- What a pass over the trace goes by.
pub trace-by : (s : Bytes) (rs : List TraceRecord) → trace_of s ≡ ok rs → records_by (length rs) 0 s ≡ rs
unfolding trace_of
trace-by s rs e =
    let x = bind_ok (trace_records (length s) s) _ rs e in
    let y = refuse-ok (not (is_trace x.0)) 17 _ rs x.2 in
    records-by (length s) 0 s rs (x.1 ∙ ap ok (ok_same x.0 rs y.1))
