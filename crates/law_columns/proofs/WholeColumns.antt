-- All columns of a trace together: what is read of bytes is the records whose columns they are, and the columns of a trace are read back.
-- Assumes nothing.
use mathlib.Core.Path.{◌≡◌, refl, sym, ap, ap₂, ◌∙◌, subst}
use Prim.Native.Nat.{ℕ, ◌+◌, ◌*◌, ◌^◌, ◌≤◌, ◌<◌}
use mathlib.Core.List.{List, [], ◌∷◌, ◌++◌, map, append_assoc, append-nil}
use mathlib.Core.Bool.{true, not}
use native.Mathlib.Omega.{arith}
use lib.Dec.{ltb, eqb}
use lib.ListN.{length, take, drop, length-map}
use lib.Seq.{take-add, take_all}
use borrow.Author.Tests.{le-ltb, eq-eqb, eqb-true, not-false}
use Rattle.definition.specs.Lists.{concat, sum}
use Rattle.definition.specs.Bytes.{Bytes, AllBytes, ok, refused, number_at, bytes_of}
use Rattle.definition.specs.Limits.{max_records}
use Rattle.definition.specs.Records.{message_layout}
use Rattle.definition.specs.Sound.{Held, Every}
use Rattle.definition.specs.Instant.{TraceRecord, trace_bytes}
use Rattle.definition.specs.Columns.{RecordHeld, IsTrace, column, messages_of, column_bytes}
use Rattle.definition.specs.Pinned.TraceReader.{is_trace, numbers_at, messages_from, record_count, counts_in, messages_in, column_records, columns_of}
use Rattle.law_base.proofs.Results.{ok_same, refuse-ok}
use Rattle.law_model.proofs.Codec.{length-bytes, number-front, number-written}
use Rattle.law_columns.proofs.Refusals.{Only, only_if, only-number}
use Rattle.law_base.proofs.Everys.{every_append, every-if}
use Rattle.law_columns.proofs.RecordBytes.{moment-held, step-held, count_held, bag-held}
use Rattle.law_columns.proofs.WholeTraces.{tested-trace, trace-tested}
use Rattle.law_columns.proofs.ColumnBytes.{column-map, column-back, column-written, length-numbers, numbers-small, sum-counts}
use Rattle.law_columns.proofs.ColumnBytes.{paired-back, paired-ports, paired-values, paired-held, dealt_back, dealt-moments, dealt-steps, dealt-counts, dealt-messages, dealt-held}
use Rattle.law_columns.proofs.ColumnPlaces.{head_of, moments_of, steps_of, counts_of, ports_of, values_of, before-steps, before-counts, before-ports, before-values, length-columns}

-- ---- written, and read back

messages-held : (rs : List TraceRecord) → Every RecordHeld rs → Every (λ x. Held (message_layout x)) (messages_of rs)
unfolding messages_of concat
messages-held [] h = tt
messages-held (r ∷ rs) h = every_append (λ x. Held (message_layout x)) r.messages (messages_of rs) (bag-held r h.0) (messages-held rs h.1)

module _ (rs : List TraceRecord) where
  -- the columns as a front, one column, and the others
  at-moments : column_bytes rs ≡ head_of rs ++ (moments_of rs ++ (steps_of rs ++ (counts_of rs ++ (ports_of rs ++ values_of rs))))
  unfolding column_bytes
  at-moments = simp append_assoc

  at-steps : column_bytes rs ≡ head_of rs ++ moments_of rs ++ (steps_of rs ++ (counts_of rs ++ (ports_of rs ++ values_of rs)))
  unfolding column_bytes
  at-steps = simp append_assoc

  at-counts : column_bytes rs ≡ head_of rs ++ moments_of rs ++ steps_of rs ++ (counts_of rs ++ (ports_of rs ++ values_of rs))
  unfolding column_bytes
  at-counts = simp append_assoc

  at-ports : column_bytes rs ≡ head_of rs ++ moments_of rs ++ steps_of rs ++ counts_of rs ++ (ports_of rs ++ values_of rs)
  unfolding column_bytes
  at-ports = simp append_assoc

  at-values : column_bytes rs ≡ head_of rs ++ moments_of rs ++ steps_of rs ++ counts_of rs ++ ports_of rs ++ (values_of rs ++ [])
  unfolding column_bytes
  at-values = rw append-nil

  module _ (h : Every RecordHeld rs) (few : length rs ≤ max_records) where
    abbrev k : ℕ
    k = length (messages_of rs)

    count-back : record_count (column_bytes rs) ≡ length rs
    unfolding record_count
    count-back = ap (number_at 4 0) at-moments ∙ number-front 4 (length rs) _ (omega arith)

    counts-back : counts_in (column_bytes rs) ≡ map (λ r. length r.messages) rs
    unfolding counts_in
    counts-back =
        ap (λ n. numbers_at 2 n (4 + 10 * n) (column_bytes rs)) count-back ∙ ap (numbers_at 2 (length rs) (4 + 10 * length rs)) at-counts
        ∙ column-back 2 (λ r. length r.messages) rs (head_of rs ++ moments_of rs ++ steps_of rs) (ports_of rs ++ values_of rs) (4 + 10 * length rs) (before-counts rs)
        (every-if RecordHeld (λ r. length r.messages < 256 ^ 2) count_held rs h)

    total-back : messages_in (column_bytes rs) ≡ k
    unfolding messages_in
    total-back = ap sum counts-back ∙ sum-counts rs

    moments-back : numbers_at 8 (length rs) 4 (column_bytes rs) ≡ map (λ r. r.moment) rs
    moments-back =
        ap (numbers_at 8 (length rs) 4) at-moments
        ∙ column-back 8 (λ r. r.moment) rs (head_of rs) (steps_of rs ++ (counts_of rs ++ (ports_of rs ++ values_of rs))) 4 (length-bytes 4 (length rs))
        (every-if RecordHeld (λ r. r.moment < 256 ^ 8) moment-held rs h)

    steps_back : numbers_at 2 (length rs) (4 + 8 * length rs) (column_bytes rs) ≡ map (λ r. r.step) rs
    steps_back =
        ap (numbers_at 2 (length rs) (4 + 8 * length rs)) at-steps
        ∙ column-back 2 (λ r. r.step) rs (head_of rs ++ moments_of rs) (counts_of rs ++ (ports_of rs ++ values_of rs)) (4 + 8 * length rs) (before-steps rs)
        (every-if RecordHeld (λ r. r.step < 256 ^ 2) step-held rs h)

    ports-back : numbers_at 1 k (4 + 12 * length rs) (column_bytes rs) ≡ map (λ x. x.port) (messages_of rs)
    ports-back =
        ap (numbers_at 1 k (4 + 12 * length rs)) at-ports
        ∙ column-back 1 (λ x. x.port) (messages_of rs) (head_of rs ++ moments_of rs ++ steps_of rs ++ counts_of rs) (values_of rs) (4 + 12 * length rs) (before-ports rs)
        (every-if (λ x. Held (message_layout x)) (λ x. x.port < 256 ^ 1) (λ x f. f.0) (messages_of rs) (messages-held rs h))

    values-back : numbers_at 2 k (4 + 12 * length rs + k) (column_bytes rs) ≡ map (λ x. x.value) (messages_of rs)
    values-back =
        ap (numbers_at 2 k (4 + 12 * length rs + k)) at-values
        ∙ column-back 2 (λ x. x.value) (messages_of rs) (head_of rs ++ moments_of rs ++ steps_of rs ++ counts_of rs ++ ports_of rs) [] (4 + 12 * length rs + k) (before-values rs)
        (every-if (λ x. Held (message_layout x)) (λ x. x.value < 256 ^ 2) (λ x f. f.1.0) (messages_of rs) (messages-held rs h))

    records-back : column_records (column_bytes rs) ≡ rs
    unfolding column_records
    records-back =
        rw (count-back, total-back, counts-back, moments-back, steps_back, ports-back, values-back, paired-back (messages_of rs)) (dealt_back rs)

    columns-back : is_trace rs ≡ true → columns_of (column_bytes rs) ≡ ok rs
    unfolding columns_of
    columns-back t =
        let l = length-columns rs in
        rw (
          count-back,
          total-back,
          records-back,
          t,
          le-ltb (length (column_bytes rs)) (4 + 12 * length rs) (omega arith),
          eq-eqb (length (column_bytes rs)) (4 + 12 * length rs + 3 * k) l,
        )

pub write-columns : (rs : List TraceRecord) → IsTrace (trace_bytes rs) rs → columns_of (column_bytes rs) ≡ ok rs
write-columns rs h = columns-back rs h.recorded.held h.few (trace-tested (trace_bytes rs) rs h)

-- ---- read, and written as it stood

module _ {s : Bytes} (h : AllBytes s) (long : length s ≡ 4 + 12 * record_count s + 3 * messages_in s) where
  abbrev n : ℕ
  n = record_count s

  abbrev m : ℕ
  m = messages_in s

  abbrev ts : List ℕ
  ts = numbers_at 8 n 4 s

  abbrev ks : List ℕ
  ks = numbers_at 2 n (4 + 8 * n) s

  abbrev ps : List ℕ
  ps = numbers_at 1 m (4 + 12 * n) s

  abbrev vs : List ℕ
  vs = numbers_at 2 m (4 + 12 * n + m) s

  same-steps : length ks ≡ length ts
  same-steps = length-numbers 2 n (4 + 8 * n) s ∙ sym (length-numbers 8 n 4 s)

  same-counts : length (counts_in s) ≡ length ts
  unfolding counts_in
  same-counts = length-numbers 2 n (4 + 10 * n) s ∙ sym (length-numbers 8 n 4 s)

  same-values : length ps ≡ length vs
  same-values = length-numbers 1 m (4 + 12 * n) s ∙ sym (length-numbers 2 m (4 + 12 * n + m) s)

  total : length (messages_from ps vs) ≡ sum (counts_in s)
  unfolding messages_in
  total = sym (length-map (messages_from ps vs) (λ x. x.port)) ∙ ap length (paired-ports ps vs same-values) ∙ length-numbers 1 m (4 + 12 * n) s

  columns-held : Every RecordHeld (column_records s)
  unfolding column_records counts_in
  columns-held =
      dealt-held ts ks (counts_in s) (messages_from ps vs) (numbers-small 8 n 4 h) (numbers-small 2 n (4 + 8 * n) h) (numbers-small 2 n (4 + 10 * n) h)
      (paired-held ps vs (numbers-small 1 m (4 + 12 * n) h) (numbers-small 2 m (4 + 12 * n + m) h))

  abbrev rs : List TraceRecord
  rs = column_records s

  own-moments : map (λ r. r.moment) rs ≡ ts
  unfolding column_records
  own-moments = dealt-moments ts ks (counts_in s) (messages_from ps vs) same-steps same-counts

  own-messages : messages_of rs ≡ messages_from ps vs
  unfolding column_records
  own-messages = dealt-messages ts ks (counts_in s) (messages_from ps vs) same-steps same-counts total

  -- a column at a place that is written in another way
  as-stood : (w c a b : ℕ) → a + c * w ≤ length s → a ≡ b → column w (λ v. v) (numbers_at w c a s) ≡ take (c * w) (drop b s)
  as-stood w c a b l e = column-written w c a l h ∙ ap (λ i. take (c * w) (drop i s)) e

  wrote_count : bytes_of 4 (length rs) ≡ take 4 s
  unfolding record_count
  wrote_count = ap (bytes_of 4) (sym (length-map rs (λ r. r.moment)) ∙ ap length own-moments ∙ length-numbers 8 n 4 s) ∙ number-written 4 0 (omega arith) h

  wrote-moments : column 8 (λ r. r.moment) rs ≡ take (n * 8) (drop 4 s)
  wrote-moments = column-map 8 (λ r. r.moment) rs ∙ ap (column 8 (λ v. v)) own-moments ∙ column-written 8 n 4 (omega arith) h

  wrote-steps : column 2 (λ r. r.step) rs ≡ take (n * 2) (drop (4 + n * 8) s)
  unfolding column_records
  wrote-steps =
      column-map 2 (λ r. r.step) rs ∙ ap (column 2 (λ v. v)) (dealt-steps ts ks (counts_in s) (messages_from ps vs) same-steps same-counts)
      ∙ as-stood 2 n (4 + 8 * n) (4 + n * 8) (omega arith) (omega arith)

  wrote-counts : column 2 (λ r. length r.messages) rs ≡ take (n * 2) (drop (4 + n * 8 + n * 2) s)
  unfolding column_records counts_in
  wrote-counts =
      column-map 2 (λ r. length r.messages) rs
      ∙ ap (column 2 (λ v. v)) (dealt-counts ts ks (counts_in s) (messages_from ps vs) same-steps same-counts total)
      ∙ as-stood 2 n (4 + 10 * n) (4 + n * 8 + n * 2) (omega arith) (omega arith)

  wrote-ports : column 1 (λ x. x.port) (messages_of rs) ≡ take (m * 1) (drop (4 + n * 8 + n * 2 + n * 2) s)
  wrote-ports =
      column-map 1 (λ x. x.port) (messages_of rs) ∙ ap (λ xs. column 1 (λ v. v) (map (λ x. x.port) xs)) own-messages
      ∙ ap (column 1 (λ v. v)) (paired-ports ps vs same-values) ∙ as-stood 1 m (4 + 12 * n) (4 + n * 8 + n * 2 + n * 2) (omega arith) (omega arith)

  wrote-values : column 2 (λ x. x.value) (messages_of rs) ≡ take (m * 2) (drop (4 + n * 8 + n * 2 + n * 2 + m * 1) s)
  wrote-values =
      column-map 2 (λ x. x.value) (messages_of rs) ∙ ap (λ xs. column 2 (λ v. v) (map (λ x. x.value) xs)) own-messages
      ∙ ap (column 2 (λ v. v)) (paired-values ps vs same-values)
      ∙ as-stood 2 m (4 + 12 * n + m) (4 + n * 8 + n * 2 + n * 2 + m * 1) (omega arith) (omega arith)

  columns-written : column_bytes (column_records s) ≡ s
  unfolding column_bytes
  columns-written =
      ap₂ ◌++◌ (ap₂ ◌++◌ (ap₂ ◌++◌ (ap₂ ◌++◌ (ap₂ ◌++◌ wrote_count wrote-moments ∙ sym (take-add 4 (n * 8) s)) wrote-steps ∙ sym (take-add (4 + n * 8) (n * 2) s))
      wrote-counts ∙ sym (take-add (4 + n * 8 + n * 2) (n * 2) s)) wrote-ports ∙ sym (take-add (4 + n * 8 + n * 2 + n * 2) (m * 1) s))
      wrote-values ∙ sym (take-add (4 + n * 8 + n * 2 + n * 2 + m * 1) (m * 2) s)
      ∙ take_all (4 + n * 8 + n * 2 + n * 2 + m * 1 + m * 2) s (omega arith)

pub read-columns : (s : Bytes) (rs : List TraceRecord) → AllBytes s → columns_of s ≡ ok rs → (s ≡ column_bytes rs) × IsTrace (trace_bytes rs) rs
unfolding columns_of
read-columns s rs b e =
    let qs = column_records s in
    let x = refuse-ok (ltb (length s) (4 + 12 * record_count s)) 18 _ rs e in
    let y = refuse-ok (not (eqb (length s) (4 + 12 * record_count s + 3 * messages_in s))) 18 _ rs x.1 in
    let z = refuse-ok (not (is_trace qs)) 18 _ rs y.1 in
    let long = eqb-true (length s) (4 + 12 * record_count s + 3 * messages_in s) (not-false _ y.0) in
    subst (λ qs. (s ≡ column_bytes qs) × IsTrace (trace_bytes qs) qs) (ok_same qs rs z.1)
    (sym (columns-written b long), tested-trace (trace_bytes qs) qs refl (columns-held b long) (not-false _ z.0))

-- ---- the number of a refusal

pub columns-only : (s : Bytes) → Only 18 (columns_of s)
unfolding columns_of
columns-only s =
    only_if (ltb (length s) (4 + 12 * record_count s)) 18 _
    (only_if (not (eqb (length s) (4 + 12 * record_count s + 3 * messages_in s))) 18 _
    (only_if (not (is_trace (column_records s))) 18 (λ _. ok (column_records s)) tt))

pub no-columns : (s : Bytes) (n : ℕ) → columns_of s ≡ refused n → n ≡ 18
no-columns s n e = only-number 18 n (columns_of s) (columns-only s) e
