-- A trace's records in bytes: records written in a row are read back, and bytes read as records are written as they stood. Assumes nothing.
use mathlib.Core.Path.{◌≡◌, refl, sym, ap, ap₂, ◌∙◌, subst}
use Prim.Native.Nat.{ℕ, zero, suc, ◌+◌, ◌*◌, ◌^◌, ◌≤◌, ◌<◌}
use mathlib.Core.List.{List, [], ◌∷◌, ◌++◌, map, map-map, append_assoc}
use native.Mathlib.Omega.{arith}
use lib.Dec.{ltb}
use lib.ListN.{length, take, drop, length-append, length-drop, length-map, take-append-drop}
use lib.Seq.{drop_at, take-add}
use borrow.Author.Tests.{ltb-false, le-ltb}
use Rattle.definition.specs.Lists.{concat}
use Rattle.definition.specs.Bytes.{Bytes, AllBytes, ok, ◌>>=◌, refuse_if, number_at, bytes_of, chunks}
use Rattle.definition.specs.Limits.{message_size, record_head}
use Rattle.definition.specs.Model.{Message, Bag}
use Rattle.definition.specs.Records.{message_at, message_layout, message_bytes}
use Rattle.definition.specs.Sound.{Held, Every}
use Rattle.definition.specs.Instant.{TraceRecord, record_bytes, trace_bytes}
use Rattle.definition.specs.Columns.{RecordHeld}
use Rattle.definition.specs.Pinned.TraceReader.{to_record, record_length, trace_records}
use Rattle.law_base.proofs.Results.{ok_same, bind_ok, refuse-ok}
use Rattle.law_model.proofs.Codec.{drop-bytes, length-bytes, number-front, number_behind, number-written, rows_back, length-chunks}
use Rattle.law_model.proofs.Layouts.{record-size}
use Rattle.law_model.proofs.Rows.{rows-held, rows_written, each_back}
use Rattle.law_model.proofs.Spellings.{message-spelled}
use Rattle.law_text.proofs.Records.{number_small, record_length_lem}

-- ---- messages

message-size : (x : Message) → length (message_bytes x) ≡ message_size
unfolding message_bytes
message-size x = record-size message-spelled x

messages-back : (xs : Bag) → Every (λ x. Held (message_layout x)) xs → map (message_at 0) (map message_bytes xs) ≡ xs
unfolding message_bytes
messages-back xs h = map-map (message_at 0) message_bytes xs ∙ each_back message-spelled xs h

messages-written : (n : ℕ) {s : Bytes} → n * message_size ≤ length s → AllBytes s
    → concat (map message_bytes (map (message_at 0) (chunks n message_size s))) ≡ take (n * message_size) s
unfolding message_bytes
messages-written n l h = rows_written message-spelled n l h

-- ---- a record written, and read back

-- The numbers of a record are those that its bytes hold.
module _ (r : TraceRecord) (h : RecordHeld r) where
  pub moment-held : r.moment < 256 ^ 8
  moment-held = h.0.0

  pub step-held : r.step < 256 ^ 2
  step-held = h.0.1.0

  pub count_held : length r.messages < 256 ^ 2
  count_held = h.0.1.1.0

  pub bag-held : Every (λ x. Held (message_layout x)) r.messages
  bag-held = h.1

module _ (r : TraceRecord) (rest : Bytes) where
  abbrev m : Bytes
  m = bytes_of 8 r.moment

  abbrev k : Bytes
  k = bytes_of 2 r.step

  abbrev n : Bytes
  n = bytes_of 2 (length r.messages)

  abbrev body : Bytes
  body = concat (map message_bytes r.messages) ++ rest

  shape : record_bytes r ++ rest ≡ m ++ (k ++ (n ++ body))
  unfolding record_bytes
  shape = simp append_assoc

  two : length (m ++ k) ≡ 10
  two = length-append m k ∙ ap₂ ◌+◌ (length-bytes 8 r.moment) (length-bytes 2 r.step)

  three : length (m ++ k ++ n) ≡ record_head
  three = length-append (m ++ k) n ∙ ap₂ ◌+◌ two (length-bytes 2 (length r.messages))

  count-back : length r.messages < 256 ^ 2 → number_at 2 10 (record_bytes r ++ rest) ≡ length r.messages
  count-back h =
      ap (number_at 2 10) (shape ∙ sym (append_assoc m k (n ++ body))) ∙ number_behind 2 10 (m ++ k) (n ++ body) two
      ∙ number-front 2 (length r.messages) body h

  behind : drop record_head (record_bytes r ++ rest) ≡ body
  behind =
      ap (drop record_head) (shape ∙ sym (append_assoc m k (n ++ body)) ∙ sym (append_assoc (m ++ k) n body))
      ∙ drop_at (m ++ k ++ n) body record_head three

  pub record-back : RecordHeld r → to_record (record_bytes r ++ rest) ≡ r
  unfolding to_record
  record-back h =
      let t : number_at 8 0 (record_bytes r ++ rest) ≡ r.moment = ap (number_at 8 0) shape ∙ number-front 8 r.moment (k ++ (n ++ body)) (moment-held r h) in
      let q : number_at 2 8 (record_bytes r ++ rest) ≡ r.step
      = ap (number_at 2 8) shape ∙ number_behind 2 8 m (k ++ (n ++ body)) (length-bytes 8 r.moment) ∙ number-front 2 r.step (n ++ body) (step-held r h) in
      let xs : map (message_at 0) (chunks (number_at 2 10 (record_bytes r ++ rest)) message_size (drop record_head (record_bytes r ++ rest))) ≡ r.messages
      = ap₂ (λ c b. map (message_at 0) (chunks c message_size b)) (count-back (count_held r h)) behind
      ∙ ap (map (message_at 0)) (rows_back message_size message_bytes message-size r.messages rest) ∙ messages-back r.messages (bag-held r h) in
      λ i. record { moment = t i; step = q i; messages = xs i }

  pub length_back : RecordHeld r → record_length (record_bytes r ++ rest) ≡ length (record_bytes r)
  unfolding record_length
  length_back h = ap (λ c. record_head + c * message_size) (count-back (count_held r h)) ∙ omega (arith, record_length_lem r)

-- ---- read, and written as it stood

module _ {s : Bytes} (h : AllBytes s) where
  own-count : length (to_record s).messages ≡ number_at 2 10 s
  unfolding to_record
  own-count =
      let n = number_at 2 10 s in
      length-map (chunks n message_size (drop record_head s)) (message_at 0) ∙ length-chunks n message_size (drop record_head s)

  pub record-held : RecordHeld (to_record s)
  unfolding to_record
  record-held = (
    (number_small 8 0 s h, (number_small 2 8 s h, (omega (arith, own-count, number_small 2 10 s h), tt))),
    rows-held message-spelled (number_at 2 10 s) (drop-bytes record_head h),
  )

  pub record-written : record_length s ≤ length s → record_bytes (to_record s) ≡ take (record_length s) s
  unfolding record_bytes to_record record_length
  record-written l =
      let n = number_at 2 10 s in
      ap₂ ◌++◌ (ap₂ ◌++◌ (ap₂ ◌++◌ (number-written 8 0 (omega arith) h) (number-written 2 8 (omega arith) h) ∙ sym (take-add 8 2 s))
      (ap (bytes_of 2) own-count ∙ number-written 2 10 (omega arith) h) ∙ sym (take-add 10 2 s))
      (messages-written n (omega (arith, length-drop record_head s)) (drop-bytes record_head h))
      ∙ sym (take-add record_head (n * message_size) s)

-- ---- records in a row

pub records-more : (n : ℕ) (s : Bytes) → 0 < length s
    → trace_records (suc n) s
    ≡ (refuse_if (ltb (length s) (record_length s)) 17 >>= λ _. trace_records n (drop (record_length s) s) >>= λ rs. ok (to_record s ∷ rs))
unfolding trace_records
records-more n [] h = absurd (omega arith)
records-more n (b ∷ s) h = refl

pub records-none : (n : ℕ) → trace_records n [] ≡ ok []
unfolding trace_records
records-none zero = refl
records-none (suc n) = refl

pub records-back : (n : ℕ) (rs : List TraceRecord) → Every RecordHeld rs → length (trace_bytes rs) ≤ n → trace_records n (trace_bytes rs) ≡ ok rs
unfolding trace_bytes concat
records-back n [] h l = records-none n
records-back zero (r ∷ rs) h l = absurd (omega (arith, length-append (record_bytes r) (trace_bytes rs), record_length_lem r))
records-back (suc n) (r ∷ rs) h l =
    let s = record_bytes r ++ trace_bytes rs in
    let long = length-append (record_bytes r) (trace_bytes rs) in
    let e = length_back r (trace_bytes rs) h.0 in
    records-more n s (omega (arith, record_length_lem r))
    ∙ rw (
      le-ltb (length s) (record_length s) (omega arith),
      drop_at (record_bytes r) (trace_bytes rs) (record_length s) (sym e),
      records-back n rs h.1 (omega (arith, record_length_lem r)),
      record-back r (trace_bytes rs) h.0,
    )

pub records-written : (n : ℕ) (s : Bytes) (rs : List TraceRecord) → AllBytes s → trace_records n s ≡ ok rs → (trace_bytes rs ≡ s) × Every RecordHeld rs
unfolding trace_bytes concat trace_records
records-written zero [] rs h e = subst (λ qs. (trace_bytes qs ≡ []) × Every RecordHeld qs) (ok_same [] rs e) (refl, tt)
records-written zero (b ∷ s) rs h e = absurd (let z : ◌≡◌ {A = ℕ} 0 1 = cc in omega arith)
records-written (suc n) [] rs h e = subst (λ qs. (trace_bytes qs ≡ []) × Every RecordHeld qs) (ok_same [] rs e) (refl, tt)
records-written (suc n) (b ∷ s) rs h e =
    let l = record_length (b ∷ s) in
    let x = refuse-ok (ltb (length (b ∷ s)) l) 17 _ rs e in
    let y = bind_ok (trace_records n (drop l (b ∷ s))) _ rs x.1 in
    let ih = records-written n (drop l (b ∷ s)) y.0 (drop-bytes l h) y.1 in
    subst (λ qs. (trace_bytes qs ≡ b ∷ s) × Every RecordHeld qs) (ok_same (to_record (b ∷ s) ∷ y.0) rs y.2)
    (ap₂ ◌++◌ (record-written h (ltb-false (length (b ∷ s)) l x.0)) ih.0 ∙ take-append-drop l (b ∷ s), (record-held h, ih.1))
