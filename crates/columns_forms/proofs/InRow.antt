-- A record in a row at its places is the record at its position: read, judged and put. Assumes nothing.
use mathlib.Core.Path.{◌≡◌, refl, sym, ap, ap₂, ◌∙◌}
use Prim.Native.Nat.{ℕ, zero, suc, ◌+◌, ◌*◌, ◌-◌, ◌≤◌}
use mathlib.Core.List.{[], ◌∷◌, ◌++◌, map, append-nil}
use mathlib.Core.Bool.{Bool, true, false, ◌&&◌, ◌||◌, not, cond}
use native.Mathlib.Omega.{arith}
use lib.Dec.{leb, ltb, eqb}
use Rattle.std.specs.Prelude.{Option, Some, None}
use lib.ListN.{length, take, drop, length-append}
use lib.Seq.{sets, drop-drop, take-take}
use Rattle.definition.specs.Lists.{concat}
use Rattle.definition.specs.Bytes.{Bytes, little_endian, number_at, bytes_of, chunks, laid_out}
use Rattle.definition.specs.Limits.{message_size, record_head}
use Rattle.definition.specs.Model.{Message, Bag}
use Rattle.definition.specs.Records.{message_at, message_bytes}
use Rattle.definition.specs.Instant.{TraceRecord, record_bytes}
use Rattle.law_bytes.proofs.Rows.{drop-take}
use Rattle.law_model.proofs.Codec.{length-bytes}
use Rattle.law_stores.proofs.Stores.{sets-append}
use Rattle.law_columns.specs.ByPosition.{Scan, keys_rise, pair_next, bag_from, record_from, record_next}
use Rattle.columns_records.specs.declared.Pair.{Pair}
use Rattle.columns_records.specs.Places.{messages_at, record_at, pair_above, fits_after, messages_put, head_put, record_put, MessagesWithin, RecordWithin}
use Rattle.columns_forms.specs.Forms.{in_row, row_places}

-- ---- read

first-is : (s : Bytes) (p : ℕ) → message_at 0 (take message_size (drop p s)) ≡ record { port = number_at 1 p s; value = number_at 2 (p + 1) s }
unfolding message_at number_at
first-is s p =
    let a : little_endian (take 1 (take message_size (drop p s))) ≡ little_endian (take 1 (drop p s)) = ap little_endian (take-take 1 message_size (drop p s) (omega arith)) in
    let b : little_endian (take 2 (drop 1 (take message_size (drop p s)))) ≡ little_endian (take 2 (drop (p + 1) s))
    = ap (λ z. little_endian (take 2 z)) (drop-take 1 message_size (drop p s)) ∙ ap little_endian (take-take 2 2 (drop 1 (drop p s)) (omega arith))
    ∙ ap (λ z. little_endian (take 2 z)) (drop-drop 1 p s) in
    λ i. record { port = a i; value = b i }

pub bag-row : (m p v : ℕ) (s : Bytes) → v ≡ p + 1 → map (message_at 0) (chunks m message_size (drop p s)) ≡ messages_at in_row p v m s
unfolding chunks messages_at
bag-row zero p v s e = refl
bag-row (suc m) p v s e =
    ap₂ ◌∷◌ (first-is s p ∙ ap (λ k. record { port = number_at 1 p s; value = number_at 2 k s }) (sym e))
    (ap (λ b. map (message_at 0) (chunks m message_size b)) (drop-drop message_size p s) ∙ bag-row m (p + 3) (v + 3) s (omega arith))

module _ (at : ℕ) (s : Bytes) where
  abbrev count : ℕ
  count = number_at 2 (at + 10) s

  pub bag-at : bag_from at s ≡ messages_at in_row (at + 12) (at + 13) count s
  unfolding bag_from
  bag-at = bag-row count (at + 12) (at + 13) s (omega arith)

  pub record-row : record_at in_row (row_places at) s ≡ record_from at s
  unfolding record_at row_places record_from
  record-row = λ i. record { moment = number_at 8 at s; step = number_at 2 (at + 8) s; messages = sym bag-at i }

-- ---- judged

-- What a scan carries of the record before.
abbrev pub last_of : Scan → Option Pair
last_of c = cond c.some (Some (record { moment = c.moment; step = c.step })) None

pub pair-last : (c : Scan) (t k : ℕ) → pair_next c t k ≡ pair_above (last_of c) t k
unfolding pair_next pair_above
pair-last c t k = cases c.some
  where
    cases : (b : Bool) → (not b || (ltb c.moment t || (eqb c.moment t && ltb c.step k))) ≡ pair_above (cond b (Some (record { moment = c.moment; step = c.step })) None) t k
    cases true = refl
    cases false = refl

pub fits-row : (c : Scan) (at : ℕ) (s : Bytes)
    → record_next c at s ≡ (leb (record_head + number_at 2 (at + 10) s * message_size) (length s - at) && fits_after (last_of c) in_row (row_places at) s)
unfolding record_next fits_after row_places
fits-row c at s =
    let whole = leb (record_head + count at s * message_size) (length s - at) in
    let some = not (eqb (count at s) 0) in
    ap (λ xs. whole && some && pair_next c (number_at 8 at s) (number_at 2 (at + 8) s) && keys_rise 0 xs) (bag-at at s)
    ∙ ap (λ b. whole && some && b && keys_rise 0 (messages_at in_row (at + 12) (at + 13) (count at s) s)) (pair-last c (number_at 8 at s) (number_at 2 (at + 8) s))
    ∙ grouped whole some _ _
  where
    grouped : (a b c d : Bool) → (a && b && c && d) ≡ (a && (b && c && d))
    grouped true b c d = refl
    grouped false b c d = refl

-- ---- within

row_within : (size p v m : ℕ) → v ≡ p + 1 → p + 3 * m ≤ size → MessagesWithin size in_row p v m
row_within size p v zero e l = tt
row_within size p v (suc m) e l = (omega arith, omega arith, row_within size (p + 3) (v + 3) m (omega arith) (omega arith))

pub within-row : (size at m : ℕ) → at + 12 + 3 * m ≤ size → RecordWithin size in_row (row_places at) m
unfolding row_places
within-row size at m l = (record { moment = omega arith; step = omega arith; count = omega arith }, row_within size (at + 12) (at + 13) m (omega arith) (omega arith))

-- ---- put

-- A store behind another one.
behind : (xs ys out : Bytes) (p q : ℕ) → q ≡ p + length xs → sets (sets out p xs) q ys ≡ sets out p (xs ++ ys)
behind xs ys out p q e = ap (λ k. sets (sets out p xs) k ys) e ∙ sym (sets-append xs ys out p)

message-put : (x : Message) (p v : ℕ) (out : Bytes) → v ≡ p + 1 → sets (sets out p (bytes_of 1 x.port)) v (bytes_of 2 x.value) ≡ sets out p (message_bytes x)
unfolding message_bytes laid_out
message-put x p v out e =
    behind (bytes_of 1 x.port) (bytes_of 2 x.value) out p v (omega (arith, length-bytes 1 x.port))
    ∙ ap (λ b. sets out p (bytes_of 1 x.port ++ b)) (sym (append-nil (bytes_of 2 x.value)))

message-long : (x : Message) → length (message_bytes x) ≡ 3
unfolding message_bytes laid_out bytes_of
message-long x = refl

pub messages-row : (xs : Bag) (p v : ℕ) (out : Bytes) → v ≡ p + 1 → messages_put in_row p v xs out ≡ sets out p (concat (map message_bytes xs))
unfolding messages_put concat
messages-row [] p v out e = refl
messages-row (x ∷ xs) p v out e =
    ap (messages_put in_row (p + 3) (v + 3) xs) (message-put x p v out e)
    ∙ messages-row xs (p + 3) (v + 3) (sets out p (message_bytes x)) (omega arith)
    ∙ behind (message_bytes x) (concat (map message_bytes xs)) out p (p + 3) (omega (arith, message-long x))

pub put-row : (at : ℕ) (r : TraceRecord) (out : Bytes) → record_put in_row (row_places at) r out ≡ sets out at (record_bytes r)
unfolding record_put row_places head_put record_bytes
put-row at r out =
    let t = bytes_of 8 r.moment in
    let k = bytes_of 2 r.step in
    let n = bytes_of 2 (length r.messages) in
    let long_t = length-bytes 8 r.moment in
    let long_k = length-bytes 2 r.step in
    let long_n = length-bytes 2 (length r.messages) in
    let pair = length-append t k in
    let head : sets (sets (sets out at t) (at + 8) k) (at + 10) n ≡ sets out at (t ++ k ++ n)
    = ap (λ b. sets b (at + 10) n) (behind t k out at (at + 8) (omega (arith, long_t))) ∙ behind (t ++ k) n out at (at + 10) (omega (arith, long_t, long_k, pair)) in
    ap (messages_put in_row (at + 12) (at + 13) r.messages) head
    ∙ messages-row r.messages (at + 12) (at + 13) (sets out at (t ++ k ++ n)) (omega arith)
    ∙ behind (t ++ k ++ n) (concat (map message_bytes r.messages)) out at (at + 12) (omega (arith, long_t, long_k, long_n, pair, length-append (t ++ k) n))
