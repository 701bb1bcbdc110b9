-- Columns by position: the records that they hold, the sum of their counts, and the tests that code makes on them are the definition's.
-- Assumes nothing.
use mathlib.Core.Path.{◌≡◌, refl, sym, ap, ap₂, ◌∙◌}
use Prim.Native.Nat.{ℕ, zero, suc, ◌+◌, ◌*◌, ◌-◌, ◌^◌, ◌≤◌, ◌<◌}
use mathlib.Core.List.{List, [], ◌∷◌, map}
use mathlib.Core.Bool.{Bool, true, false, ◌&&◌, not}
use native.Mathlib.Omega.{arith}
use lib.Dec.{ltb, eqb}
use lib.ListN.{length, take, drop, length-map}
use lib.Seq.{drop-drop, take-take}
use borrow.Author.Tests.{le-leb, ne_eqb}
use Rattle.definition.specs.Lists.{sum, all, is_empty, rises, up_from}
use Rattle.definition.specs.Bytes.{Bytes, AllBytes, Result, ok, ◌>>=◌, refuse_if, little_endian, number_at, chunks}
use Rattle.definition.specs.Limits.{max_records}
use Rattle.definition.specs.Model.{Message, Bag, message_le}
use Rattle.definition.specs.Records.{message_layout, port_fits}
use Rattle.definition.specs.Sound.{Held, Every}
use Rattle.definition.specs.Instant.{TraceRecord}
use Rattle.definition.specs.Columns.{pair_below, record_fits}
use Rattle.definition.specs.Pinned.TraceReader.{is_in_order, is_trace, numbers_at, messages_from, dealt, record_count, counts_in, messages_in, column_records, columns_of}
use Rattle.law_base.proofs.Lists.{length_up}
use Rattle.law_text.proofs.Records.{number_small}
use Rattle.law_columns.specs.ByPosition.{Scan, none_yet, pair_next, scan_next, message_in, record_in, records_at, counts_from, column_next, columns_good, columns_scanned}
use Rattle.law_columns.proofs.RecordTests.{keys-rise}
use Rattle.law_columns.proofs.Scanning.{rises_after, after_none}

-- ---- numbers in a column

rows-by : (w n at i : ℕ) (s : Bytes) → map (number_at w 0) (chunks n w (drop (at + w * i) s)) ≡ map (λ q. number_at w (at + w * q) s) (up_from i n)
unfolding chunks up_from number_at
rows-by w zero at i s = refl
rows-by w (suc n) at i s =
    let next : at + w * i + w ≡ at + w * suc i = omega arith in
    ap₂ ◌∷◌ (ap little_endian (take-take w w (drop (at + w * i) s) (omega arith)))
    (ap (λ b. map (number_at w 0) (chunks n w b)) (drop-drop w (at + w * i) s ∙ ap (λ k. drop k s) next) ∙ rows-by w n at (suc i) s)

pub numbers-by : (w n at : ℕ) (s : Bytes) → numbers_at w n at s ≡ map (λ q. number_at w (at + w * q) s) (up_from 0 n)
unfolding numbers_at
numbers-by w n at s = ap (λ k. map (number_at w 0) (chunks n w (drop k s))) (let e : at ≡ at + w * 0 = omega arith in e) ∙ rows-by w n at 0 s

-- ---- counts added up

sum_by : (n : ℕ) (s : Bytes) (l i : ℕ) → sum (map (λ q. number_at 2 (4 + 10 * n + 2 * q) s) (up_from i l)) ≡ counts_from n s l i
unfolding sum up_from counts_from
sum_by n s zero i = refl
sum_by n s (suc l) i = ap (λ k. number_at 2 (4 + 10 * n + 2 * i) s + k) (sum_by n s l (suc i))

-- The counts as a loop adds them.
pub total-at : (s : Bytes) → messages_in s ≡ counts_from (record_count s) s (record_count s) 0
unfolding messages_in counts_in
total-at s = ap sum (numbers-by 2 (record_count s) (4 + 10 * record_count s) s) ∙ sum_by (record_count s) s (record_count s) 0

-- ---- messages

from_up : (f g : ℕ → ℕ) (j l : ℕ) → messages_from (map f (up_from j l)) (map g (up_from j l)) ≡ map (λ q. record { port = f q; value = g q }) (up_from j l)
unfolding messages_from up_from
from_up f g j zero = refl
from_up f g j (suc l) = ap (λ xs. record { port = f j; value = g j } ∷ xs) (from_up f g (suc j) l)

messages-by : (n k : ℕ) (s : Bytes) → messages_from (numbers_at 1 k (4 + 12 * n) s) (numbers_at 2 k (4 + 12 * n + k) s) ≡ map (message_in n k s) (up_from 0 k)
unfolding message_in
messages-by n k s =
    ap₂ messages_from (numbers-by 1 k (4 + 12 * n) s) (numbers-by 2 k (4 + 12 * n + k) s) ∙ from_up _ _ 0 k
    ∙ ap (λ (f : ℕ → Message). map f (up_from 0 k)) (λ i q. record { port = number_at 1 (one q i) s; value = number_at 2 (4 + 12 * n + k + 2 * q) s })
  where
    one : (q : ℕ) → 4 + 12 * n + 1 * q ≡ 4 + 12 * n + q
    one q = omega arith

-- ---- records dealt out

take-up : {A : Type 0} (f : ℕ → A) (c j l : ℕ) → c ≤ l → take c (map f (up_from j l)) ≡ map f (up_from j c)
unfolding up_from
take-up f zero j l h = refl
take-up f (suc c) j zero h = absurd (omega arith)
take-up f (suc c) j (suc l) h = ap (λ xs. f j ∷ xs) (take-up f c (suc j) l (omega arith))

drop-up : {A : Type 0} (f : ℕ → A) (c j l : ℕ) → c ≤ l → drop c (map f (up_from j l)) ≡ map f (up_from (j + c) (l - c))
unfolding up_from
drop-up f zero j l h = ap₂ (λ a b. map f (up_from a b)) (let e : j ≡ j + 0 = omega arith in e) (let e : l ≡ l - 0 = omega arith in e)
drop-up f (suc c) j zero h = absurd (omega arith)
drop-up f (suc c) j (suc l) h =
    drop-up f c (suc j) l (omega arith)
    ∙ ap₂ (λ a b. map f (up_from a b)) (let e : suc j + c ≡ j + suc c = omega arith in e) (let e : l - c ≡ suc l - suc c = omega arith in e)

module _ (n k : ℕ) (s : Bytes) where
  -- l numbers of each column from number i on
  unfoldable moments : ℕ → ℕ → List ℕ
  moments i l = map (λ q. number_at 8 (4 + 8 * q) s) (up_from i l)

  unfoldable steps : ℕ → ℕ → List ℕ
  steps i l = map (λ q. number_at 2 (4 + 8 * n + 2 * q) s) (up_from i l)

  unfoldable counts : ℕ → ℕ → List ℕ
  counts i l = map (λ q. number_at 2 (4 + 10 * n + 2 * q) s) (up_from i l)

  dealt-by : (l i j r : ℕ) → counts_from n s l i ≡ r → dealt (moments i l) (steps i l) (counts i l) (map (message_in n k s) (up_from j r)) ≡ records_at n k s l i j
  unfolding moments steps counts dealt up_from records_at record_in counts_from
  dealt-by zero i j r e = refl
  dealt-by (suc l) i j r e =
      let c = number_at 2 (4 + 10 * n + 2 * i) s in
      let one : Bag → TraceRecord = λ xs. record { moment = number_at 8 (4 + 8 * i) s; step = number_at 2 (4 + 8 * n + 2 * i) s; messages = xs } in
      ap₂ (λ (xs ys : Bag). one xs ∷ dealt (moments (suc i) l) (steps (suc i) l) (counts (suc i) l) ys)
      (take-up (message_in n k s) c j r (omega arith)) (drop-up (message_in n k s) c j r (omega arith))
      ∙ ap (λ qs. one (map (message_in n k s) (up_from j c)) ∷ qs) (dealt-by l (suc i) (j + c) (r - c) (omega arith))

-- The records of the columns.
pub columns-at : (s : Bytes) → column_records s ≡ records_at (record_count s) (messages_in s) s (record_count s) 0 0
unfolding column_records counts_in moments steps counts
columns-at s =
    let n = record_count s in
    let k = messages_in s in
    rw (numbers-by 8 n 4 s, numbers-by 2 n (4 + 8 * n) s, numbers-by 2 n (4 + 10 * n) s, messages-by n k s) (dealt-by n k s n 0 0 k (sym (total-at s)))

-- ---- the tests

module _ (n k : ℕ) (s : Bytes) (bytes : AllBytes s) where
  held_by : (j l : ℕ) → Every (λ x. Held (message_layout x)) (map (message_in n k s) (up_from j l))
  unfolding up_from message_in
  held_by j zero = tt
  held_by j (suc l) = ((number_small 1 (4 + 12 * n + j) s bytes, (number_small 2 (4 + 12 * n + k + 2 * j) s bytes, tt)), held_by (suc j) l)

  empty-up : (j l : ℕ) → is_empty (map (message_in n k s) (up_from j l)) ≡ eqb l 0
  unfolding is_empty up_from
  empty-up j zero = refl
  empty-up j (suc l) = sym (ne_eqb (suc l) 0 (omega arith))

  good-is : (l i j : ℕ) (c : Scan) → columns_good n k s l i j c ≡ all record_fits (records_at n k s l i j) && rises_after c (records_at n k s l i j)
  unfolding columns_good column_next records_at record_in all rises_after record_fits
  good-is zero i j c = refl
  good-is (suc l) i j c =
      let m = number_at 2 (4 + 10 * n + 2 * i) s in
      let t = number_at 8 (4 + 8 * i) s in
      let q = number_at 2 (4 + 8 * n + 2 * i) s in
      let xs = map (message_in n k s) (up_from j m) in
      rw (length-map (up_from j m) (message_in n k s) ∙ length_up j m, empty-up j m, keys-rise xs (held_by j m))
      (ap (λ u. not (eqb m 0) && pair_next c t q && (all port_fits xs && rises message_le xs) && u) (good-is l (suc i) (j + m) (scan_next c t q m))
      ∙ mix (not (eqb m 0)) (pair_next c t q) (all port_fits xs) (rises message_le xs) _ _)
    where
      mix : (e p a r f o : Bool) → e && p && (a && r) && (f && o) ≡ e && r && a && f && (p && o)
      mix true true true true f o = refl
      mix true true true false f o = refl
      mix true true false true f o = refl
      mix true true false false f o = refl
      mix true false true true true o = refl
      mix true false true true false o = refl
      mix true false true false f o = refl
      mix true false false true f o = refl
      mix true false false false f o = refl
      mix false p a r f o = refl

as_many : (n k : ℕ) (s : Bytes) (l i j : ℕ) → length (records_at n k s l i j) ≡ l
unfolding records_at
as_many n k s zero i j = refl
as_many n k s (suc l) i j = ap suc (as_many n k s l (suc i) (j + number_at 2 (4 + 10 * n + 2 * i) s))

count_small : (s : Bytes) → AllBytes s → record_count s < 256 ^ 4
unfolding record_count
count_small s b = number_small 4 0 s b

-- Records counted, and their messages.
abbrev pub counted : Bytes → List TraceRecord → Result (ℕ × ℕ)
counted s rs = ok (record_count s, messages_in s)

-- The scan of columns: 18 where they are those of no trace, and else their numbers of records and messages.
pub columns-scanned : (s : Bytes) → AllBytes s → columns_scanned s ≡ (columns_of s >>= counted s)
unfolding columns_scanned columns_of is_trace is_in_order
columns-scanned s b =
    let n = record_count s in
    let k = messages_in s in
    let rs = records_at n k s n 0 0 in
    rw (← total-at s, columns-at s, good-is n k s b n 0 0 none_yet, after_none rs, le-leb (length rs) max_records few)
    (go (ltb (length s) (4 + 12 * n)) (not (eqb (length s) (4 + 12 * n + 3 * k))) (all record_fits rs && rises pair_below rs))
  where
    few : length (records_at (record_count s) (messages_in s) s (record_count s) 0 0) ≤ max_records
    few = omega (arith, as_many (record_count s) (messages_in s) s (record_count s) 0 0, count_small s b)

    go : (x y t : Bool) → (refuse_if x 18 >>= λ _. refuse_if y 18 >>= λ _. refuse_if (not t) 18 >>= λ _. counted s [])
        ≡ ((refuse_if x 18 >>= λ _. refuse_if y 18 >>= λ _. refuse_if (not (t && true)) 18
        >>= λ _. ok (records_at (record_count s) (messages_in s) s (record_count s) 0 0)) >>= counted s)
    go true y t = refl
    go false true t = refl
    go false false true = refl
    go false false false = refl
