-- One record by its position in the bytes: the test that code makes of it, by the keys of its messages, is the definition's. Assumes nothing.
use mathlib.Core.Path.{◌≡◌, refl, sym, ap, ap₂, ◌∙◌}
use Prim.Native.Nat.{ℕ, ◌+◌, ◌*◌, ◌-◌, ◌≤◌, ◌<◌}
use mathlib.Core.List.{[], ◌∷◌, map}
use mathlib.Core.Bool.{Bool, true, false, ◌&&◌, ◌||◌, not}
use native.Mathlib.Omega.{arith}
use lib.Dec.{leb, ltb, eqb}
use lib.ListN.{length, take, drop, length-drop, length-map}
use lib.Seq.{drop-drop}
use borrow.Author.Tests.{ltb-true, ltb-false, leb-true, leb-false, eqb-true, eqb-false, lt-ltb, le-ltb, le-leb, lt-leb, eq-eqb, ne_eqb}
use Rattle.definition.specs.Lists.{all, is_empty, rises, lex_le}
use Rattle.definition.specs.Bytes.{Bytes, AllBytes, little_endian, number_at, chunks}
use Rattle.definition.specs.Limits.{message_size, record_head, port_count}
use Rattle.definition.specs.Model.{Message, Bag, message_le}
use Rattle.definition.specs.Records.{message_at, message_layout, port_fits}
use Rattle.definition.specs.Sound.{Held, Every}
use Rattle.definition.specs.Columns.{record_fits}
use Rattle.definition.specs.Pinned.TraceReader.{to_record, record_length}
use Rattle.law_base.specs.Keys.{value_range, key_of}
use Rattle.law_model.proofs.Codec.{drop-bytes, length-chunks}
use Rattle.law_model.proofs.Rows.{rows-held}
use Rattle.law_model.proofs.Spellings.{message-spelled}
use Rattle.law_columns.specs.ByPosition.{keys_rise, Scan, pair_next, bag_from, record_from, record_next}

-- ---- messages by their keys

le-key : (x y : Message) → x.value < value_range → y.value < value_range → message_le x y ≡ leb (key_of x.port x.value) (key_of y.port y.value)
unfolding message_le lex_le key_of
le-key x y v w = go (ltb x.port y.port) refl (eqb x.port y.port) refl (ltb x.value y.value) refl (eqb x.value y.value) refl
  where
    a : ℕ
    a = x.port * value_range + x.value

    b : ℕ
    b = y.port * value_range + y.value

    yes : x.port * value_range + x.value ≤ y.port * value_range + y.value → true ≡ leb a b
    yes h = sym (le-leb (x.port * value_range + x.value) (y.port * value_range + y.value) h)

    no : y.port * value_range + y.value < x.port * value_range + x.value → false ≡ leb a b
    no h = sym (lt-leb (x.port * value_range + x.value) (y.port * value_range + y.value) h)

    go : (p : Bool) → ltb x.port y.port ≡ p → (q : Bool) → eqb x.port y.port ≡ q
        → (r : Bool) → ltb x.value y.value ≡ r → (s : Bool) → eqb x.value y.value ≡ s → p || (q && (r || (s && true))) ≡ leb a b
    go true e q f r g s h = yes (omega (arith, ltb-true x.port y.port e))
    go false e true f true g s h = yes (omega (arith, eqb-true x.port y.port f, ltb-true x.value y.value g))
    go false e true f false g true h = yes (omega (arith, eqb-true x.port y.port f, eqb-true x.value y.value h))
    go false e true f false g false h =
        no (omega (arith, eqb-true x.port y.port f, ltb-false x.value y.value g, eqb-false x.value y.value h))
    go false e false f r g s h = no (omega (arith, ltb-false x.port y.port e, eqb-false x.port y.port f))

turned : (p l a r : Bool) → p && l && (a && r) ≡ p && a && (l && r)
turned true true a r = refl
turned true false true r = refl
turned true false false r = refl
turned false l a r = refl

keys-after : (x : Message) (xs : Bag) → x.value < value_range → Every (λ y. Held (message_layout y)) xs
    → keys_rise (key_of x.port x.value) xs ≡ all port_fits xs && rises message_le (x ∷ xs)
unfolding keys_rise all rises port_fits
keys-after x [] v h = refl
keys-after x (y ∷ ys) v h =
    let own : y.value < value_range = h.0.1.0 in
    rw (keys-after y ys own h.1, le-key x y v own)
    (turned (ltb y.port port_count) (leb (key_of x.port x.value) (key_of y.port y.value)) (all port_fits ys) (rises message_le (y ∷ ys)))

-- Messages on ports that there are and that do not fall: their keys do not fall, from 0 on.
pub keys-rise : (xs : Bag) → Every (λ x. Held (message_layout x)) xs → keys_rise 0 xs ≡ all port_fits xs && rises message_le xs
unfolding keys_rise all rises port_fits
keys-rise [] h = refl
keys-rise (y ∷ ys) h =
    rw (keys-after y ys h.0.1.0 h.1, le-leb 0 (key_of y.port y.value) (omega arith))
    (turned (ltb y.port port_count) true (all port_fits ys) (rises message_le (y ∷ ys)))

-- ---- a record by its position

number-at : (w q at : ℕ) (s : Bytes) → number_at w q (drop at s) ≡ number_at w (at + q) s
unfolding number_at
number-at w q at s = ap (λ b. little_endian (take w b)) (drop-drop q at s)

module _ (at : ℕ) (s : Bytes) where
  pub moment-at : (to_record (drop at s)).moment ≡ number_at 8 at s
  unfolding to_record
  moment-at = number-at 8 0 at s ∙ ap (λ i. number_at 8 i s) (let q : at + 0 ≡ at = omega arith in q)

  pub step-at : (to_record (drop at s)).step ≡ number_at 2 (at + 8) s
  unfolding to_record
  step-at = number-at 2 8 at s

  pub messages-at : (to_record (drop at s)).messages ≡ bag_from at s
  unfolding to_record bag_from
  messages-at = ap₂ (λ n b. map (message_at 0) (chunks n message_size b)) (number-at 2 10 at s) (drop-drop record_head at s)

  pub length_at : record_length (drop at s) ≡ record_head + number_at 2 (at + 10) s * message_size
  unfolding record_length
  length_at = ap (λ n. record_head + n * message_size) (number-at 2 10 at s)

  pub count_at : length (bag_from at s) ≡ number_at 2 (at + 10) s
  unfolding bag_from
  count_at =
      let n = number_at 2 (at + 10) s in
      length-map (chunks n message_size (drop (at + record_head) s)) (message_at 0) ∙ length-chunks n message_size (drop (at + record_head) s)

  pub record-by : to_record (drop at s) ≡ record_from at s
  unfolding record_from
  record-by = λ i. record { moment = moment-at i; step = step-at i; messages = messages-at i }

-- ---- the test of a record

empty-count : (xs : Bag) (n : ℕ) → length xs ≡ n → is_empty xs ≡ eqb n 0
unfolding is_empty
empty-count [] n e = sym (eq-eqb n 0 (sym e))
empty-count (x ∷ xs) n e = sym (ne_eqb n 0 (omega arith))

held_at : (at : ℕ) (s : Bytes) → AllBytes s → Every (λ x. Held (message_layout x)) (bag_from at s)
unfolding bag_from
held_at at s h = rows-held message-spelled (number_at 2 (at + 10) s) (drop-bytes (at + record_head) h)

-- A number lies above another where that one does not reach it.
pub ltb-leb : (a b : ℕ) → ltb a b ≡ not (leb b a)
ltb-leb a b = go (leb b a) refl
  where
    go : (t : Bool) → leb b a ≡ t → ltb a b ≡ not t
    go true e = le-ltb a b (leb-true b a e)
    go false e = lt-ltb a b (leb-false b a e)

-- A record that is whole, one of a trace, and above the one before it.
pub test-is : (c : Scan) (at : ℕ) (s : Bytes) → AllBytes s
    → record_next c at s
    ≡ not (ltb (length (drop at s)) (record_length (drop at s)))
    && (record_fits (to_record (drop at s)) && pair_next c (to_record (drop at s)).moment (to_record (drop at s)).step)
unfolding record_next record_fits
test-is c at s h =
    let n = number_at 2 (at + 10) s in
    let xs = bag_from at s in
    rw (
      moment-at at s,
      step-at at s,
      messages-at at s,
      length_at at s,
      length-drop at s,
      ltb-leb (length s - at) (record_head + n * message_size),
      keys-rise xs (held_at at s h),
      empty-count xs n (count_at at s),
    )
    (go (leb (record_head + n * message_size) (length s - at)) (not (eqb n 0)) (pair_next c (number_at 8 at s) (number_at 2 (at + 8) s))
    (all port_fits xs) (rises message_le xs))
  where
    go : (x e p a r : Bool) → x && e && p && (a && r) ≡ not (not x) && (e && r && a && p)
    go true true true true true = refl
    go true true true true false = refl
    go true true true false true = refl
    go true true true false false = refl
    go true true false true true = refl
    go true true false true false = refl
    go true true false false true = refl
    go true true false false false = refl
    go true false p a r = refl
    go false e p a r = refl
