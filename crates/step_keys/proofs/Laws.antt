-- Laws of putting: one list after another, one message more of a bag, of the slots of a phase record, of the given bytes. Assumes nothing.
use mathlib.Core.Path.{◌≡◌, refl, sym, ap₂, ◌∙◌}
use mathlib.Core.List.{List, [], ◌∷◌, ◌++◌}
use mathlib.Core.Bool.{Bool, true, false, cond}
use Prim.Native.Nat.{ℕ, zero, suc, ◌+◌, ◌*◌, ◌-◌, ◌/◌, ◌≤◌, ◌<◌, min}
use native.Mathlib.Omega.{arith}
use native.Mathlib.Nat.{add-zero}
use native.Mathlib.Numerals.{add-one}
use lib.Dec.{eqb}
use lib.ListN.{length, take, drop, get_or, length-take}
use lib.Seq.{drop-cons, drop-length, get_or-take}
use Rattle.definition.specs.Bytes.{Bytes, number_at}
use Rattle.definition.specs.Limits.{message_size}
use Rattle.definition.specs.Model.{Message, Bag, no_message, no_phase, slots, outputs}
use Rattle.definition.specs.Records.{message_at}
use Rattle.definition.specs.Pinned.Decoder.{to_phase}
use Rattle.definition.specs.Engine.{to_bag}
use Rattle.law_bytes.specs.Parts.{records_in, row}
use Rattle.law_bytes.proofs.Rows.{number-row}
use Rattle.law_bytes.proofs.Records.{record-in, record-out}
use Rattle.model_records.specs.Values.{phases_in}
use Rattle.spec_step.specs.Put.{put1, puts, values_on}
use Rattle.step_keys.specs.Sent.{wanted_value}
use Rattle.law_model.proofs.Codec.{bag-length}

pub puts-append : (port : ℕ) (xs ys : List ℕ) (st : List ℕ × ℕ) → puts port (xs ++ ys) st ≡ puts port ys (puts port xs st)
unfolding puts
puts-append port [] ys st = refl
puts-append port (x ∷ xs) ys st = puts-append port xs ys (put1 _ st)

pub puts_none : (port : ℕ) (st : List ℕ × ℕ) → puts port [] st ≡ st
unfolding puts
puts_none port st = refl

values_one : (q : ℕ) (x : Message) (xs : Bag) → values_on q (x ∷ xs) ≡ wanted_value (eqb q x.port) x.value ++ values_on q xs
unfolding values_on wanted_value
values_one q x xs = go (eqb q x.port)
  where
    go : (b : Bool) → cond b (x.value ∷ values_on q xs) (values_on q xs) ≡ cond b (x.value ∷ []) [] ++ values_on q xs
    go true = refl
    go false = refl

-- A turn of the loop over a bag's messages, at most so many: what is put so far and those from i on are the whole.
pub record Turn (top : ℕ) (xs : Bag) (q port : ℕ) (first : List ℕ) (at : ℕ) (buf : List ℕ) (next n i : ℕ) : Type 0 where
  pub count : n ≡ length xs
  pub few : n ≤ top
  pub same_size : length buf ≡ length first
  pub rest : puts port (values_on q (drop i xs)) (buf, next) ≡ puts port (values_on q xs) (first, at)

pub turn-first : {top : ℕ} {xs : Bag} {q port at n : ℕ} {buf : List ℕ} → n ≡ length xs → n ≤ top → Turn top xs q port buf at buf at n 0
turn-first e h = record { count = e; few = h; same_size = refl; rest = refl }

module _ {top : ℕ} {xs : Bag} {q port at next n i : ℕ} {first buf : List ℕ} (turn : Turn top xs q port first at buf next n i) where
  -- one message more
  pub turn_more : {x : Message} {buf' : List ℕ} {next' p v : ℕ} → i < n → (i < length xs → get_or xs i no_message ≡ x)
      → length buf' ≡ length buf → p ≡ x.port → v ≡ x.value → (buf', next') ≡ puts port (wanted_value (eqb q p) v) (buf, next)
      → Turn top xs q port first at buf' next' n (i + 1)
  turn_more {x} h e size own value put =
      let there : i < length xs = omega (arith, turn.count) in
      let more : puts port (values_on q (drop (i + 1) xs)) (puts port (wanted_value (eqb q x.port) x.value) (buf, next)) ≡ puts port (values_on q (drop i xs)) (buf, next) =
      rw (add-one i, drop-cons xs i no_message there, e there, values_one, puts-append) in
      record { count = turn.count; few = turn.few; same_size = size ∙ turn.same_size; rest = rw (put, own, value) (more ∙ turn.rest) }

  pub turn_end : i ≡ n → (buf, next) ≡ puts port (values_on q xs) (first, at)
  turn_end h = sym (none (h ∙ turn.count)) ∙ turn.rest
    where
      none : i ≡ length xs → puts port (values_on q (drop i xs)) (buf, next) ≡ (buf, next)
      none e = unfold values_on puts in rw (e, drop-length)

-- ---- the slots of a phase record

pub length-outputs : (r : Bytes) → length (outputs (to_phase r)) ≡ min (number_at 1 5 r) 4
unfolding outputs slots to_phase
length-outputs r = length-take (number_at 1 5 r) (slots (to_phase r))

slot_at : (r : Bytes) (j : ℕ) → j < 4
    → get_or (slots (to_phase r)) j no_message ≡ record { port = number_at 1 (6 + message_size * j) r; value = number_at 2 (6 + message_size * j + 1) r }
unfolding slots to_phase message_at
slot_at r zero h = refl
slot_at r (suc zero) h = refl
slot_at r (suc (suc zero)) h = refl
slot_at r (suc (suc (suc zero))) h = refl
slot_at r (suc (suc (suc (suc j)))) h = absurd (omega arith)

pub output-at : (r : Bytes) (j : ℕ) → j < length (outputs (to_phase r))
    → get_or (outputs (to_phase r)) j no_message ≡ record { port = number_at 1 (6 + message_size * j) r; value = number_at 2 (6 + message_size * j + 1) r }
output-at r j h =
    let used : j < number_at 1 5 r = omega (arith, length-outputs r) in
    let four : j < 4 = omega (arith, length-outputs r) in
    of_slots used ∙ slot_at r j four
  where
    of_slots : j < number_at 1 5 r → get_or (outputs (to_phase r)) j no_message ≡ get_or (slots (to_phase r)) j no_message
    of_slots used = unfold outputs to_phase in get_or-take (number_at 1 5 r) (slots (to_phase r)) j no_message used

-- The bytes of a record are the phase of its number.
pub sent-in : (s : Bytes) (i : ℕ) {bytes : Bytes} → i < length s / 18 → bytes ≡ row 18 i s → to_phase bytes ≡ get_or (phases_in s) i no_phase
unfolding phases_in
sent-in s i h e = rw e (sym (record-in 18 to_phase s i no_phase h))

-- The bytes that end where so many records do as a mark says are the record before the mark.
pub mark-row : (s : Bytes) (mark : ℕ) → (mark ≡ 0 → ⊥) → take (18 * mark - (18 * mark - 18)) (drop (18 * mark - 18) s) ≡ row 18 (mark - 1) s
unfolding row
mark-row s mark some =
    let size : 18 * mark - (18 * mark - 18) ≡ 18 = omega (arith, some) in
    let place : 18 * mark - 18 ≡ 18 * (mark - 1) = omega (arith, some) in
    ap₂ (λ n p. take n (drop p s)) size place

pub sent-out : (s : Bytes) (q i port : ℕ) (st : List ℕ × ℕ) → length s / 18 ≤ i → puts port (values_on q (outputs (get_or (phases_in s) i no_phase))) st ≡ st
unfolding phases_in no_phase outputs values_on puts
sent-out s q i port st h = rw (record-out 18 to_phase s i no_phase h)

-- ---- the given messages

pub given-at : (s : Bytes) (i : ℕ) → i < length (to_bag s)
    → get_or (to_bag s) i no_message ≡ record { port = number_at 1 (message_size * i) s; value = number_at 2 (message_size * i + 1) s }
unfolding to_bag records_in message_at
given-at s i h =
    record-in message_size (message_at 0) s i no_message (rw (bag-length s) at h)
    ∙ rw (number-row 1 0 message_size i s (omega arith), number-row 2 1 message_size i s (omega arith), add-zero)
