-- Records put into their columns one by one, each column with a cursor of its own, fill the buffer with the columns; records put in a row
-- fill it with the trace. Writes at places that do not meet change places. Assumes nothing.
use mathlib.Core.Path.{◌≡◌, refl, sym, ap, ap₂, ◌∙◌}
use Prim.Native.Nat.{ℕ, suc, ◌+◌, ◌*◌, ◌≤◌, ◌<◌}
use mathlib.Core.List.{List, [], ◌∷◌, ◌++◌}
use native.Mathlib.Omega.{arith}
use lib.ListN.{length, set, length-append}
use lib.Seq.{sets, set_comm}
use Rattle.definition.specs.Lists.{concat}
use Rattle.definition.specs.Bytes.{Bytes, bytes_of, stored}
use Rattle.definition.specs.Model.{Message, Bag}
use Rattle.definition.specs.Instant.{TraceRecord, record_bytes, trace_bytes}
use Rattle.definition.specs.Columns.{column, messages_of, column_bytes}
use Rattle.law_model.proofs.Codec.{length-bytes}
use Rattle.law_stores.proofs.Stores.{sets-append, sets-front}
use Rattle.law_columns.specs.ByPosition.{put_messages, put_record, put_records, put_trace, put_pairs}
use Rattle.law_columns.proofs.ColumnBytes.{length-column, column-append}
use Rattle.law_columns.proofs.ColumnPlaces.{head_of, moments_of, steps_of, counts_of, ports_of, values_of, before-steps, before-counts, before-ports, before-values}

-- ---- writes at places of their own

set_below : (l : Bytes) (a x b : ℕ) (ys : Bytes) → a < b → set (sets l b ys) a x ≡ sets (set l a x) b ys
set_below l a x b [] h = refl
set_below l a x b (y ∷ ys) h =
    set_below (set l b y) a x (suc b) ys (omega arith) ∙ ap (λ z. sets z (suc b) ys) (set_comm l b a y x (λ e. omega arith))

pub sets_below : (l : Bytes) (a : ℕ) (xs : Bytes) (b : ℕ) (ys : Bytes) → a + length xs ≤ b → sets (sets l b ys) a xs ≡ sets (sets l a xs) b ys
sets_below l a [] b ys h = refl
sets_below l a (x ∷ xs) b ys h =
    ap (λ z. sets z (suc a) xs) (set_below l a x b ys (omega arith)) ∙ sets_below (set l a x) (suc a) xs b ys (omega arith)

-- A write in two parts: where it begins, its first bytes, and those after them.
pub record Write : Type 0 where
  pub at : ℕ
  pub first : Bytes
  pub more : Bytes

unfoldable pub firsts : List Write → Bytes → Bytes
firsts [] l = l
firsts (w ∷ ws) l = firsts ws (sets l w.at w.first)

unfoldable pub mores : List Write → Bytes → Bytes
mores [] l = l
mores (w ∷ ws) l = mores ws (sets l (w.at + length w.first) w.more)

unfoldable pub boths : List Write → Bytes → Bytes
boths [] l = l
boths (w ∷ ws) l = boths ws (sets l w.at (w.first ++ w.more))

-- All begin at a place or past it, and each ends before the next begins.
abbrev pub Past : ℕ → List Write → Type 0
Past a [] = Unit {0}
Past a (w ∷ ws) = (a ≤ w.at) × Past (w.at + length w.first + length w.more) ws

below_all : (l : Bytes) (a : ℕ) (xs : Bytes) (ws : List Write) → Past (a + length xs) ws → sets (firsts ws l) a xs ≡ firsts ws (sets l a xs)
unfolding firsts
below_all l a xs [] h = refl
below_all l a xs (w ∷ ws) h =
    below_all (sets l w.at w.first) a xs ws (sooner (a + length xs) (w.at + length w.first + length w.more) ws (omega (arith, h.0)) h.1)
    ∙ ap (firsts ws) (sets_below l a xs w.at w.first h.0)
  where
    sooner : (a b : ℕ) (ws : List Write) → a ≤ b → Past b ws → Past a ws
    sooner a b [] l h = tt
    sooner a b (w ∷ ws) l h = (omega (arith, h.0), h.1)

-- First all the firsts, then all the mores: as if each were written at once.
pub merged : (ws : List Write) (a : ℕ) (l : Bytes) → Past a ws → mores ws (firsts ws l) ≡ boths ws l
unfolding firsts mores boths
merged [] a l h = refl
merged (w ∷ ws) a l h =
    let end = w.at + length w.first in
    ap (mores ws) (below_all (sets l w.at w.first) end w.more ws h.1 ∙ ap (firsts ws) (sym (sets-append w.first w.more l w.at)))
    ∙ merged ws (end + length w.more) (sets l w.at (w.first ++ w.more)) h.1

-- ---- messages into two columns

abbrev port : Message → ℕ
port x = x.port

abbrev value : Message → ℕ
value x = x.value

messages-put : (n k j : ℕ) (xs : Bag) (out : Bytes) → j + length xs ≤ k
    → put_messages n k j xs out ≡ sets (sets out (4 + 12 * n + j) (column 1 port xs)) (4 + 12 * n + k + 2 * j) (column 2 value xs)
unfolding put_messages column concat firsts mores boths
messages-put n k j [] out h = refl
messages-put n k j (x ∷ xs) out h =
    let p = 4 + 12 * n + j in
    let v = 4 + 12 * n + k + 2 * j in
    let a = bytes_of 1 x.port in
    let b = bytes_of 2 x.value in
    let la = length-bytes 1 x.port in
    let lb = length-bytes 2 x.value in
    let e : 4 + 12 * n + suc j ≡ p + length a = omega arith in
    let f : 4 + 12 * n + k + 2 * suc j ≡ v + length b = omega arith in
    let w : List Write = record { at = p; first = a; more = column 1 port xs } ∷ record { at = v; first = b; more = column 2 value xs } ∷ [] in
    messages-put n k (suc j) xs (sets (sets out p a) v b) (omega arith)
    ∙ ap₂ (λ i m. sets (sets (sets (sets out p a) v b) i (column 1 port xs)) m (column 2 value xs)) e f
    ∙ merged w p out (omega arith, (omega (arith, la, length-column 1 port xs), tt))

-- The messages' columns by the places themselves.
pub pairs-put : (n k j : ℕ) (xs : Bag) (out : Bytes) → put_messages n k j xs out ≡ put_pairs (4 + 12 * n + j) (4 + 12 * n + k + 2 * j) xs out
unfolding put_messages put_pairs
pairs-put n k j [] out = refl
pairs-put n k j (x ∷ xs) out =
    let p = 4 + 12 * n + j in
    let v = 4 + 12 * n + k + 2 * j in
    let new = sets (sets out p (bytes_of 1 x.port)) v (bytes_of 2 x.value) in
    pairs-put n k (suc j) xs new
    ∙ ap₂ (λ a b. put_pairs a b xs new) (let e : 4 + 12 * n + suc j ≡ p + 1 = omega arith in e) (let e : 4 + 12 * n + k + 2 * suc j ≡ v + 2 = omega arith in e)

-- ---- records into five

-- The five columns of some records, each at its place.
unfoldable in_five : List TraceRecord → ℕ → ℕ → ℕ → ℕ → ℕ → Bytes → Bytes
in_five rs t k c p v out = sets (sets (sets (sets (sets out t (moments_of rs)) k (steps_of rs)) c (counts_of rs)) p (ports_of rs)) v (values_of rs)

records-put : (n k i j : ℕ) (rs : List TraceRecord) (out : Bytes) → i + length rs ≤ n → j + length (messages_of rs) ≤ k
    → put_records n k i j rs out ≡ in_five rs (4 + 8 * i) (4 + 8 * n + 2 * i) (4 + 10 * n + 2 * i) (4 + 12 * n + j) (4 + 12 * n + k + 2 * j) out
unfolding put_records in_five messages_of concat column
records-put n k i j [] out h g = refl
records-put n k i j (r ∷ rs) out h g =
    records-put n k (suc i) (j + c) rs (put_record n k i j r out) (omega arith) (omega (arith, many))
    ∙ (λ z. in_five rs (at-moment z) (at-step z) (at_count z) (at-port z) (at_value z) (here z))
    ∙ unfold firsts mores boths in (merged parts 0 out (
      omega arith,
      (
        omega (arith, lm, length-column 8 (λ r. r.moment) rs),
        (
          omega (arith, ls, length-column 2 (λ r. r.step) rs),
          (omega (arith, lc, length-column 2 (λ r. length r.messages) rs), (omega (arith, lp, length-column 1 port (messages_of rs), many), tt)),
        ),
      ),
    ))
    ∙ (λ z. sets (sets (sets (sets (sets out (4 + 8 * i) (bytes_of 8 r.moment ++ moments_of rs)) (4 + 8 * n + 2 * i) (bytes_of 2 r.step ++ steps_of rs))
    (4 + 10 * n + 2 * i) (bytes_of 2 c ++ counts_of rs)) (4 + 12 * n + j) (all-ports z)) (4 + 12 * n + k + 2 * j) (all-values z))
  where
    c : ℕ
    c = length r.messages

    lm : length (bytes_of 8 r.moment) ≡ 8
    lm = length-bytes 8 r.moment

    ls : length (bytes_of 2 r.step) ≡ 2
    ls = length-bytes 2 r.step

    lc : length (bytes_of 2 (length r.messages)) ≡ 2
    lc = length-bytes 2 (length r.messages)

    lp : length (column 1 port r.messages) ≡ length r.messages * 1
    lp = length-column 1 port r.messages

    lv : length (column 2 value r.messages) ≡ length r.messages * 2
    lv = length-column 2 value r.messages

    many : length (r.messages ++ messages_of rs) ≡ length r.messages + length (messages_of rs)
    many = length-append r.messages (messages_of rs)

    all-ports : column 1 port r.messages ++ ports_of rs ≡ column 1 port (r.messages ++ messages_of rs)
    all-ports = sym (column-append 1 port r.messages (messages_of rs))

    all-values : column 2 value r.messages ++ values_of rs ≡ column 2 value (r.messages ++ messages_of rs)
    all-values = sym (column-append 2 value r.messages (messages_of rs))

    -- the places of the next record are where this one's bytes end
    at-moment : 4 + 8 * suc i ≡ 4 + 8 * i + length (bytes_of 8 r.moment)
    at-moment = omega (arith, lm)

    at-step : 4 + 8 * n + 2 * suc i ≡ 4 + 8 * n + 2 * i + length (bytes_of 2 r.step)
    at-step = omega (arith, ls)

    at_count : 4 + 10 * n + 2 * suc i ≡ 4 + 10 * n + 2 * i + length (bytes_of 2 (length r.messages))
    at_count = omega (arith, lc)

    at-port : 4 + 12 * n + (j + length r.messages) ≡ 4 + 12 * n + j + length (column 1 port r.messages)
    at-port = omega (arith, lp)

    at_value : 4 + 12 * n + k + 2 * (j + length r.messages) ≡ 4 + 12 * n + k + 2 * j + length (column 2 value r.messages)
    at_value = omega (arith, lv)

    here : put_record n k i j r out
        ≡ sets (sets (sets (sets (sets out (4 + 8 * i) (bytes_of 8 r.moment)) (4 + 8 * n + 2 * i) (bytes_of 2 r.step))
        (4 + 10 * n + 2 * i) (bytes_of 2 (length r.messages))) (4 + 12 * n + j) (column 1 port r.messages))
        (4 + 12 * n + k + 2 * j) (column 2 value r.messages)
    here = unfold put_record in (messages-put n k j r.messages _ (omega (arith, g, many)))

    parts : List Write
    parts =
        record { at = 4 + 8 * i; first = bytes_of 8 r.moment; more = moments_of rs }
        ∷ record { at = 4 + 8 * n + 2 * i; first = bytes_of 2 r.step; more = steps_of rs }
        ∷ record { at = 4 + 10 * n + 2 * i; first = bytes_of 2 c; more = counts_of rs }
        ∷ record { at = 4 + 12 * n + j; first = column 1 port r.messages; more = ports_of rs }
        ∷ record { at = 4 + 12 * n + k + 2 * j; first = column 2 value r.messages; more = values_of rs } ∷ []

-- ---- the whole buffer

-- The record count, then every record into its columns: the buffer holds the columns, and the bytes beyond them stay.
pub columns-put : (rs : List TraceRecord) (out : Bytes) → length (column_bytes rs) ≤ length out
    → put_records (length rs) (length (messages_of rs)) 0 0 rs (sets out 0 (bytes_of 4 (length rs))) ≡ stored (column_bytes rs) out
unfolding column_bytes in_five
columns-put rs out h =
    records-put n k 0 0 rs (sets out 0 a) (omega arith) (omega arith)
    ∙ (λ z. in_five rs (at1 z) (at2 z) (at3 z) (at4 z) (at5 z) (sets out 0 a))
    ∙ rw (
      ← sets-append a b out 0,
      ← sets-append (a ++ b) c out 0,
      ← sets-append (a ++ b ++ c) d out 0,
      ← sets-append (a ++ b ++ c ++ d) e out 0,
      ← sets-append (a ++ b ++ c ++ d ++ e) f out 0,
    ) (sets-front out (a ++ b ++ c ++ d ++ e ++ f) h)
  where
    n : ℕ
    n = length rs

    k : ℕ
    k = length (messages_of rs)

    a : Bytes
    a = head_of rs

    b : Bytes
    b = moments_of rs

    c : Bytes
    c = steps_of rs

    d : Bytes
    d = counts_of rs

    e : Bytes
    e = ports_of rs

    f : Bytes
    f = values_of rs

    -- each column begins where the one before it ends
    at1 : 4 + 8 * 0 ≡ 0 + length a
    at1 = omega (arith, length-bytes 4 (length rs))

    at2 : 4 + 8 * n + 2 * 0 ≡ 0 + length (a ++ b)
    at2 = omega (arith, before-steps rs)

    at3 : 4 + 10 * n + 2 * 0 ≡ 0 + length (a ++ b ++ c)
    at3 = omega (arith, before-counts rs)

    at4 : 4 + 12 * n + 0 ≡ 0 + length (a ++ b ++ c ++ d)
    at4 = omega (arith, before-ports rs)

    at5 : 4 + 12 * n + k + 2 * 0 ≡ 0 + length (a ++ b ++ c ++ d ++ e)
    at5 = omega (arith, before-values rs)

put-row : (at : ℕ) (rs : List TraceRecord) (out : Bytes) → put_trace at rs out ≡ sets out at (trace_bytes rs)
unfolding put_trace trace_bytes concat
put-row at [] out = refl
put-row at (r ∷ rs) out =
    put-row (at + length (record_bytes r)) rs (sets out at (record_bytes r)) ∙ sym (sets-append (record_bytes r) (trace_bytes rs) out at)

-- Records put in a row from the front: the buffer holds the trace, and the bytes beyond it stay.
pub trace-put : (rs : List TraceRecord) (out : Bytes) → length (trace_bytes rs) ≤ length out → put_trace 0 rs out ≡ stored (trace_bytes rs) out
trace-put rs out h = put-row 0 rs out ∙ sets-front out (trace_bytes rs) h
