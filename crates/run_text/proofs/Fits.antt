-- No text is longer than its room: a number of some bytes has few digits, a message has one line, and the messages that an advance writes
-- fit in the trace. Assumes nothing.
use mathlib.Core.Path.{◌≡◌, refl, sym, ap, ◌∙◌, subst}
use Prim.Native.Nat.{ℕ, zero, suc, ◌+◌, ◌*◌, ◌/◌, ◌%◌, ◌^◌, ◌≤◌, ◌<◌}
use mathlib.Core.List.{List, [], ◌∷◌, ◌++◌}
use mathlib.Core.Bool.{Bool, true, false, cond}
use native.Mathlib.Omega.{arith}
use lib.Dec.{ltb, eqb}
use lib.ListN.{length, drop, replicate, length-append, length-replicate}
use lib.Seq.{drop_at}
use borrow.Author.Tests.{ltb-false, leb-true}
use Rattle.definition.specs.Lists.{concat, all}
use Rattle.definition.specs.Bytes.{Bytes, AllBytes, number_at}
use Rattle.definition.specs.Limits.{message_size}
use Rattle.definition.specs.Instant.{TraceRecord, record_bytes, trace_bytes}
use Rattle.definition.specs.Engine.{Wrote, start, advance}
use Rattle.law_model.proofs.Codec.{drop-bytes}
use Rattle.law_base.proofs.Lists.{all_head, all_tail}
use Rattle.law_text.proofs.Records.{number_small, record_length_lem, record-count, trace-bytes, messages_in, messages-room}
use Rattle.law_text.proofs.Traced.{small_record, Traced, written, advance-traced}
use Rattle.run_text.specs.Text.{digit, decimal_in, max_digits, field, space, newline, first_line, message_line, message_lines, record_head, message_count, record_lines, behind_record, lines, trace_lines, end_line, refused_line, last_line, advanced_text, started_text, moment_size, input_text, run_room, trace_room, run_text, longest_line, longest_last, text_room}

-- ---- numbers

-- A number below 10 ^ j has at most j digits.
digits : (k j n : ℕ) → n < 10 ^ suc j → length (decimal_in k n) ≤ suc j
unfolding decimal_in
digits zero j n h = omega arith
digits (suc k) j n h = go (ltb n 10) refl j h (λ i g. digits k i (n / 10) g)
  where
    go : (b : Bool) → ltb n 10 ≡ b → (j : ℕ) → n < 10 ^ suc j → ((i : ℕ) → n / 10 < 10 ^ suc i → length (decimal_in k (n / 10)) ≤ suc i)
        → length (cond b (digit n ∷ []) (decimal_in k (n / 10) ++ digit (n % 10) ∷ [])) ≤ suc j
    go true e j h ih = omega arith
    go false e zero h ih = absurd (omega (arith, ltb-false n 10 e))
    go false e (suc j) h ih = omega (arith, length-append (decimal_in k (n / 10)) (digit (n % 10) ∷ []), ih j (omega arith))

-- .. and no more than are asked for.
asked : (k n : ℕ) → length (decimal_in k n) ≤ k
unfolding decimal_in
asked zero n = omega arith
asked (suc k) n = go (ltb n 10) (asked k (n / 10))
  where
    go : (b : Bool) → length (decimal_in k (n / 10)) ≤ k → length (cond b (digit n ∷ []) (decimal_in k (n / 10) ++ digit (n % 10) ∷ [])) ≤ suc k
    go true h = omega arith
    go false h = omega (arith, length-append (decimal_in k (n / 10)) (digit (n % 10) ∷ []))

field_fits : (j n after : ℕ) → n < 10 ^ suc j → length (field n after) ≤ suc (suc j)
unfolding field
field_fits j n after h = omega (arith, length-append (decimal_in max_digits n) (after ∷ []), digits max_digits j n h)

any_field : (n after : ℕ) → length (field n after) ≤ 21
unfolding field
any_field n after = omega (arith, length-append (decimal_in max_digits n) (after ∷ []), asked max_digits n)

-- ---- lines

message-fits : (moment step : ℕ) (row : Bytes) → step < 65536 → AllBytes row → length (message_line moment step row) ≤ longest_line
unfolding message_line
message-fits moment step row h b =
    let port = field_fits 2 (number_at 1 0 row) space (omega (arith, number_small 1 0 row b)) in
    let value = field_fits 4 (number_at 2 1 row) newline (omega (arith, number_small 2 1 row b)) in
    simp length-append (omega (arith, any_field moment space, field_fits 4 step space (omega arith)))

messages-fit : (n moment step : ℕ) (rows : Bytes) → step < 65536 → AllBytes rows → length (message_lines n moment step rows) ≤ longest_line * n
unfolding message_lines
messages-fit zero moment step rows h b = omega arith
messages-fit (suc n) moment step rows h b =
    let rest = messages-fit n moment step (drop message_size rows) h (drop-bytes message_size b) in
    simp length-append (omega (arith, message-fits moment step rows h b))

record-fits : (trace : Bytes) → AllBytes trace → length (record_lines trace) ≤ longest_line * message_count trace
unfolding record_lines
record-fits trace b =
    messages-fit (message_count trace) (number_at 8 0 trace) (number_at 2 8 trace) (drop record_head trace) (omega (arith, number_small 2 8 trace b)) (drop-bytes record_head b)

-- The bytes behind a record are those of the next ones.
behind : (r : TraceRecord) (rest : Bytes) → small_record r ≡ true → behind_record (record_bytes r ++ rest) ≡ rest
unfolding behind_record
behind r rest h =
    ap (λ n. drop (record_head + message_size * n) (record_bytes r ++ rest)) (record-count r rest (leb-true _ _ h))
    ∙ drop_at (record_bytes r) rest (record_head + message_size * length r.messages) (record_length_lem r)

-- Lines read of whole records: as many as there are messages.
lines_fit : (n : ℕ) (rs : List TraceRecord) → all small_record rs ≡ true → length (lines n (trace_bytes rs)) ≤ longest_line * messages_in rs
unfolding lines trace_bytes concat messages_in
lines_fit zero rs h = omega arith
lines_fit (suc n) [] h = omega arith
lines_fit (suc n) (r ∷ rs) h = go (eqb (length trace) 0) (lines_fit n rs (all_tail small_record r rs h))
  where
    trace : Bytes
    trace = record_bytes r ++ trace_bytes rs

    small : small_record r ≡ true
    small = all_head small_record r rs h

    go : (b : Bool) → length (lines n (trace_bytes rs)) ≤ longest_line * messages_in rs
        → length (cond b [] (record_lines trace ++ lines n (behind_record trace))) ≤ longest_line * (length r.messages + messages_in rs)
    go true ih = omega arith
    go false ih =
        let count = record-count r (trace_bytes rs) (leb-true _ _ small) in
        rw (behind r (trace_bytes rs) small, length-append) (omega (arith, record-fits trace (trace-bytes (r ∷ rs))))

trace-fits : (room : ℕ) (trace : Bytes) → Traced room trace → length (trace_lines trace) ≤ longest_line * (room / message_size)
unfolding trace_lines
trace-fits room trace h =
    subst (λ b. length (lines (length b) b) ≤ longest_line * (room / message_size)) (sym h.bytes)
    (omega (arith, lines_fit (length (trace_bytes h.records)) h.records h.small, messages-room h.records, ap length h.bytes, h.within))

end_fits : (opening steps : ℕ) → length (end_line opening steps) ≤ longest_last
unfolding end_line
end_fits opening steps = simp length-append (omega (arith, any_field opening space, any_field steps newline))

refused-fits : (n : ℕ) → length (refused_line n) ≤ longest_last
unfolding refused_line
refused-fits n = omega (arith, any_field n newline)

last_fits : (refusal : ℕ) (run : Bytes) (steps : ℕ) → length (last_line refusal run steps) ≤ longest_last
unfolding last_line
last_fits refusal run steps = go (eqb refusal 0)
  where
    go : (b : Bool) → length (cond b (end_line (number_at 8 0 run) steps) (refused_line refusal)) ≤ longest_last
    go true = end_fits (number_at 8 0 run) steps
    go false = refused-fits refusal

-- ---- a run

advanced-fits : (file run : Bytes) (t : ℕ) (bag trace table : Bytes) → AllBytes file → length (advanced_text (advance file run t bag trace table)) ≤ longest_line * (length trace / message_size) + longest_last
unfolding advanced_text
advanced-fits file run t bag trace table b =
    let a = advance file run t bag trace table in
    let body = trace-fits (length trace) (written a) (advance-traced file run t bag trace table b) in
    rw length-append (omega (arith, last_fits a.number a.run a.steps))

started-fits : (model : Bytes) (end : ℕ) (trace : Bytes) (w : Wrote) → AllBytes model → length (started_text model end trace w) ≤ longest_line * (length trace / message_size) + longest_last
unfolding started_text
started-fits model end trace w bytes = go (eqb w.number 0)
  where
    go : (b : Bool) → length (cond b (advanced_text (advance model w.buffer end [] trace [])) (refused_line w.number)) ≤ longest_line * (length trace / message_size) + longest_last
    go true = advanced-fits model w.buffer end [] trace [] bytes
    go false = omega (arith, refused-fits w.number)

input-fits : (input run trace : Bytes) → AllBytes input → length trace ≡ trace_room → length (input_text input run trace) ≤ text_room
unfolding input_text
input-fits input run trace bytes e = go (ltb (length input) moment_size)
  where
    started : Bytes
    started = started_text (drop moment_size input) (number_at moment_size 0 input) trace (start (drop moment_size input) run)

    go : (b : Bool) → length (first_line ++ cond b (refused_line 1) started) ≤ text_room
    go true = omega (arith, refused-fits 1)
    go false = omega (arith, e, started-fits (drop moment_size input) (number_at moment_size 0 input) trace (start (drop moment_size input) run) (drop-bytes moment_size bytes))

-- The text of every input fits in its room.
pub text-fits : (input : Bytes) → AllBytes input → length (run_text input) ≤ text_room
unfolding run_text
text-fits input bytes = input-fits input (replicate run_room 0) (replicate trace_room 0) bytes (length-replicate {A = ℕ} trace_room 0)
