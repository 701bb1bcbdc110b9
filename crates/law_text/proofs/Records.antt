-- Trace records read back: a record's count and where it ends, how much of the trace its messages take, and that all of it is bytes. Assumes
-- nothing.
use mathlib.Core.Path.{◌≡◌, refl, ap, ◌∙◌}
use Prim.Native.Nat.{ℕ, ◌+◌, ◌*◌, ◌^◌, ◌≤◌, ◌<◌}
use mathlib.Core.List.{List, [], ◌∷◌, ◌++◌, map, append_assoc}
use native.Mathlib.Omega.{arith}
use lib.ListN.{length, length-append}
use Rattle.definition.specs.Lists.{concat}
use Rattle.definition.specs.Bytes.{Bytes, AllBytes, none, number_at, bytes_of, laid_out}
use Rattle.definition.specs.Limits.{message_size, max_root_bag}
use Rattle.definition.specs.Model.{Bag, Message}
use Rattle.definition.specs.Records.{message_bytes}
use Rattle.definition.specs.Instant.{TraceRecord, record_bytes, trace_bytes}
use Rattle.law_model.proofs.Codec.{append-bytes, drop-bytes, le-small, length-bytes, number-bytes, number-front, number_behind, rows-length}

-- ---- a number read of bytes

pub number_small : (w at : ℕ) (s : Bytes) → AllBytes s → number_at w at s < 256 ^ w
unfolding number_at
number_small w at s h = le-small w (drop-bytes at h)

-- ---- messages

message-size : (x : Message) → length (message_bytes x) ≡ message_size
unfolding message_bytes laid_out bytes_of
message-size x = refl

message-bytes : (x : Message) → AllBytes (message_bytes x)
unfolding message_bytes laid_out
message-bytes x = append-bytes (number-bytes 1 x.port) (append-bytes (number-bytes 2 x.value) none)

messages-bytes : (xs : Bag) → AllBytes (concat (map message_bytes xs))
unfolding concat
messages-bytes [] = none
messages-bytes (x ∷ xs) = append-bytes (message-bytes x) (messages-bytes xs)

-- ---- a record

module _ (r : TraceRecord) where
  abbrev n : ℕ
  n = length r.messages

  abbrev body : Bytes
  body = concat (map message_bytes r.messages)

  pub record-bytes : AllBytes (record_bytes r)
  unfolding record_bytes
  record-bytes =
      append-bytes (append-bytes (append-bytes (number-bytes 8 r.moment) (number-bytes 2 r.step)) (number-bytes 2 n)) (messages-bytes r.messages)

  pub record_length_lem : length (record_bytes r) ≡ 12 + message_size * n
  unfolding record_bytes
  record_length_lem =
      let a = bytes_of 8 r.moment in
      let b = bytes_of 2 r.step in
      let c = bytes_of 2 n in
      omega (
        arith,
        length-append (a ++ b ++ c) body,
        length-append (a ++ b) c,
        length-append a b,
        length-bytes 8 r.moment,
        length-bytes 2 r.step,
        length-bytes 2 n,
        rows-length message_size message_bytes message-size r.messages,
      )

  pub record-count : (rest : Bytes) → n ≤ max_root_bag → number_at 2 10 (record_bytes r ++ rest) ≡ n
  unfolding record_bytes
  record-count rest h =
      let a = bytes_of 8 r.moment in
      let b = bytes_of 2 r.step in
      let c = bytes_of 2 n in
      let e : (((a ++ b) ++ c) ++ body) ++ rest ≡ (a ++ b) ++ (c ++ (body ++ rest)) = append_assoc ((a ++ b) ++ c) body rest ∙ append_assoc (a ++ b) c (body ++ rest) in
      ap (number_at 2 10) e ∙ number_behind 2 10 (a ++ b) (c ++ (body ++ rest)) (omega (arith, length-append a b, length-bytes 8 r.moment, length-bytes 2 r.step))
      ∙ number-front 2 n (body ++ rest) (omega arith)

-- ---- records

pub trace-bytes : (rs : List TraceRecord) → AllBytes (trace_bytes rs)
unfolding trace_bytes concat
trace-bytes [] = none
trace-bytes (r ∷ rs) = append-bytes (record-bytes r) (trace-bytes rs)

-- The messages of all records.
unfoldable pub messages_in : List TraceRecord → ℕ
messages_in [] = 0
messages_in (r ∷ rs) = length r.messages + messages_in rs

pub messages-room : (rs : List TraceRecord) → message_size * messages_in rs ≤ length (trace_bytes rs)
unfolding trace_bytes concat messages_in
messages-room [] = omega arith
messages-room (r ∷ rs) = omega (arith, length-append (record_bytes r) (trace_bytes rs), record_length_lem r, messages-room rs)
