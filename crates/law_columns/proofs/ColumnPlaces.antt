-- The six columns of a trace: how many bytes stand before each of them, how many there are in all, and that all are bytes. Assumes nothing.
use mathlib.Core.Path.{◌≡◌}
use Prim.Native.Nat.{◌+◌, ◌*◌}
use mathlib.Core.List.{List, ◌++◌}
use native.Mathlib.Omega.{arith}
use lib.ListN.{length, length-append}
use Rattle.definition.specs.Bytes.{Bytes, AllBytes, bytes_of}
use Rattle.definition.specs.Instant.{TraceRecord, trace_bytes}
use Rattle.definition.specs.Columns.{column, messages_of, column_bytes}
use Rattle.law_model.proofs.Codec.{append-bytes, length-bytes, number-bytes}
use Rattle.law_columns.proofs.WholeTraces.{length-trace}
use Rattle.law_columns.proofs.ColumnBytes.{length-column, column-bytes}

abbrev pub head_of : List TraceRecord → Bytes
head_of rs = bytes_of 4 (length rs)

abbrev pub moments_of : List TraceRecord → Bytes
moments_of rs = column 8 (λ r. r.moment) rs

abbrev pub steps_of : List TraceRecord → Bytes
steps_of rs = column 2 (λ r. r.step) rs

abbrev pub counts_of : List TraceRecord → Bytes
counts_of rs = column 2 (λ r. length r.messages) rs

abbrev pub ports_of : List TraceRecord → Bytes
ports_of rs = column 1 (λ x. x.port) (messages_of rs)

abbrev pub values_of : List TraceRecord → Bytes
values_of rs = column 2 (λ x. x.value) (messages_of rs)

module _ (rs : List TraceRecord) where
  pub before-steps : length (head_of rs ++ moments_of rs) ≡ 4 + 8 * length rs
  before-steps = omega (arith, length-append (head_of rs) (moments_of rs), length-bytes 4 (length rs), length-column 8 (λ r. r.moment) rs)

  pub before-counts : length (head_of rs ++ moments_of rs ++ steps_of rs) ≡ 4 + 10 * length rs
  before-counts = omega (arith, before-steps, length-append (head_of rs ++ moments_of rs) (steps_of rs), length-column 2 (λ r. r.step) rs)

  pub before-ports : length (head_of rs ++ moments_of rs ++ steps_of rs ++ counts_of rs) ≡ 4 + 12 * length rs
  before-ports =
      omega (arith, before-counts, length-append (head_of rs ++ moments_of rs ++ steps_of rs) (counts_of rs), length-column 2 (λ r. length r.messages) rs)

  pub before-values : length (head_of rs ++ moments_of rs ++ steps_of rs ++ counts_of rs ++ ports_of rs) ≡ 4 + 12 * length rs + length (messages_of rs)
  before-values =
      omega (
        arith,
        before-ports,
        length-append (head_of rs ++ moments_of rs ++ steps_of rs ++ counts_of rs) (ports_of rs),
        length-column 1 (λ x. x.port) (messages_of rs),
      )

  pub length-columns : length (column_bytes rs) ≡ 4 + 12 * length rs + 3 * length (messages_of rs)
  unfolding column_bytes
  length-columns =
      omega (
        arith,
        before-values,
        length-append (head_of rs ++ moments_of rs ++ steps_of rs ++ counts_of rs ++ ports_of rs) (values_of rs),
        length-column 2 (λ x. x.value) (messages_of rs),
      )

  -- The columns are four bytes longer than their trace.
  pub four-longer : length (column_bytes rs) ≡ length (trace_bytes rs) + 4
  four-longer = omega (arith, length-columns, length-trace rs)

  pub column-bytes-all : AllBytes (column_bytes rs)
  unfolding column_bytes
  column-bytes-all =
      append-bytes (append-bytes (append-bytes (append-bytes (append-bytes (number-bytes 4 (length rs)) (column-bytes 8 (λ r. r.moment) rs))
      (column-bytes 2 (λ r. r.step) rs)) (column-bytes 2 (λ r. length r.messages) rs)) (column-bytes 1 (λ x. x.port) (messages_of rs)))
      (column-bytes 2 (λ x. x.value) (messages_of rs))
