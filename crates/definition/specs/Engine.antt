-- The calls start, advance and reading: for all bytes and numbers put in, the numbers answered and the whole content of each lent
-- buffer afterwards. Assumes nothing.
use Rattle.std.specs.Prelude.{ℕ, ◌*◌, ◌/◌, ◌%◌, List, map, Bool, ◌&&◌, ◌||◌, not, cond, leb, ltb, eqb, length, get_or}
use Rattle.definition.specs.Lists.{concat, all}
use Rattle.definition.specs.Bytes.{Bytes, Result, ok, refused, ◌>>=◌, refuse_if, bytes_of, chunks, stored}
use Rattle.definition.specs.Limits.{message_size, max_given, max_moment, never_moment, position_size}
use Rattle.definition.specs.Model.{Bag, Model, component_at, atomics}
use Rattle.definition.specs.Records.{message_at, port_fits}
use Rattle.definition.specs.Pinned.Decoder.{accepted}
use Rattle.definition.specs.Devs.{Time, finite, never}
use Rattle.definition.specs.SavedRun.{Entry, Run, no_entry, atomic_count, run_of, run_bytes, next_due, run_fits}
use Rattle.definition.specs.Step.{nested}
use Rattle.definition.specs.Advance.{Progress, Ended, advance_from}

-- ---- what a call answers

-- "Start, flattening and any later writer of a buffer answer the number and the bytes written."
pub record Wrote : Type 0 where
  pub number : ℕ
  pub written : ℕ
  pub buffer : Bytes

-- "Advance answers number, instants done, steps, trace bytes"
pub record Advanced : Type 0 where
  pub number : ℕ
  pub instants : ℕ
  pub steps : ℕ
  pub used : ℕ
  pub run : Bytes
  pub trace : Bytes
  pub table : Bytes

-- The numbers among them, as they are told of each channel.
pub record Numbers : Type 0 where
  pub number : ℕ
  pub instants : ℕ
  pub steps : ℕ
  pub used : ℕ

unfoldable pub numbers_of : Advanced → Numbers
numbers_of a = record { number = a.number; instants = a.instants; steps = a.steps; used = a.used }

-- A number and zeros.
unfoldable pub number_alone : ℕ → Numbers
number_alone n = record { number = n; instants = 0; steps = 0; used = 0 }

-- "Reading gives phase, last moment, and the whole model's next due moment"
pub record WasRead : Type 0 where
  pub number : ℕ
  pub phase : ℕ
  pub last : ℕ
  pub due : ℕ

-- ---- writers

-- "15 lent buffer too short"; a refusal comes "with zeros in every other number of the outcome and no byte written".
unfoldable pub wrote : Bytes → Result Bytes → Wrote
wrote buffer (refused n) = record { number = n; written = 0; buffer = buffer }
wrote buffer (ok b) =
    cond (ltb (length buffer) (length b)) (record { number = 15; written = 0; buffer = buffer })
    (record { number = 0; written = length b; buffer = stored b buffer })

-- "Start writes 0, the initial phases and last moments 0."
unfoldable pub start_run : Model → Run
start_run m = record { opening = 0; entries = map (λ c. record { phase = (component_at m.components c).initial; last = 0 }) (atomics m.components) }

unfoldable pub start : Bytes → Bytes → Wrote
start file buffer = wrote buffer (do
  m ← accepted file
  ok (run_bytes (start_run m)))

-- ---- advance

-- The messages of a given bag: "rows of port 1, value 2".
unfoldable pub to_bag : Bytes → Bag
to_bag b = map (message_at 0) (chunks (length b / message_size) message_size b)

-- "12 length not a multiple of 3, over 16 messages, or a port above 3"
unfoldable pub bag_fits : Bytes → Bool
bag_fits b = eqb (length b % message_size) 0 && leb (length b) (message_size * max_given) && all port_fits (to_bag b)

-- "10 too short or does not fit"; "11 before the open moment, or above 1,000,000,000,000"; 12
unfoldable pub advance_checks : Model → Bytes → ℕ → Bytes → Result (Unit {0})
advance_checks m run t bag = do
  _ ← refuse_if (not (run_fits m run)) 10
  _ ← refuse_if (ltb t (run_of m run).opening || ltb max_moment t) 11
  refuse_if (not (bag_fits bag)) 12

-- "After an advance a lent table holds, for each atomic in file order, the rule of its last external part in the last instant done": "two
-- bytes an atomic".
unfoldable pub table_bytes : List ℕ → Bytes
table_bytes rules = concat (map (bytes_of position_size) rules)

-- "If no instant was done, or the table has under two bytes an atomic, the table stays untouched; bytes past its entries always stay."
unfoldable pub with_rules : {S : Type 0} → (atomic_number : ℕ) → Progress S → Bytes → Bytes
with_rules n p table = cond (eqb p.instants 0 || ltb (length table) (position_size * n)) table (stored (table_bytes p.rules) table)

-- The buffers with what was written at their fronts; "Bytes past that length stay."
unfoldable pub advanced : Bytes → Bytes → Bytes → Result (Ended (List Entry)) → Advanced
advanced run trace table (refused n) = record { number = n; instants = 0; steps = 0; used = 0; run = run; trace = trace; table = table }
advanced run trace table (ok a) =
    let p = a.progress in
    record {
      number = a.number;
      instants = p.instants;
      steps = p.steps;
      used = length p.trace;
      run = stored (run_bytes (record { opening = p.opening; entries = p.state })) run;
      trace = stored p.trace trace;
      table = with_rules (length p.state) p table;
    }

unfoldable pub advance : Bytes → Bytes → ℕ → Bytes → Bytes → Bytes → Advanced
advance file run t bag trace table = advanced run trace table (do
  m ← accepted file
  _ ← advance_checks m run t bag
  ok (advance_from (nested m) (length trace) t (to_bag bag) (run_of m run).opening (run_of m run).entries))

-- ---- reading

-- "18,446,744,073,709,551,615 for never"
unfoldable pub due_number : Time → ℕ
due_number (finite a) = a
due_number never = never_moment

unfoldable pub was_read : Result WasRead → WasRead
was_read (ok r) = r
was_read (refused n) = record { number = n; phase = 0; last = 0; due = 0 }

-- "10 too short or does not fit"; "16 position at or above the number of atomics"
unfoldable pub reading_checks : Model → Bytes → ℕ → Result (Unit {0})
reading_checks m run position = do
  _ ← refuse_if (not (run_fits m run)) 10
  refuse_if (leb (atomic_count m) position) 16

-- What is read at a position, where the next due moment is `next`.
unfoldable pub read_at : List Entry → ℕ → Time → WasRead
read_at rs position next = let r = get_or rs position no_entry in record { number = 0; phase = r.phase; last = r.last; due = due_number next }

unfoldable pub reading : Bytes → Bytes → ℕ → WasRead
reading file run position = was_read (do
  m ← accepted file
  _ ← reading_checks m run position
  ok (let rs = (run_of m run).entries in read_at rs position (next_due m rs)))
