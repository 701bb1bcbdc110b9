-- An instant, all steps at one moment, the trace records of its steps and the rules that decided in it; over anything that takes steps.
-- Assumes nothing.
use Rattle.std.specs.Prelude.{ℕ, zero, suc, List, [], ◌∷◌, ◌++◌, map, Bool, ◌||◌, not, cond, length}
use Rattle.std.proofs.Math.Option.{Option, none, some}
use Rattle.definition.specs.Lists.{concat, is_empty, sort_by}
use Rattle.definition.specs.Bytes.{Bytes, bytes_of}
use Rattle.definition.specs.Limits.{max_steps}
use Rattle.definition.specs.Model.{Bag, message_le}
use Rattle.definition.specs.Records.{message_bytes}
use Rattle.definition.specs.Devs.{finite, same_time}
use Rattle.definition.specs.Atomic.{told_as}
use Rattle.definition.specs.Step.{Output, Simulator}

-- ---- steps

-- What an instant leaves: what its steps gave in turn and the state, or something still due after all steps.
pub data Instant (S : Type 0) : Type 0 where
  done : List Output → S → Instant S
  jammed : Instant S

unfoldable pub stepped : {S : Type 0} → Output → Instant S → Instant S
stepped x (done xs s) = done (x ∷ xs) s
stepped x jammed = jammed

module _ {S : Type 0} (k : Simulator S) where
  unfoldable pub is_due : ℕ → S → Bool
  is_due now s = same_time (k.next s) (finite now)

  -- "A step is taken if something is due or the given bag is not empty"
  unfoldable pub goes_on : ℕ → Bag → S → Bool
  goes_on now x s = is_due now s || not (is_empty x)

  -- At most n steps; "A given bag belongs to the first of them.".
  unfoldable pub steps_at : ℕ → ℕ → Bag → S → Instant S
  steps_at zero now x s = cond (goes_on now x s) jammed (done [] s)
  steps_at (suc n) now x s =
      let r = k.step now x s in
      let on = stepped r.out (steps_at n now [] r.state) in
      cond (goes_on now x s) on (done [] s)

  unfoldable pub instant : ℕ → Bag → S → Instant S
  instant now x s = steps_at max_steps now x s

-- ---- trace records

-- "moment (8), step in the instant from 0 (2), message count (2), messages of 3 bytes"
pub record TraceRecord : Type 0 where
  pub moment : ℕ
  pub step : ℕ
  pub messages : Bag

unfoldable pub record_bytes : TraceRecord → Bytes
record_bytes r =
    bytes_of 8 r.moment ++ bytes_of 2 r.step ++ bytes_of 2 (length r.messages) ++ concat (map message_bytes r.messages)

unfoldable pub trace_bytes : List TraceRecord → Bytes
trace_bytes rs = concat (map record_bytes rs)

-- "A trace record stands for each step with output at the root", its bag "in rising order of port, then value, equal ones repeated":
-- the records of the steps from step k on.
unfoldable pub records_from : ℕ → ℕ → List Output → List TraceRecord
records_from now k [] = []
records_from now k (x ∷ xs) =
    let rest = records_from now (suc k) xs in
    cond (is_empty x.bag) rest (record { moment = now; step = k; messages = sort_by message_le x.bag } ∷ rest)

-- The bytes of an instant's records.
unfoldable pub instant_trace : ℕ → List Output → Bytes
instant_trace now xs = trace_bytes (records_from now 0 xs)

-- ---- the rules that decided

-- "the rule of its last external part": of two steps in turn the later one's, where the atomic has an external part in it.
unfoldable pub last_part : Option ℕ → Option ℕ → Option ℕ
last_part before none = before
last_part before (some i) = some i

unfoldable pub last_parts : List (Option ℕ) → List (Option ℕ) → List (Option ℕ)
last_parts [] qs = qs
last_parts (p ∷ ps) [] = p ∷ ps
last_parts (p ∷ ps) (q ∷ qs) = last_part p q ∷ last_parts ps qs

-- Of all steps of an instant; "with 65,535 if it had none".
unfoldable pub instant_parts : List Output → List (Option ℕ)
instant_parts [] = []
instant_parts (x ∷ xs) = last_parts x.decided (instant_parts xs)

unfoldable pub instant_rules : List Output → List ℕ
instant_rules xs = map told_as (instant_parts xs)
