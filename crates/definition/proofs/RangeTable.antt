-- Half-open elapsed ranges: a message on the ticks where ranges end and meet, under either reading; the file with its fifth section and without,
-- in both directions and flattened; and the numbers that a fifth section gets. On the engine's definitions with the nest and with its flat form,
-- on the flat machine, and on the root's resultant carried by its own elapsed times. Assumes nothing.
use mathlib.Core.Path.{◌≡◌, refl}
use Prim.Native.Nat.{ℕ, suc, ◌+◌}
use mathlib.Core.List.{List, [], ◌∷◌, ◌++◌, map}
use lib.ListN.{replicate}
use Rattle.definition.specs.Lists.{concat}
use Rattle.definition.specs.Bytes.{Bytes, ok}
use Rattle.definition.specs.Limits.{never_field}
use Rattle.definition.specs.Model.{RangeReading, inclusive, half_open, Model, no_component}
use Rattle.definition.specs.File.{model_bytes}
use Rattle.definition.specs.Pinned.Decoder.{decode, check_model}
use Rattle.definition.specs.Flatten.{flat, flatten}
use Rattle.definition.specs.Demands.{flat_form}
use Rattle.definition.specs.Calls.{Call, start_call, reading_call, Answer, start_answer, advance_answer, reading_answer, Machine, called, run_calls, engine, flat_machine}
use Rattle.definition.specs.Carrying.{at_start}
use Rattle.definition.proofs.Models.{message, coupled_in, atomic_in, silent, saying, link}
use Rattle.definition.proofs.EdgeModels.{on_value_at}
use Rattle.definition.proofs.Table.{saved, traced}
use Rattle.definition.proofs.StrayTable.{value, carried_through, straying}
use Rattle.definition.proofs.DecidedTable.{lent, no}
use Rattle.definition.proofs.Literals.{b2, b3, b4, b5, z, endless, still, root, literals}
use Rattle.definition.proofs.RefusalTable.{File, lone, with_rules, elapsing, refusing}

-- ---- ranges that meet

-- The atomic 2, in the coupled 1, stays so long in phase 0. A 7 then has it say 1 or 2 at once and rest in phase 3 or 4. The ranges of its rules
-- meet at 500 and at 4,294,967,294; the last has no end. Between the one to 1,000 and the one from 1,001 on, half-open ranges leave 1,000 out.
unfoldable pub meeting : ℕ → RangeReading → Model
meeting stay r = record {
  components = no_component ∷ coupled_in 0 ∷ atomic_in 1 5 1 ∷ [];
  phases = silent stay 0 ∷ saying 0 3 (message 0 1) ∷ saying 0 4 (message 0 2) ∷ silent never_field 3 ∷ silent never_field 4 ∷ [];
  rules =
      on_value_at 2 0 7 0 500 1 ∷ on_value_at 2 0 7 500 1000 2 ∷ on_value_at 2 0 7 1001 4294967294 1 ∷ on_value_at 2 0 7 4294967294 never_field 2 ∷ [];
  couplings = link 0 0 1 0 ∷ link 1 0 0 0 ∷ link 1 0 2 0 ∷ link 2 0 1 0 ∷ [];
  ranges = r;
}

unfoldable pub readings : List RangeReading
readings = inclusive ∷ half_open ∷ []

-- A 7 at a moment, which is the time since the start: what is answered and the run then, under the inclusive reading and under the half-open one.
pub record Tick : Type 0 where
  pub stay : ℕ
  pub moment : ℕ
  pub answers : List (Answer × Bytes)

-- The rule at a position decides: the value said, in the second step; the phase after it, since that moment.
unfoldable pub says : ℕ → ℕ → ℕ → Answer × Bytes
says i v t = (advance_answer 0 1 2 15 (traced t 1 ((0, v) ∷ [])) (b2 i 0), saved (suc t) ((v + 2, t) ∷ []))

-- No rule decides: phase 0 since 0.
unfoldable pub passes : ℕ → Answer × Bytes
passes t = (advance_answer 0 1 1 0 (z 15) no, saved (suc t) ((0, 0) ∷ []))

-- A confluent transition: the rule told, and the next phase of where it led, since that moment.
unfoldable pub collides : Bytes → ℕ → ℕ → Answer × Bytes
collides told phase t = (advance_answer 0 1 1 0 (z 15) told, saved (suc t) ((phase, t) ∷ []))

-- In a stay without end, and at the end of a stay.
unfoldable pub amid : ℕ → (ℕ → Answer × Bytes) → (ℕ → Answer × Bytes) → Tick
amid t a b = record { stay = never_field; moment = t; answers = a t ∷ b t ∷ [] }

unfoldable pub ending : ℕ → (ℕ → Answer × Bytes) → (ℕ → Answer × Bytes) → Tick
ending t a b = record { stay = t; moment = t; answers = a t ∷ b t ∷ [] }

unfoldable pub tick_rows : List Tick
tick_rows =
    -- about 500, where two ranges meet
    amid 0 (says 0 1) (says 0 1) ∷ amid 499 (says 0 1) (says 0 1) ∷ amid 500 (says 0 1) (says 1 2) ∷ amid 501 (says 1 2) (says 1 2)
    -- about 1,000, where a range ends and none begins
    ∷ amid 999 (says 1 2) (says 1 2) ∷ amid 1000 (says 1 2) passes ∷ amid 1001 (says 2 1) (says 2 1)
    -- about the highest end there is; from there on without end
    ∷ amid 4294967293 (says 2 1) (says 2 1) ∷ amid 4294967294 (says 2 1) (says 3 2) ∷ amid 4294967295 (says 3 2) (says 3 2)
    ∷ amid 4294967296 (says 3 2) (says 3 2) ∷ amid 1000000000000 (says 3 2) (says 3 2)
    -- a confluent transition of order 1: its elapsed time is the advance
    ∷ ending 499 (collides (b2 0 0) 3) (collides (b2 0 0) 3) ∷ ending 500 (collides (b2 0 0) 3) (collides (b2 1 0) 4)
    ∷ ending 999 (collides (b2 1 0) 4) (collides (b2 1 0) 4) ∷ ending 1000 (collides (b2 1 0) 4) (collides no 0) ∷ []

unfoldable pub cue_at : ℕ → ℕ → Call
cue_at t v = lent t (b3 0 v 0) (z 15) (b2 7 7)

-- From the start, under both readings.
unfoldable pub ticked : (Model → Machine) → Tick → List (Answer × Bytes)
ticked machine x = map (λ r. called (machine (meeting x.stay r)) (z 8 ++ b2 1 0 ++ z 9) (cue_at x.moment 7)) readings

-- ---- the file

-- parts of the nest and of its flat form
unfoldable pub meeting_phases : Bytes
meeting_phases =
    b2 5 0 ++ still ++ b4 0 0 0 0 ++ b2 3 1 ++ b3 0 1 0 ++ z 9 ++ b4 0 0 0 0 ++ b2 4 1 ++ b3 0 2 0 ++ z 9
    ++ endless ++ b2 3 0 ++ z 12 ++ endless ++ b2 4 0 ++ z 12

unfoldable pub meeting_rules : ℕ → Bytes
meeting_rules c =
    b2 4 0
    ++ b4 c 0 1 0 ++ b4 7 0 7 0 ++ b2 1 0 ++ b4 0 0 0 0 ++ b4 244 1 0 0
    ++ b4 c 0 2 0 ++ b4 7 0 7 0 ++ b2 1 0 ++ b4 244 1 0 0 ++ b4 232 3 0 0
    ++ b4 c 0 1 0 ++ b4 7 0 7 0 ++ b2 1 0 ++ b4 233 3 0 0 ++ b4 254 255 255 255
    ++ b4 c 0 2 0 ++ b4 7 0 7 0 ++ b2 1 0 ++ b4 254 255 255 255 ++ b4 255 255 255 255

-- Four sections, and what follows them.
unfoldable pub meeting_file : Bytes → Bytes
meeting_file tail =
    b2 3 0 ++ root ++ b5 0 0 0 0 0 ++ b5 1 1 5 0 1 ++ meeting_phases ++ meeting_rules 2
    ++ b2 4 0 ++ b4 0 0 1 0 ++ b4 1 0 0 0 ++ b4 1 0 2 0 ++ b4 2 0 1 0 ++ tail

unfoldable pub meeting_flat : Bytes → Bytes
meeting_flat tail =
    b2 2 0 ++ root ++ b5 1 0 5 0 1 ++ meeting_phases ++ meeting_rules 1 ++ b2 2 0 ++ b4 0 0 1 0 ++ b4 1 0 0 0 ++ tail

-- count 1, then the byte 2
unfoldable pub fifth : Bytes
fifth = b3 1 0 2

-- A 9 at 250, for which there is no rule, then a 7 on the very tick: 500 ticks since the start, and not 250 since the 9.
unfoldable pub tick_calls : List Call
tick_calls = start_call ∷ cue_at 250 9 ∷ cue_at 500 7 ∷ reading_call 0 ∷ []

unfoldable pub tick_so : ℕ → ℕ → List Answer × Bytes
tick_so i v = (
  start_answer 0 19 ∷ advance_answer 0 1 1 0 (z 15) no
      ∷ advance_answer 0 1 2 15 (b2 244 1 ++ z 6 ++ b2 1 0 ++ b2 1 0 ++ b3 0 v 0) (b2 i 0) ∷ reading_answer 0 (v + 2) 500 18446744073709551615 ∷ [],
  b2 245 1 ++ z 6 ++ b2 1 0 ++ (v + 2) ∷ b2 244 1 ++ z 6,
)

-- The engine on a file, and both machines on what flattening writes for it.
unfoldable pub machines_on : Bytes → List Machine
machines_on file = engine file ∷ engine (flat_form file (z 191)) ∷ flat_machine (flat_form file (z 191)) ∷ []

-- ---- the resultant, carried through calls from its start

-- A 9 at 250 that is let pass, then a 7: what is heard, and what the state stands for.
unfoldable pub carried_to : ℕ → ℕ → List (Bytes × List (ℕ × ℕ))
carried_to stay t =
    map (λ r. let m = meeting stay r in carried_through m 0 (at_start m).since [] ((250, value 9) ∷ (t, value 7) ∷ [])) readings

-- ---- the numbers

-- what follows the four sections of the lone root
unfoldable pub tails : List File
tails =
    -- the section; cut off in its count, and after it; two bytes of another count
    (fifth, 0) ∷ (1 ∷ [], 20) ∷ (b2 1 0, 20) ∷ (b2 2 0, 20) ∷ (b2 0 0, 20)
    -- counts 0, 2, 256, 257 and 65,535; 2 with a byte for each
    ∷ (b3 0 0 2, 20) ∷ (b3 2 0 2, 20) ∷ (b3 0 1 2, 20) ∷ (b3 1 1 2, 20) ∷ (b3 255 255 2, 20) ∷ (b4 2 0 2 2, 20)
    -- bytes 0, 1, 3 and 255
    ∷ (b3 1 0 0, 20) ∷ (b3 1 0 1, 20) ∷ (b3 1 0 3, 20) ∷ (b3 1 0 255, 20)
    -- after it one byte, and the section again; a wrong byte and one more (20 before 2)
    ∷ (fifth ++ z 1, 2) ∷ (fifth ++ fifth, 2) ∷ (b3 1 0 3 ++ z 1, 20) ∷ []

unfoldable pub at500 : Bytes
at500 = b4 244 1 0 0

-- one atomic with a rule, its elapsed ends, no coupling, and what follows
unfoldable pub ends_at : Bytes → Bytes → Bytes → Bytes
ends_at low high tail = elapsing low high ++ z 2 ++ tail

-- two rules from 0 on, with their high ends
unfoldable pub two_rules : Bytes → Bytes → Bytes
two_rules first second = with_rules 2 (b4 1 0 0 0 ++ z 10 ++ first ++ b4 1 0 0 0 ++ z 10 ++ second) ++ z 2 ++ fifth

-- 33 * 32 routes: from the root into the coupled 1, and on to its atomic, whose rule has equal ends
unfoldable pub crowded : Bytes → Bytes
crowded tail =
    b2 3 0 ++ root ++ b5 0 0 0 0 0 ++ b5 1 1 1 0 0 ++ b2 1 0 ++ still ++ b2 1 0 ++ b4 2 0 0 0 ++ z 6 ++ at500 ++ at500
    ++ b2 65 0 ++ concat (replicate 33 (b4 0 0 1 0)) ++ concat (replicate 32 (b4 1 0 2 0)) ++ tail

unfoldable pub ends : List File
ends =
    -- equal ends 0, 500 and 4,294,967,295, with four sections and with five
    (ends_at (z 4) (z 4) [], 0) ∷ (ends_at at500 at500 [], 0) ∷ (ends_at endless endless [], 0)
    ∷ (ends_at (z 4) (z 4) fifth, 7) ∷ (ends_at at500 at500 fifth, 7) ∷ (ends_at endless endless fifth, 7)
    -- one tick apart: from 0, from 255, to no end; and 2^16 ticks, 2^24 ticks
    ∷ (ends_at (z 4) (b4 1 0 0 0) fifth, 0) ∷ (ends_at (b4 255 0 0 0) (b4 0 1 0 0) fifth, 0) ∷ (ends_at (b4 254 255 255 255) endless fifth, 0)
    ∷ (ends_at at500 (b4 244 1 1 0) fifth, 0) ∷ (ends_at at500 (b4 244 1 0 1) fifth, 0)
    -- in the second of two rules, in the first, in none
    ∷ (two_rules at500 (z 4), 7) ∷ (two_rules (z 4) at500, 7) ∷ (two_rules at500 at500, 0)
    -- equal ends: 8 and 20 before this 7, and this 7 before 2
    ∷ (elapsing at500 at500 ++ b2 1 0 ++ b4 1 0 1 0 ++ fifth, 8) ∷ (ends_at at500 at500 (b3 1 0 3), 20) ∷ (ends_at at500 at500 (b2 1 0), 20)
    ∷ (ends_at at500 at500 (fifth ++ z 1), 7)
    -- a low end above its high: 7 with its record, before 8 and before 20
    ∷ (elapsing at500 (z 4) ++ b2 1 0 ++ b4 1 0 1 0 ++ fifth, 7) ∷ (ends_at at500 (z 4) (b3 1 0 3), 7)
    -- a coupling that breaks a line: 8 before 20
    ∷ (elapsing (z 4) at500 ++ b2 1 0 ++ b4 1 0 1 0 ++ b3 1 0 3, 8)
    -- equal ends and too many routes: 9 with four sections, and with five this 7 before it
    ∷ (crowded [], 9) ∷ (crowded fifth, 7) ∷ []

-- ---- the rows

unfoldable pub ranging : Type 0
unfolding
    straying literals refusing flat_form lent no meeting readings says passes collides amid ending tick_rows cue_at ticked meeting_phases meeting_rules
    meeting_file meeting_flat fifth tick_calls tick_so machines_on carried_to tails at500 ends_at two_rules crowded ends
ranging = Unit {0}

pub engine-ticks : map (ticked (λ m. engine (model_bytes m))) tick_rows ≡ map (λ x. x.answers) tick_rows
unfolding ranging
engine-ticks = refl

pub engine-flat-ticks : map (ticked (λ m. engine (model_bytes (flat m)))) tick_rows ≡ map (λ x. x.answers) tick_rows
unfolding ranging
engine-flat-ticks = refl

pub flat-ticks : map (ticked (λ m. flat_machine (model_bytes (flat m)))) tick_rows ≡ map (λ x. x.answers) tick_rows
unfolding ranging
flat-ticks = refl

pub meeting-written : map (λ r. model_bytes (meeting never_field r)) readings ≡ meeting_file [] ∷ meeting_file fifth ∷ []
unfolding ranging
meeting-written = refl

pub meeting-read : map decode (meeting_file [] ∷ meeting_file fifth ∷ []) ≡ map (λ r. ok (meeting never_field r)) readings
unfolding ranging
meeting-read = refl

-- the section is copied, from the nest and from its flat form; it takes three bytes more of the buffer, and not one may be missing
pub meeting-flattened : map (λ f. flatten f (replicate 191 255)) (meeting_file [] ∷ meeting_file fifth ∷ meeting_flat fifth ∷ [])
    ++ (flatten (meeting_file fifth) (replicate 190 255) ∷ [])
    ≡ record { number = 0; written = 188; buffer = meeting_flat [] ++ replicate 3 255 }
    ∷ record { number = 0; written = 191; buffer = meeting_flat (b3 1 0 2) } ∷ record { number = 0; written = 191; buffer = meeting_flat (b3 1 0 2) }
    ∷ record { number = 15; written = 0; buffer = replicate 190 255 } ∷ []
unfolding ranging
meeting-flattened = refl

-- on the very tick, nest against flat form: rule 0 with four sections, rule 1 with five
pub same-tick : map (λ tail. map (λ k. run_calls k (z 19) tick_calls) (machines_on (meeting_file tail))) ([] ∷ fifth ∷ [])
    ≡ replicate 3 (tick_so 0 1) ∷ replicate 3 (tick_so 1 2) ∷ []
unfolding ranging
same-tick = refl

-- what was spent before the 9 counts, also where a stay of 1,000 ticks ends
pub carried-ticks : carried_to never_field 500 ∷ carried_to 1000 1000 ∷ [] ≡
    ((traced 500 1 ((0, 1) ∷ []), (3, 500) ∷ []) ∷ (traced 500 1 ((0, 2) ∷ []), (4, 500) ∷ []) ∷ [])
    ∷ (([], (4, 1000) ∷ []) ∷ ([], (0, 1000) ∷ []) ∷ []) ∷ []
unfolding ranging
carried-ticks = refl

pub tails-judged : map (λ f. check_model (lone ++ z 6 ++ f.0)) tails ≡ map (λ f. f.1) tails
unfolding ranging
tails-judged = refl

pub ends-judged : map (λ f. check_model f.0) ends ≡ map (λ f. f.1) ends
unfolding ranging
ends-judged = refl
