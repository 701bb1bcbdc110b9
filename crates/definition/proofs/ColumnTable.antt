-- Traces and columns byte by byte: there and back, each condition of 17 and of 18 with what lies on its other side, a trace and columns cut at
-- every byte, 15 after both, and the traces of successive advances joined and rearranged. Assumes nothing.
use mathlib.Core.Path.{◌≡◌, refl}
use Prim.Native.Nat.{ℕ, suc, ◌^◌}
use mathlib.Core.List.{List, [], ◌∷◌, ◌++◌, map}
use lib.ListN.{take, set, replicate}
use Rattle.definition.specs.Lists.{concat, up_from}
use Rattle.definition.specs.Bytes.{Bytes, Result, ok, number_of}
use Rattle.definition.specs.Limits.{max_records}
use Rattle.definition.specs.Model.{Model}
use Rattle.definition.specs.File.{model_bytes}
use Rattle.definition.specs.Engine.{Wrote, start}
use Rattle.definition.specs.Flatten.{flat}
use Rattle.definition.specs.Calls.{AdvanceCall, Machine, answers, engine, flat_machine}
use Rattle.definition.specs.Pinned.TraceReader.{rearranged, restored, trace_to_columns, columns_to_trace}
use Rattle.definition.specs.TracesByColumn.{joined_traces}
use Rattle.definition.proofs.Models.{cue_source, nest}
use Rattle.definition.proofs.Table.{single, tabled}
use Rattle.definition.proofs.Literals.{b2, b3, b4, z, literals}

-- ---- there and back

-- Moments and numbers below 256.
unfoldable pub b8 : ℕ → Bytes
b8 t = t ∷ z 7

unfoldable pub eights : Bytes → Bytes
eights ts = concat (map b8 ts)

unfoldable pub twos : Bytes → Bytes
twos ns = concat (map (λ n. b2 n 0) ns)

-- At 20 step 0 and step 3, whose values 255 and 256 rise; then moment 256 with step 0 again; then the last moment that eight bytes hold, step
-- 60,000, with two equal messages.
unfoldable pub sample : Bytes
sample =
    b8 20 ++ b2 0 0 ++ b2 1 0 ++ b3 1 8 0
    ++ b8 20 ++ b2 3 0 ++ b2 2 0 ++ b3 0 255 0 ++ b3 0 0 1
    ++ 0 ∷ 1 ∷ z 6 ++ b2 0 0 ++ b2 1 0 ++ b3 2 9 0
    ++ replicate 8 255 ++ b2 96 234 ++ b2 3 0 ++ b3 0 255 255 ++ b3 3 0 1 ++ b3 3 0 1

unfoldable pub sample_columns : Bytes
sample_columns =
    -- four records, their moments, from byte 36 steps, from 44 message counts
    b4 4 0 0 0 ++ b8 20 ++ b8 20 ++ 0 ∷ 1 ∷ z 6 ++ replicate 8 255
    ++ b2 0 0 ++ b2 3 0 ++ b2 0 0 ++ b2 96 234
    ++ b2 1 0 ++ b2 2 0 ++ b2 1 0 ++ b2 3 0
    -- from 52 seven ports, from 59 their values
    ++ 1 ∷ b2 0 0 ++ 2 ∷ b3 0 3 3
    ++ b2 8 0 ++ b2 255 0 ++ b2 0 1 ++ b2 9 0 ++ b2 255 255 ++ b2 0 1 ++ b2 0 1

-- 256 equal messages in a record, a number of two bytes.
unfoldable pub many : Bytes
many = b8 5 ++ b2 0 0 ++ b2 0 1 ++ concat (replicate 256 (b3 1 8 0))

unfoldable pub many_columns : Bytes
many_columns = b4 1 0 0 0 ++ b8 5 ++ b2 0 0 ++ b2 0 1 ++ replicate 256 1 ++ twos (replicate 256 8)

-- ---- 17

-- A record of one message, at step k of moment t.
unfoldable pub one : ℕ → ℕ → Bytes
one t k = b8 t ++ b2 k 0 ++ b2 1 0 ++ b3 1 8 0

-- A record at 5 that says it has n messages.
unfoldable pub holding : ℕ → Bytes → Bytes
holding n xs = b8 5 ++ b2 0 0 ++ b2 n 0 ++ xs

unfoldable pub traces : List (Bytes × ℕ)
traces =
    -- pairs: equal, the moment falls, the step falls; the step alone rises, the moment rises and the step falls
    (one 20 1 ++ one 20 1, 17) ∷ (one 30 0 ++ one 20 1, 17) ∷ (one 20 2 ++ one 20 1, 17) ∷ (one 20 1 ++ one 20 2, 0) ∷ (one 20 2 ++ one 30 1, 0)
    -- the third pair is that of the first; moments 255 and 256, which rise, and 256 and 255
    ∷ (one 20 1 ++ one 20 2 ++ one 20 1, 17) ∷ (one 255 0 ++ set (one 0 0) 1 1, 0) ∷ (set (one 0 0) 1 1 ++ one 255 0, 17)
    -- an empty record, alone and behind another
    ∷ (holding 0 [], 17) ∷ (one 4 0 ++ holding 0 [], 17)
    -- messages: the port falls, the value falls, it falls though its low byte rises; equal ones, the port rises and the value falls
    ∷ (holding 2 (b3 1 0 0 ++ b3 0 0 0), 17) ∷ (holding 2 (b3 1 2 0 ++ b3 1 1 0), 17) ∷ (holding 2 (b3 1 0 1 ++ b3 1 1 0), 17)
    ∷ (holding 2 (b3 1 1 0 ++ b3 1 1 0), 0) ∷ (holding 2 (b3 0 9 0 ++ b3 1 1 0), 0)
    -- ports 3 and 4, and 4 in the second message
    ∷ (holding 1 (b3 3 0 0), 0) ∷ (holding 1 (b3 4 0 0), 17) ∷ (holding 2 (b3 3 0 0 ++ b3 4 0 0), 17)
    -- a byte left over; fewer messages than the count says, and more; a count of 256 with one message
    ∷ (one 20 0 ++ z 1, 17) ∷ (holding 2 (b3 0 0 0), 17) ∷ (holding 1 (b3 0 0 0 ++ b3 0 0 0), 17) ∷ (set (one 20 0) 11 1, 17) ∷ []

-- ---- 18

unfoldable pub columns : List (Bytes × ℕ)
columns =
    -- one record more and one less than there are, and 4,278,190,084
    (set sample_columns 0 5, 18) ∷ (set sample_columns 0 3, 18) ∷ (set sample_columns 3 255, 18)
    -- a byte left over; no record, and a message
    ∷ (sample_columns ++ z 1, 18) ∷ (z 7, 18)
    -- pairs: equal, the step falls, the moment falls; the step rises by one
    ∷ (set sample_columns 38 0, 18) ∷ (set sample_columns 36 4, 18) ∷ (set sample_columns 21 0, 18) ∷ (set sample_columns 36 2, 0)
    -- messages moved between the second record and the third: the second has none, or one of three, or all
    ∷ (set (set sample_columns 46 0) 48 3, 18) ∷ (set (set sample_columns 46 1) 48 2, 0) ∷ (set (set sample_columns 46 3) 48 0, 18)
    -- a message more and a message less than there are
    ∷ (set sample_columns 50 4, 18) ∷ (set sample_columns 50 2, 18)
    -- port 4 in the first and in the last record; ports that fall, values that fall and equal ones
    ∷ (set sample_columns 52 4, 18) ∷ (set sample_columns 58 4, 18) ∷ (set sample_columns 53 1, 18) ∷ (set sample_columns 62 1, 18)
    ∷ (set (set sample_columns 63 255) 64 0, 0) ∷ []

-- ---- what the calls answer

unfoldable pub writes : ℕ → Bytes → Wrote
writes n b = record { number = 0; written = n; buffer = b }

unfoldable pub refuses : ℕ → Bytes → Wrote
refuses n b = record { number = n; written = 0; buffer = b }

unfoldable pub sevens : ℕ → Bytes
sevens n = replicate n 7

unfoldable pub small : Bytes
small = one 20 0

unfoldable pub small_columns : Bytes
small_columns = b4 1 0 0 0 ++ b8 20 ++ b2 0 0 ++ b2 1 0 ++ 1 ∷ b2 8 0

-- ---- successive advances

unfoldable pub to : ℕ → Bytes → Bytes → AdvanceCall
to t bag trace = record { moment = t; bag = bag; trace = trace; table = [] }

-- The engine with a model and with its flat form, and the flat machine; and the run that a start saved.
unfoldable pub machines : Model → List Machine
machines m = engine (model_bytes m) ∷ engine (model_bytes (flat m)) ∷ flat_machine (model_bytes (flat m)) ∷ []

unfoldable pub started : Model → Bytes
started m = (start (model_bytes m) (z 40)).buffer

-- The numbers that advances of one machine in turn answer, their traces joined, and the columns of these.
unfoldable pub numbers : Machine → Bytes → List AdvanceCall → List ℕ
numbers k run [] = []
numbers k run (c ∷ cs) = (answers k run c).number ∷ numbers k (answers k run c).run cs

unfoldable pub joined_of : Machine → Bytes → List AdvanceCall → Bytes
joined_of k run calls = joined_traces run (map (λ c. (k, c)) calls)

unfoldable pub joined_columns : Machine → Bytes → List AdvanceCall → Result Bytes
joined_columns k run calls = rearranged (joined_of k run calls)

-- The worked example to 20; too early; to 30 with a trace that is too short; to 30. What lies past the bytes written is not joined.
unfoldable pub cue_calls : List AdvanceCall
cue_calls = to 20 [] (z 35) ∷ to 5 [] (z 40) ∷ to 30 [] (z 14) ∷ to 30 [] (sevens 20) ∷ []

-- The nest to 6, with two steps in an instant; with a trace that is too short for the instant at 10; to 15.
unfoldable pub nest_calls : List AdvanceCall
nest_calls = to 6 (b3 0 7 0 ++ b3 1 9 0) (z 55) ∷ to 15 (b3 0 8 0 ++ b3 0 8 0) (z 30) ∷ to 15 (b3 0 8 0 ++ b3 0 8 0) (sevens 90) ∷ []

unfoldable pub cue_columns : Bytes
cue_columns = b4 2 0 0 0 ++ eights (b2 20 30) ++ twos (b2 0 0) ++ twos (b2 1 1) ++ b2 1 1 ++ twos (b2 8 8)

unfoldable pub nest_columns : Bytes
nest_columns =
    b4 8 0 0 0 ++ eights (b4 5 5 6 10 ++ b4 10 11 15 15) ++ twos (b4 0 1 1 0 ++ b4 1 1 0 1) ++ twos (b4 1 3 1 1 ++ b4 3 1 1 3)
    ++ b4 0 0 0 1 ++ b2 0 0 ++ b4 0 0 1 0 ++ b4 0 0 0 1
    ++ twos (b4 7 8 100 10 ++ b2 100 7 ++ b4 8 100 9 100 ++ b4 7 8 100 9)

unfoldable pub columned : Type 0
unfolding
    tabled literals b8 eights twos sample sample_columns many many_columns one holding traces columns writes refuses sevens small small_columns
    to machines started numbers joined_of joined_columns cue_calls nest_calls cue_columns nest_columns
columned = Unit {0}

-- ---- the rows

-- an empty trace gives four zero bytes
pub columns-there : map rearranged (sample ∷ many ∷ small ∷ [] ∷ []) ≡ ok sample_columns ∷ ok many_columns ∷ ok small_columns ∷ ok (z 4) ∷ []
unfolding columned
columns-there = refl

pub traces-back : map restored (sample_columns ∷ many_columns ∷ small_columns ∷ z 4 ∷ []) ≡ ok sample ∷ ok many ∷ ok small ∷ ok [] ∷ []
unfolding columned
traces-back = refl

pub traces-judged : map (λ f. number_of (rearranged f.0)) traces ≡ map (λ f. f.1) traces
unfolding columned
traces-judged = refl

pub columns-judged : map (λ f. number_of (restored f.0)) columns ≡ map (λ f. f.1) columns
unfolding columned
columns-judged = refl

-- cut between two records a trace is one, anywhere else it is none
pub traces-cut : map (λ n. number_of (rearranged (take n (one 20 0 ++ one 20 1)))) (up_from 0 31) ≡ 0 ∷ replicate 14 17 ++ 0 ∷ replicate 14 17 ++ 0 ∷ []
unfolding columned
traces-cut = refl

pub columns-cut : map (λ n. number_of (restored (take n sample_columns))) (up_from 0 74) ≡ replicate 73 18 ++ 0 ∷ []
unfolding columned
columns-cut = refl

-- a buffer that is long enough to the byte, and one byte short; bytes past what is written stay; 17 and 18 before 15
pub columns-written : map (trace_to_columns small) (sevens 21 ∷ sevens 19 ∷ sevens 18 ∷ [] ∷ [])
    ≡ writes 19 (small_columns ++ b2 7 7) ∷ writes 19 small_columns ∷ refuses 15 (sevens 18) ∷ refuses 15 [] ∷ []
unfolding columned
columns-written = refl

pub traces-written : map (columns_to_trace small_columns) (sevens 17 ∷ sevens 15 ∷ sevens 14 ∷ [] ∷ [])
    ≡ writes 15 (small ++ b2 7 7) ∷ writes 15 small ∷ refuses 15 (sevens 14) ∷ refuses 15 [] ∷ []
unfolding columned
traces-written = refl

pub first-17 : map (trace_to_columns (small ++ small)) (sevens 34 ∷ sevens 33 ∷ [] ∷ []) ≡ refuses 17 (sevens 34) ∷ refuses 17 (sevens 33) ∷ refuses 17 [] ∷ []
unfolding columned
first-17 = refl

pub first-18 : map (columns_to_trace (small_columns ++ z 1)) (sevens 16 ∷ sevens 15 ∷ [] ∷ []) ≡ refuses 18 (sevens 16) ∷ refuses 18 (sevens 15) ∷ refuses 18 [] ∷ []
unfolding columned
first-18 = refl

-- an empty trace; nothing, which is no columns
pub none_written : trace_to_columns [] (sevens 3) ∷ trace_to_columns [] (sevens 5) ∷ columns_to_trace (z 4) [] ∷ columns_to_trace [] [] ∷ []
    ≡ refuses 15 (sevens 3) ∷ writes 4 (z 4 ++ 7 ∷ []) ∷ writes 0 [] ∷ refuses 18 [] ∷ []
unfolding columned
none_written = refl

-- four bytes count as many records as a trace may have
pub most-records : suc max_records ≡ 256 ^ 4
most-records = refl

-- 11 and 15 among them
pub cues-numbered : map (λ k. numbers k (started (cue_source 0 single)) cue_calls) (machines (cue_source 0 single)) ≡ replicate 3 (0 ∷ 11 ∷ 15 ∷ 0 ∷ [])
unfolding columned
cues-numbered = refl

pub cues-joined : map (λ k. joined_of k (started (cue_source 0 single)) cue_calls) (machines (cue_source 0 single)) ≡ replicate 3 (one 20 0 ++ one 30 0)
unfolding columned
cues-joined = refl

pub cues-there : map (λ k. joined_columns k (started (cue_source 0 single)) cue_calls) (machines (cue_source 0 single)) ≡ replicate 3 (ok cue_columns)
unfolding columned
cues-there = refl

-- by the model and by its flat form in turn, and between them another model, whose run it is not
pub cues-in-turn : (let m = cue_source 0 single in
    joined_traces (started m) ((engine (model_bytes m), to 20 [] (z 35)) ∷ (engine (model_bytes nest), to 25 [] (z 35)) ∷ (engine (model_bytes (flat m)), to 30 [] (z 35)) ∷ []))
    ≡ one 20 0 ++ one 30 0
unfolding columned
cues-in-turn = refl

pub nest-numbered : map (λ k. numbers k (started nest) nest_calls) (machines nest) ≡ replicate 3 (0 ∷ 15 ∷ 0 ∷ [])
unfolding columned
nest-numbered = refl

pub nest-there : map (λ k. joined_columns k (started nest) nest_calls) (machines nest) ≡ replicate 3 (ok nest_columns)
unfolding columned
nest-there = refl
